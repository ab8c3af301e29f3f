use Rattle.std.proofs.Common.{Decides, sym, ◌∙◌, subst}
use Rattle.process.specs.declared.sets.FlowSet.{FlowSet}
use Rattle.process.specs.Sets.{has}
use Rattle.paths.specs.Paths.{Outgoing}
use Rattle.paths.specs.Routings.{model_of, flows_of}
use Rattle.paths.proofs.Chosen.{leaving-decides}
use Rattle.paths.proofs.Known.{tables-right}
use Rattle.paths.proofs.Nodes.{flows-few}
use Rattle.paths.proofs.routing.Routing.outgoing.Goals as goal

pub returns : goal.returns
returns c =
    let r = c.args.self.now in
    let n = c.args.node in
    λ f.
    subst (λ (s : FlowSet). Decides (has s f) (Outgoing (flows_of r) n f)) (sym (c.row.ensures ∙ (tables-right r).leave n))
    (leaving-decides (flows_of r) (flows-few (model_of r)) n f)
