use Rattle.std.proofs.Common.{Decides, sym, ◌∙◌, subst}
use Rattle.process.specs.declared.sets.FlowSet.{FlowSet}
use Rattle.process.specs.Sets.{has}
use Rattle.paths.specs.Paths.{Inbound}
use Rattle.paths.specs.Routings.{model_of, flows_of}
use Rattle.paths.proofs.Chosen.{entering-decides}
use Rattle.paths.proofs.Known.{tables-right}
use Rattle.paths.proofs.Nodes.{flows-few}
use Rattle.paths.proofs.routing.Routing.inbound.Goals as goal

pub returns : goal.returns
returns c =
    let r = c.args.self.now in
    let n = c.args.node in
    λ e.
    subst (λ (s : FlowSet). Decides (has s e) (Inbound (flows_of r) n e)) (sym (c.row.ensures ∙ (tables-right r).enter n))
    (entering-decides (flows_of r) (flows-few (model_of r)) n e)
