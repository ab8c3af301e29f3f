use Rattle.std.proofs.Common.{ℕ, Decides, ap, ◌∙◌, subst}
use Rattle.process.specs.declared.sets.FlowSet.{FlowSet}
use Rattle.process.specs.Sets.{has, without}
use Rattle.paths.specs.Routings.{model_of, flows_of, sources_of}
use Rattle.paths.specs.Tables.{LeadsTo}
use Rattle.paths.proofs.Holding.{holders-decide}
use Rattle.paths.proofs.Known.{tables-right}
use Rattle.paths.proofs.Nodes.{flows-few}
use Rattle.paths.proofs.rule.holders.Goals as goal

pub returns : goal.returns
returns c =
    let r = c.args.routing.now in
    let lead = λ (s : FlowSet) (t : FlowSet) (f : ℕ). Decides (has s f) (LeadsTo (sources_of r) t 64 f) in
    let empty = c.leading_to-lead_to_empty in
    let token = c.leading_to-lead_to_token in
    holders-decide (flows_of r) (flows-few (model_of r)) (sources_of r) (tables-right r).reach c.args.tokens c.inbound-inbound.result c.args.gateway c.inbound-inbound.ensures
    empty.result token.result c.difference-2.result
    (λ f. subst (λ (t : FlowSet). lead empty.result t f) c.difference.ensures (empty.ensures f))
    (λ f. subst (λ (t : FlowSet). lead token.result t f) c.intersection.ensures (token.ensures f))
    (c.difference-2.ensures ∙ ap (λ (s : FlowSet). without s token.result) c.intersection-2.ensures)
