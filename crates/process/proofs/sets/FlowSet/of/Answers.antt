use Rattle.std.proofs.Common.{◌+◌, get_or, drop, sym, ap, ◌∙◌}
use Rattle.std.proofs.lemmas.List.{drop_more, at_drop_all}
use Rattle.process.specs.declared.sets.FlowSet.{FlowSet}
use Rattle.process.specs.Sets.{joined, just, these}
use Rattle.process.proofs.Membership.{joined-turn, joined-none, none-joined, these-none, these-more}
use Rattle.process.proofs.sets.FlowSet.of.Goals as goal

pub loop-flow-init : goal.loop-flow-init
loop-flow-init c = ap (λ (s : FlowSet). joined s (these (drop 0 c.args.flows.now))) c.empty-found.ensures ∙ joined-none (these (drop 0 c.args.flows.now))

pub loop-flow-preserved : goal.loop-flow-preserved
loop-flow-preserved c =
    let flows = c.args.flows.now in
    let i = c.loop-flow.flow-index in
    let rest = these (drop (i + 1) flows) in
    ap (λ (s : FlowSet). joined s rest) c.insert-found.ensures
    ∙ joined-turn c.loop-flow.found (just (get_or flows i 0)) rest
    ∙ ap (joined c.loop-flow.found) (sym (these-more (get_or flows i 0) (drop (i + 1) flows)) ∙ ap these (sym (drop_more flows i 0 c.loop-flow-test.true)))
    ∙ c.loop-flow.invariant

pub returns : goal.returns
returns c =
    let flows = c.args.flows.now in
    sym (none-joined c.loop-flow.found)
    ∙ ap (joined c.loop-flow.found) (sym (at_drop_all these flows c.loop-flow.flow-index c.loop-flow-test.false ∙ these-none))
    ∙ c.loop-flow.invariant
