use Rattle.std.proofs.Common.{length, sym, ap, ◌∙◌}
use Rattle.std.proofs.lemmas.Bool.{and_from}
use Rattle.process.specs.declared.flow.Flow.{Flow}
use Rattle.process.specs.Processes.{well_formed}
use Rattle.process.specs.Rows.{items}
use Rattle.process.proofs.Formed.{formed-flow, pushed, next-room}
use Rattle.process.proofs.draft.Draft.add_flow.Goals as goal

pub invariant_of-self : goal.invariant_of-self
invariant_of-self c =
    let d = c.args.self.now in
    let nodes = items d.nodes in
    let flows = items d.flows in
    let flow : Flow = record { from = c.args.from; to = c.args.to; guard = c.args.guard } in
    let p = pushed flows (items c.push.new.self) flow 64 c.push.result c.push.ensures.told (next-room 64 (length flows) c.args.line c.args.number _ c.in_ok-check_next.ensures) c.push.ensures.after in
    let ends = and_from _ _ (sym c.if-not-has_node.ensures) (and_from _ _ (sym c.if-not-has_node-2.ensures) (sym c.if-not-guard_in_range.ensures)) in
    record { formed = ap (λ fs. well_formed d.number nodes fs) p ∙ formed-flow d.number nodes flows d.formed flow ends }
