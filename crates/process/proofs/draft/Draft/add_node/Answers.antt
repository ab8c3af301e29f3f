use Rattle.std.proofs.Common.{length, sym, ap, ◌∙◌}
use Rattle.process.specs.Processes.{well_formed}
use Rattle.process.specs.Rows.{items}
use Rattle.process.proofs.Formed.{formed-node, pushed, next-room}
use Rattle.process.proofs.draft.Draft.add_node.Goals as goal

pub invariant_of-self : goal.invariant_of-self
invariant_of-self c =
    let d = c.args.self.now in
    let nodes = items d.nodes in
    let flows = items d.flows in
    let p = pushed nodes (items c.push.new.self) c.args.kind 40 c.push.result c.push.ensures.told (next-room 40 (length nodes) c.args.line c.args.number _ c.in_ok-check_next.ensures) c.push.ensures.after in
    record { formed = ap (λ ns. well_formed d.number ns flows) p ∙ formed-node d.number nodes flows d.formed c.args.kind (sym c.if-not-kind_in_range.ensures) }
