use Rattle.std.proofs.Common.{ap, ◌∙◌}
use Rattle.process.specs.Drafts.{number_of, nodes_of, flows_of}
use Rattle.model.proofs.First.{first_made, first-kept}
use Rattle.model.proofs.model.Model.new.Goals as goal

pub unreachable-requires-in_default-check : goal.unreachable-requires-in_default-check
unreachable-requires-in_default-check c =
    let made = first_made c.in-Ok.process c.add_node.new.self c.add_node-2.new.self c.add_flow.new.self c.add_node.result c.add_node-2.result c.add_flow.result (c.in-Ok.ensures.1, c.in-Ok.ensures.2, c.in-Ok.ensures.3) c.add_node.ensures c.add_node-2.ensures c.add_flow.ensures in
    first-kept c.in_default-check.field-0 (nodes_of c.add_flow.new.self) (flows_of c.add_flow.new.self) made.1 made.2 c.in_default-check.ensures.cases.broken

pub returns : goal.returns
returns c =
    let made = first_made c.in-Ok.process c.add_node.new.self c.add_node-2.new.self c.add_flow.new.self c.add_node.result c.add_node-2.result c.add_flow.result (c.in-Ok.ensures.1, c.in-Ok.ensures.2, c.in-Ok.ensures.3) c.add_node.ensures c.add_node-2.ensures c.add_flow.ensures in
    let same = c.in-Ok-check.ensures.cases in
    record { number = ap number_of same ∙ made.0; nodes = ap nodes_of same ∙ made.1; flows = ap flows_of same ∙ made.2 }
