use Rattle.std.proofs.Common.{◌≡◌, ◌+◌, ◌*◌, ◌≤◌, length, drop}
use Rattle.process.specs.Rows.{items}
use Rattle.text.specs.Pieces.{pieces}
use Rattle.text.proofs.Joins.{weight}
use Rattle.reading.specs.Orders.{order_lines}
use Rattle.reading.proofs.order.order_lines.Given as goal

abbrev pub invariant-loop-index : goal.invariant-loop-index
invariant-loop-index l =
    (order_lines (length l.yielded + 1) (items l.lines) (drop (length l.yielded) (pieces 10 l.text)) ≡ order_lines 1 (items l.initial.lines) (pieces 10 l.text))
    × (11 * length (items l.lines) + weight (drop (length l.yielded) (pieces 10 l.text)) ≤ 16384)
