use Rattle.std.proofs.Common.{◌≡◌, take}
use Rattle.service.specs.OrderFiles.{order_waits}
use Rattle.service.specs.Piles.{waits_in}
use Rattle.service.proofs.order_file.pile_of.Given as goal

abbrev pub invariant-loop-line : goal.invariant-loop-line
invariant-loop-line l = waits_in l.pile ≡ order_waits (take l.line-index l.lines)
