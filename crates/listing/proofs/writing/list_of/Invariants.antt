use Rattle.std.proofs.Common.{◌≡◌, ◌++◌}
use Rattle.process.specs.Left.{left}
use Rattle.process.specs.Rows.{items}
use Rattle.process.specs.Sets.{above}
use Rattle.listing.proofs.writing.list_of.Given as goal

abbrev pub invariant-loop-flow : goal.invariant-loop-flow
invariant-loop-flow l = items l.flows ++ left l.flow-iterator ≡ above l.fn.set 0
