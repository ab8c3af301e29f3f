use Rattle.std.proofs.Common.{length}
use Rattle.graph.specs.Ring.{entries}
use Rattle.marking.proofs.Pairs.{InAll}
use Rattle.marking.proofs.recount.recount_gateway.Given as goal

abbrev pub invariant-loop-flow : goal.invariant-loop-flow
invariant-loop-flow l = InAll l.held_by l.number (entries l.work)

abbrev pub decreases-loop-flow : goal.decreases-loop-flow
decreases-loop-flow l = length (entries l.work)
