use Rattle.std.proofs.Common.{◌≡◌, ◌++◌}
use Rattle.graph.specs.Ring.{entries, capacity}
use Rattle.process.specs.Left.{left}
use Rattle.process.specs.Sets.{above}
use Rattle.marking.proofs.Pairs.{pairs}
use Rattle.marking.proofs.recount.line_up.Given as goal

abbrev pub invariant-loop-flow : goal.invariant-loop-flow
invariant-loop-flow l = (entries l.work ++ pairs l.gateway (left l.flow-iterator) ≡ pairs l.gateway (above l.fn.tokens 0)) × (capacity l.work ≡ 64)
