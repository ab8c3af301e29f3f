use Rattle.process.specs.Left.{left}
use Rattle.paths.proofs.Holding.{Joining}
use Rattle.paths.proofs.routing.Routing.leading_to.Given as goal

abbrev pub invariant-loop-end : goal.invariant-loop-end
invariant-loop-end l = Joining l.self.sources l.fn.ends l.found (left l.end-iterator)
