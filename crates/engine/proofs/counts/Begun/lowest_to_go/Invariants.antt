use Rattle.engine.proofs.Turns.{Looked}
use Rattle.engine.proofs.counts.Begun.lowest_to_go.Given as goal

abbrev pub invariant-loop-node : goal.invariant-loop-node
invariant-loop-node g l = Looked l.self (g.S.Service.waits l.service) l.node l.stop
