use Rattle.std.proofs.Common.{◌-◌, ◌≤◌}
use Rattle.engine.specs.Runs.{Runs}
use Rattle.engine.proofs.counts.Begun.run.Given as goal

abbrev pub invariant-loop-stop : goal.invariant-loop-stop
invariant-loop-stop g l = let w = g.S.Service.waits in (l.steps ≤ l.budget) × Runs l.budget l.initial.self l.initial.journal (w l.initial.service) l.steps l.self l.journal (w l.service)

abbrev pub decreases-loop-stop : goal.decreases-loop-stop
decreases-loop-stop g l = l.budget - l.steps
