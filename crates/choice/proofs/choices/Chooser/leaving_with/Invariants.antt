use Rattle.choice.proofs.Collected.{Tested}
use Rattle.choice.proofs.choices.Chooser.leaving_with.Given as goal

abbrev pub invariant-loop-place : goal.invariant-loop-place
invariant-loop-place g l = Tested l.self.flows.now l.self.node (goal.F-post g l.test) l.place l.found
