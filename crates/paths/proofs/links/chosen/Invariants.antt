use Rattle.std.proofs.Common.{◌≡◌, ℕ, Bool}
use Rattle.paths.specs.Links.{chosen, TestIs}
use Rattle.paths.proofs.links.chosen.Given as goal

abbrev pub invariant-loop-place : goal.invariant-loop-place
invariant-loop-place g l = (p : ℕ → Bool) → TestIs (goal.F-post g l.test) l.items p → l.found ≡ chosen p l.place
