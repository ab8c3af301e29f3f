use Rattle.std.proofs.Common.{◌≡◌, ℕ, Bool, Ok}
use Rattle.fault.specs.declared.model.ModelFault.{ModelFault}
use Rattle.model.specs.Asking.{Asks}
use Rattle.model.specs.Rules.{checked}
use Rattle.model.proofs.check.check.Given as goal

abbrev pub invariant-loop-place : goal.invariant-loop-place
invariant-loop-place g l =
    (rule : ℕ → Bool) (broken : ℕ → ModelFault) → Asks (goal.K-post g l.keeps) l.items rule → checked rule broken l.place ≡ Ok tt
