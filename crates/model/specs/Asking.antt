-- What the closures of a check answer.
use Rattle.std.specs.Prelude.{◌≡◌, ℕ, ◌+◌, ◌<◌, Bool, List, length, slice_index_or}
use Rattle.fault.specs.declared.model.ModelFault.{ModelFault}

-- asked of the number and the item at a place of the list, the answer is what the rule says of the number
abbrev pub Asks : {X : Type 0} → (ℕ → X → Bool → Type 0) → List X → (ℕ → Bool) → Type 0
Asks {X} answers xs rule = (i : ℕ) (x : X) (r : Bool) → i < length xs → x ≡ slice_index_or xs i x → answers (i + 1) x r → r ≡ rule (i + 1)

-- the fault that is told of each number up to n
abbrev pub Tells : (ℕ → ModelFault → Type 0) → ℕ → (ℕ → ModelFault) → Type 0
Tells told n fault = (i : ℕ) (f : ModelFault) → i < n → told (i + 1) f → f ≡ fault (i + 1)
