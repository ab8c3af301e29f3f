-- Items by their numbers, with a value for the numbers that no item has.
use Rattle.std.proofs.Common.{◌≡◌, ℕ, zero, suc, List, Option, get_or, sym, ap, ◌∙◌}
use Rattle.std.specs.Option.{unwrap_or}
use Rattle.std.proofs.lemmas.Option.{unwrap_or-slice_get}
use Rattle.process.specs.Numbered.{numbered}

-- F is any definition that goes by cases on the number
module _ {X : Type 0} (xs : List X) (d : X) (F : ℕ → X) (none : F zero ≡ d) (some : (k : ℕ) → F (suc k) ≡ get_or xs k d) where
  numbered-or : (n : ℕ) → unwrap_or (numbered xs n) d ≡ F n
  numbered-or zero = sym none
  numbered-or (suc k) = unwrap_or-slice_get xs k d ∙ sym (some k)

  -- the same of a number that was widened and looked up before
  pub looked-up : (n k : ℕ) (o : Option X) (r : X) → k ≡ n → o ≡ numbered xs k → r ≡ unwrap_or o d → r ≡ F n
  looked-up n k o r wide found told = told ∙ ap (λ (x : Option X). unwrap_or x d) (found ∙ ap (numbered xs) wide) ∙ numbered-or n
