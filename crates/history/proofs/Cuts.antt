-- The front of a list, as long as the shorter of two lengths.
use Rattle.std.proofs.Common.{◌≡◌, ℕ, ◌<◌, ◌≤◌, min, List, length, take, sym, ap, ◌∙◌, ⊎_elim, arith}
use Rattle.std.proofs.lemmas.List.{take_all}
use Rattle.std.proofs.lemmas.Bool.{cases_lt}

pub take-shorter : {X : Type 0} (xs : List X) (k p : ℕ) → p ≡ min (length xs) k → take p xs ≡ take k xs
take-shorter xs k p e =
    ⊎_elim
    (λ (l : k < length xs). let same : p ≡ k = omega (arith, e, l) in ap (λ (n : ℕ). take n xs) same)
    (λ (l : length xs ≤ k). let all : length xs ≤ p = omega (arith, e, l) in take_all p xs all ∙ sym (take_all k xs l))
    (cases_lt k (length xs))
