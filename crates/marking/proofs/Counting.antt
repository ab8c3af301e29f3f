-- What the number of the numbers with a property says.
use Rattle.std.proofs.Common.{◌≡◌, ℕ, zero, suc, ◌≤◌, ◌⊎◌, refl, ap, subst, inl, inr, ⊎_elim, arith}
use Rattle.std.proofs.lemmas.Bool.{cases_eq}
use Rattle.paths.specs.Paths.{NumberOf}
use Rattle.paths.specs.Paths.NumberOf.{none, one_more, no_more}

-- a property that holds or does not
abbrev pub Decided : Type 0 → Type 0
Decided P = P ⊎ (P → ⊥)

-- there is but one such number
pub same_number : {P : ℕ → Type 0} {n r q : ℕ} → NumberOf P n r → NumberOf P n q → r ≡ q
same_number none none = refl
same_number (one_more p m) (one_more _ k) = ap suc (same_number m k)
same_number (one_more p m) (no_more ne k) = absurd (ne p)
same_number (no_more ne m) (one_more p k) = absurd (ne p)
same_number (no_more _ m) (no_more _ k) = same_number m k

-- where it is 0 no number has the property
pub none-of-zero : {P : ℕ → Type 0} {n r : ℕ} → NumberOf P n r → r ≡ 0 → (k : ℕ) → 1 ≤ k → k ≤ n → P k → ⊥
none-of-zero none e k low high p = omega arith
none-of-zero (one_more _ m) e k low high p = omega arith
none-of-zero {P = P} (no_more {n = n} ne m) e k low high p = ⊎_elim (λ q. ne (subst P q p)) (λ q. none-of-zero m e k low (omega arith) p) (cases_eq k (suc n))

-- and where it is not 0 some number has it
pub some-of-more : {P : ℕ → Type 0} {n r : ℕ} → NumberOf P n r → (r ≡ 0 → ⊥) → (k : ℕ) × P k
some-of-more none ne = absurd (ne refl)
some-of-more (one_more {n = n} p m) ne = (suc n, p)
some-of-more (no_more _ m) ne = some-of-more m ne

module _ (P : ℕ → Type 0) (decided : (k : ℕ) → Decided (P k)) where
  -- a property that holds or does not has a number
  pub the_number : (n : ℕ) → (r : ℕ) × NumberOf P n r
  the_number zero = (0, none)
  the_number (suc n) = let m = the_number n in ⊎_elim (λ p. (suc m.0, one_more p m.1)) (λ ne. (m.0, no_more ne m.1)) (decided (suc n))

  -- and holds of some number or of none
  pub some_or_none : (n : ℕ) → ((k : ℕ) × P k) ⊎ ((k : ℕ) → 1 ≤ k → k ≤ n → P k → ⊥)
  some_or_none n = let m = the_number n in ⊎_elim (λ z. inr (none-of-zero m.1 z)) (λ ne. inl (some-of-more m.1 ne)) (cases_eq m.0 0)
