-- A rule that is checked number by number, and nodes and flows by their numbers.
use Rattle.std.proofs.Common.{◌≡◌, ℕ, zero, suc, ◌+◌, ◌<◌, ◌≤◌, Bool, true, false, cond, ◌⊎◌, Ok, Err, Result, sym, refl, ap, ◌∙◌, inl, inr, ⊎_elim, add-one, arith}
use Rattle.std.proofs.lemmas.Bool.{cases_lt, cases_Bool, cond-true, cond-false}
use Rattle.fault.specs.declared.model.ModelFault.{ModelFault}
use Rattle.model.specs.Rules.{checked, next_checked}

module _ (rule : ℕ → Bool) (fault : ℕ → ModelFault) (i : ℕ) (fine : checked rule fault i ≡ Ok tt) where
  next : (b : Bool) → b ≡ rule (i + 1) → checked rule fault (i + 1) ≡ cond b (Ok tt) (Err (fault (i + 1)))
  next b e =
      ap (checked rule fault) (add-one i)
      ∙ ap (next_checked rule fault (suc i)) fine
      ∙ ap (λ n. cond (rule n) (Ok tt) (Err (fault n))) (sym (add-one i))
      ∙ ap (λ t. cond t (Ok tt) (Err (fault (i + 1)))) (sym e)

  later : (m : ℕ) → checked rule fault (i + 1) ≡ Err (fault (i + 1)) → i + 1 ≤ m → checked rule fault m ≡ Err (fault (i + 1))
  later zero e h = absurd (omega arith)
  later (suc m) e h =
      ⊎_elim
      (λ lt. ap (next_checked rule fault (suc m)) (later m e (omega arith)))
      (λ ge. let same : suc m ≡ i + 1 = omega arith in ap (checked rule fault) same ∙ e)
      (cases_lt (i + 1) (suc m))

  pub checked-stop : (m : ℕ) → false ≡ rule (i + 1) → i + 1 ≤ m → checked rule fault m ≡ Err (fault (i + 1))
  checked-stop m e h = later m (next false e) h

-- what a verdict says of each number
module _ (rule : ℕ → Bool) (fault : ℕ → ModelFault) where
  step-fine : (n : ℕ) (r : Result (Unit {0}) ModelFault) → next_checked rule fault n r ≡ Ok tt → (r ≡ Ok tt) × (rule n ≡ true)
  step-fine n (Ok tt) e = (refl, ⊎_elim (λ t. t) (λ f. absurd (err-ok (sym (cond-false (rule n) (Ok tt) (Err (fault n)) f) ∙ e))) (cases_Bool (rule n)))
    where
      err-ok : ◌≡◌ {A = Result (Unit {0}) ModelFault} (Err (fault n)) (Ok tt) → ⊥
      err-ok q = let z : ◌≡◌ {A = ℕ} 0 1 = cc in omega arith
  step-fine n (Err f) e = let z : ◌≡◌ {A = ℕ} 0 1 = cc in absurd (omega arith)

  pub checked-all : (n : ℕ) → checked rule fault n ≡ Ok tt → (k : ℕ) → 1 ≤ k → k ≤ n → rule k ≡ true
  checked-all zero e k low high = absurd (omega arith)
  checked-all (suc n) e k low high =
      let p = step-fine (suc n) (checked rule fault n) e in
      ⊎_elim
      (λ lt. checked-all n p.0 k low (omega arith))
      (λ ge. let same : suc n ≡ k = omega arith in ap rule (sym same) ∙ p.1)
      (cases_lt k (suc n))

  pub record FirstBroken (n : ℕ) (f : ModelFault) : Type 0 where
    pub at : ℕ
    pub low : 1 ≤ at
    pub high : at ≤ n
    pub told : f ≡ fault at
    pub here : rule at ≡ false
    pub lower : (k : ℕ) → 1 ≤ k → k < at → rule k ≡ true

  step-broken : (n : ℕ) (r : Result (Unit {0}) ModelFault) (f : ModelFault) → next_checked rule fault n r ≡ Err f → (r ≡ Err f) ⊎ ((r ≡ Ok tt) × (rule n ≡ false) × (f ≡ fault n))
  step-broken n (Ok tt) f e =
      ⊎_elim
      (λ t. absurd (ok-err (sym (cond-true (rule n) (Ok tt) (Err (fault n)) t) ∙ e)))
      (λ b. inr (refl, b, same (sym (cond-false (rule n) (Ok tt) (Err (fault n)) b) ∙ e)))
      (cases_Bool (rule n))
    where
      ok-err : ◌≡◌ {A = Result (Unit {0}) ModelFault} (Ok tt) (Err f) → ⊥
      ok-err q = let z : ◌≡◌ {A = ℕ} 0 1 = cc in omega arith

      same : ◌≡◌ {A = Result (Unit {0}) ModelFault} (Err (fault n)) (Err f) → f ≡ fault n
      same q = cc
  step-broken n (Err g) f e = inl e

  pub checked-first : (n : ℕ) (f : ModelFault) → checked rule fault n ≡ Err f → FirstBroken n f
  checked-first zero f e = let z : ◌≡◌ {A = ℕ} 0 1 = cc in absurd (omega arith)
  checked-first (suc n) f e =
      ⊎_elim
      (λ q. let p = checked-first n f q in record { at = p.at; low = p.low; high = omega (arith, p.high); told = p.told; here = p.here; lower = p.lower })
      (λ q. record { at = suc n; low = omega arith; high = omega arith; told = q.2; here = q.1; lower = λ k low high. checked-all n q.0 k low (omega arith) })
      (step-broken (suc n) (checked rule fault n) f e)
