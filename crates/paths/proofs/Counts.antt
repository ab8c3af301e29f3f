-- How many numbers pass a test.
use Rattle.std.proofs.Common.{◌≡◌, ℕ, zero, suc, ◌+◌, ◌-◌, ◌<◌, ◌≤◌, Bool, true, false, cond, Decides, sym, refl, ap, ◌∙◌, subst, ⊎_elim, arith}
use Rattle.std.proofs.lemmas.Bool.{both_ways, cases_eq, true≢false}
use Rattle.process.specs.Sets.{tally}
use Rattle.paths.specs.Paths.{NumberOf}
use Rattle.paths.specs.Paths.NumberOf.{none, one_more, no_more}

nothing-below : {X : Type 0} (x : ℕ) → 1 ≤ x → x ≤ 0 → X
nothing-below x h l = absurd (omega arith)

tally-mono : (p q : ℕ → Bool) (n : ℕ) → ((k : ℕ) → p k ≡ true → q k ≡ true) → tally p n ≤ tally q n
unfolding tally
tally-mono p q zero h = omega arith
tally-mono p q (suc n) h = both (p (suc n)) (q (suc n)) (h (suc n)) (tally-mono p q n h)
  where
    both : (a b : Bool) → (a ≡ true → b ≡ true) → tally p n ≤ tally q n → cond a 1 0 + tally p n ≤ cond b 1 0 + tally q n
    both true true i l = omega arith
    both true false i l = absurd (both_ways false refl (i refl))
    both false true i l = omega arith
    both false false i l = omega arith

-- a weaker test that one number more passes counts more
pub tally-strict : (p q : ℕ → Bool) (n x : ℕ) → ((k : ℕ) → p k ≡ true → q k ≡ true) → 1 ≤ x → x ≤ n → p x ≡ false → q x ≡ true → tally p n < tally q n
unfolding tally
tally-strict p q zero x h i l a b = nothing-below x i l
tally-strict p q (suc n) x h i l a b =
    ⊎_elim (λ e. here (p (suc n)) (q (suc n)) (ap p (sym e) ∙ a) (ap q (sym e) ∙ b) (tally-mono p q n h))
    (λ ne. below (p (suc n)) (q (suc n)) (h (suc n)) (tally-strict p q n x h i (omega arith) a b))
    (cases_eq x (suc n))
  where
    here : (a b : Bool) → a ≡ false → b ≡ true → tally p n ≤ tally q n → cond a 1 0 + tally p n < cond b 1 0 + tally q n
    here false true u v w = omega arith
    here true b u v w = absurd (both_ways true u refl)
    here false false u v w = absurd (both_ways false refl v)

    below : (a b : Bool) → (a ≡ true → b ≡ true) → tally p n < tally q n → cond a 1 0 + tally p n < cond b 1 0 + tally q n
    below true true i l = omega arith
    below true false i l = absurd (both_ways false refl (i refl))
    below false true i l = omega arith
    below false false i l = omega arith

pub tally-le : (p : ℕ → Bool) (n : ℕ) → tally p n ≤ n
unfolding tally
tally-le p zero = omega arith
tally-le p (suc n) = by (p (suc n)) (tally-le p n)
  where
    by : (a : Bool) → tally p n ≤ n → cond a 1 0 + tally p n ≤ suc n
    by true l = omega arith
    by false l = omega arith

tally-skip : (p : ℕ → Bool) (n : ℕ) → p (suc n) ≡ false → tally p (suc n) ≡ tally p n
unfolding tally
tally-skip p n t = by (p (suc n)) t
  where
    by : (b : Bool) → b ≡ false → cond b 1 0 + tally p n ≡ tally p n
    by true q = absurd (true≢false q)
    by false q = omega arith

tally-more : (p : ℕ → Bool) (n d : ℕ) → ((k : ℕ) → n < k → p k ≡ false) → tally p (d + n) ≡ tally p n
tally-more p n zero h = let e : 0 + n ≡ n = omega arith in ap (tally p) e
tally-more p n (suc d) h = let e : suc d + n ≡ suc (d + n) = omega arith in ap (tally p) e ∙ tally-skip p (d + n) (h (suc (d + n)) (omega arith)) ∙ tally-more p n d h

-- numbers that do not pass count nothing
pub tally-above : (p : ℕ → Bool) (n m : ℕ) → n ≤ m → ((k : ℕ) → n < k → p k ≡ false) → tally p m ≡ tally p n
tally-above p n m l h = let e : m ≡ (m - n) + n = omega arith in ap (tally p) e ∙ tally-more p n (m - n) h

pub none-from-tally : (p : ℕ → Bool) (n : ℕ) → tally p n ≡ 0 → (k : ℕ) → 1 ≤ k → k ≤ n → p k ≡ false
unfolding tally
none-from-tally p zero z k h l = nothing-below k h l
none-from-tally p (suc n) z k h l = ⊎_elim (λ q. ap p q ∙ last (p (suc n)) z) (λ q. none-from-tally p n (omega arith) k h (omega arith)) (cases_eq k (suc n))
  where
    last : (b : Bool) → cond b 1 0 + tally p n ≡ 0 → b ≡ false
    last true e = absurd (omega arith)
    last false e = refl

-- a test counts what it decides
pub number-from-tally : (P : ℕ → Type 0) (p : ℕ → Bool) (n : ℕ) → ((k : ℕ) → 1 ≤ k → k ≤ n → Decides (p k) (P k)) → NumberOf P n (tally p n)
unfolding tally
number-from-tally P p zero d = none
number-from-tally P p (suc n) d = by (p (suc n)) (d (suc n) (omega arith) (omega arith)) (number-from-tally P p n (λ k h l. d k h (omega arith)))
  where
    by : (b : Bool) → Decides b (P (suc n)) → NumberOf P n (tally p n) → NumberOf P (suc n) (cond b 1 0 + tally p n)
    by true e r = let one : suc (tally p n) ≡ 1 + tally p n = omega arith in subst (NumberOf P (suc n)) one (one_more (e.0 refl) r)
    by false e r = let zero : tally p n ≡ 0 + tally p n = omega arith in subst (NumberOf P (suc n)) zero (no_more (λ x. true≢false (sym (e.1 x))) r)
