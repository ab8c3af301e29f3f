-- The flows of a set in order.
use Rattle.std.proofs.Common.{◌≡◌, ℕ, zero, suc, ◌+◌, ◌-◌, ◌/◌, ◌%◌, ◌^◌, ◌<◌, ◌≤◌, Bool, true, false, cond, not, ◌&&◌, eqb, [], ◌∷◌, length, Some, None, Option, sym, refl, ap, ◌∙◌, subst, ⊎_elim, shr-shr, shr_lt, pow_mono, add-one, arith, MatchOption}
use native.Mathlib.Nat.{div-eq_of_lt}
use Rattle.std.specs.Int.{bit_at}
use Rattle.std.specs.List.{slice_get}
use Rattle.std.proofs.lemmas.Bool.{cases_Bool, cases_eq, cases_order, cases_lt, both_ways, and_from, le-leb, eq-eqb, ne_eqb}
use Rattle.std.proofs.lemmas.Nat.{pow_pos}
use Rattle.process.specs.declared.sets.FlowSet.{FlowSet}
use Rattle.process.specs.Sets.{in_range, has, just, without, is_none, among, above, tally, Next, SetLaws}
use Rattle.process.proofs.Membership.{has-no_flows, has-just, has-joined, has-shared, has-without, none-in-zero, some_in, same-sets, tally-same, tally-front}

-- ---- one number on

module _ (s : FlowSet) where
  above-split : (n : ℕ) → n < 64 → above s n ≡ cond (has s (n + 1)) ((n + 1) ∷ above s (n + 1)) (above s (n + 1))
  unfolding above among
  above-split n h =
      let left : 64 - n ≡ suc (64 - suc n) = omega arith in
      ap (among s (suc n)) left ∙ subst (λ (m : ℕ). cond (has s (suc n)) (suc n ∷ among s (suc (suc n)) (64 - suc n)) (among s (suc (suc n)) (64 - suc n)) ≡ cond (has s m) (m ∷ among s (suc m) (64 - m)) (among s (suc m) (64 - m))) (sym (add-one n)) refl

  pub above-here : (n : ℕ) → n < 64 → has s (n + 1) ≡ true → above s n ≡ (n + 1) ∷ above s (n + 1)
  above-here n h t = above-split n h ∙ ap (λ (b : Bool). cond b ((n + 1) ∷ above s (n + 1)) (above s (n + 1))) t

  pub above-not : (n : ℕ) → n < 64 → has s (n + 1) ≡ false → above s n ≡ above s (n + 1)
  above-not n h t = above-split n h ∙ ap (λ (b : Bool). cond b ((n + 1) ∷ above s (n + 1)) (above s (n + 1))) t

  pub above-all : (n : ℕ) → 64 ≤ n → above s n ≡ []
  unfolding above among
  above-all n h = let left : 64 - n ≡ 0 = omega arith in ap (among s (suc n)) left

  -- ---- the lowest above a number

  abbrev pub Found : ℕ → ℕ → Option ℕ → Type 0
  Found n k r = MatchOption r ((m : ℕ) → n < m → m ≤ n + k → has s m ≡ false) (λ f. (n < f) × (f ≤ n + k) × (has s f ≡ true) × ((m : ℕ) → n < m → m < f → has s m ≡ false))

  found : (k n : ℕ) → Found n k (slice_get (among s (suc n) k) 0)
  unfolding among
  found zero n = λ m h l. absurd (omega arith)
  found (suc k) n = by (has s (suc n)) refl (found k (suc n))
    where
      later : has s (suc n) ≡ false → (r : Option ℕ) → Found (suc n) k r → Found n (suc k) r
      later t None q = λ m h l. ⊎_elim (λ e. ap (has s) e ∙ t) (λ ne. q m (omega arith) (omega arith)) (cases_eq m (suc n))
      later t (Some f) q =
          (omega (arith, q.0), omega (arith, q.1), q.2, λ m h l. ⊎_elim (λ e. ap (has s) e ∙ t) (λ ne. q.3 m (omega arith) l) (cases_eq m (suc n)))

      by : (b : Bool) → has s (suc n) ≡ b → Found (suc n) k (slice_get (among s (suc (suc n)) k) 0) → Found n (suc k) (slice_get (cond b (suc n ∷ among s (suc (suc n)) k) (among s (suc (suc n)) k)) 0)
      by true t q = (omega arith, omega arith, t, λ m h l. absurd (omega arith))
      by false t q = later t (slice_get (among s (suc (suc n)) k) 0) q

  pub next-found : (n : ℕ) → MatchOption (slice_get (above s n) 0) ((m : ℕ) → n < m → m ≤ 64 → has s m ≡ false) (Next s n)
  unfolding above
  next-found n = as-next (slice_get (among s (suc n) (64 - n)) 0) (found (64 - n) n)
    where
      as-next : (r : Option ℕ) → Found n (64 - n) r → MatchOption r ((m : ℕ) → n < m → m ≤ 64 → has s m ≡ false) (Next s n)
      as-next None q = λ m h l. q m h (omega arith)
      as-next (Some f) q = record { higher = q.0; range = omega (arith, q.0, q.1); member = q.2; first = q.3 }

  -- what `next_after` answers
  pub next-some : (n f : ℕ) → Some f ≡ slice_get (above s n) 0 → Next s n f
  next-some n f e = subst (λ (r : Option ℕ). MatchOption r ((m : ℕ) → n < m → m ≤ 64 → has s m ≡ false) (Next s n)) (sym e) (next-found n)

  pub next-none : (n : ℕ) → None ≡ slice_get (above s n) 0 → (m : ℕ) → n < m → m ≤ 64 → has s m ≡ false
  next-none n e = subst (λ (r : Option ℕ). MatchOption r ((m : ℕ) → n < m → m ≤ 64 → has s m ≡ false) (Next s n)) (sym e) (next-found n)

  -- there is only one
  next-one : (n f : ℕ) → Next s n f → (r : Option ℕ) → MatchOption r ((m : ℕ) → n < m → m ≤ 64 → has s m ≡ false) (Next s n) → Some f ≡ r
  next-one n f h None q = absurd (both_ways _ (q f h.higher h.range) h.member)
  next-one n f h (Some e) q = ⊎_elim (λ same. ap Some same) (⊎_elim (λ less. absurd (both_ways _ (q.first f h.higher less) h.member)) (λ more. absurd (both_ways _ (h.first e q.higher more) q.member))) (cases_order f e)

  pub next-is : (n f : ℕ) → Next s n f → Some f ≡ slice_get (above s n) 0
  next-is n f h = next-one n f h (slice_get (above s n) 0) (next-found n)

  -- the flow that is the next of a set, some numbers on
  above-next : (d n f : ℕ) → f ≡ d + (n + 1) → Next s n f → above s n ≡ f ∷ above s f
  above-next zero n f e h =
      let here : f ≡ n + 1 = omega arith in
      subst (λ (m : ℕ). above s n ≡ m ∷ above s m) (sym here) (above-here n (omega (arith, h.range)) (ap (has s) (sym here) ∙ h.member))
  above-next (suc d) n f e h =
      above-not n (omega (arith, h.range)) (h.first (n + 1) (omega arith) (omega arith))
      ∙ above-next d (n + 1) f (omega arith) (record { higher = omega arith; range = h.range; member = h.member; first = λ m low high. h.first m (omega arith) high })

  -- the lowest flow above a number stands first among those above it
  pub above-some : (n f : ℕ) → Some f ≡ slice_get (above s n) 0 → above s n ≡ f ∷ above s f
  above-some n f e = let h = next-some n f e in above-next (f - (n + 1)) n f (omega (arith, h.higher)) h

  -- the numbers after n that the set does not have are passed over
  above-over : (d n : ℕ) → n + d ≤ 64 → ((m : ℕ) → n < m → m ≤ n + d → has s m ≡ false) → above s n ≡ above s (n + d)
  above-over zero n h none = let e : n ≡ n + 0 = omega arith in ap (above s) e
  above-over (suc d) n h none =
      let e : n + 1 + d ≡ n + suc d = omega arith in
      above-not n (omega arith) (none (n + 1) (omega arith) (omega arith))
      ∙ above-over d (n + 1) (omega arith) (λ m low high. none m (omega arith) (omega arith))
      ∙ ap (above s) e

  -- ---- the word without its lowest bits

  has-shifted : (n i : ℕ) → has s (n + 1 + i) ≡ eqb (bit_at (s.bits / 2 ^ n) i) 1
  unfolding has
  has-shifted n i = let e : n + 1 + i ≡ suc (n + i) = omega arith in ap (has s) e ∙ ap (λ (x : ℕ). eqb (x % 2) 1) (sym (shr-shr s.bits n i))

  -- a flow above n is some bit of the shifted word
  has-above : (n m : ℕ) → n < m → has s m ≡ eqb (bit_at (s.bits / 2 ^ n) (m - (n + 1))) 1
  has-above n m h = let e : m ≡ n + 1 + (m - (n + 1)) = omega arith in ap (has s) e ∙ has-shifted n (m - (n + 1))

  -- no bit is left
  pub shifted-none : (n : ℕ) → s.bits / 2 ^ n ≡ 0 → None ≡ slice_get (above s n) 0
  shifted-none n e = none-one (slice_get (above s n) 0) (next-found n)
    where
      none : (m : ℕ) → n < m → has s m ≡ false
      none m h = has-above n m h ∙ ap (λ (x : ℕ). eqb (bit_at x (m - (n + 1))) 1) e ∙ ap (λ (x : ℕ). eqb (x % 2) 1) (div-eq_of_lt (pow_pos (m - (n + 1))))

      none-one : (r : Option ℕ) → MatchOption r ((m : ℕ) → n < m → m ≤ 64 → has s m ≡ false) (Next s n) → None ≡ r
      none-one None q = refl
      none-one (Some f) q = absurd (both_ways _ (none f q.higher) q.member)

  -- the shifted word
  pub shifted-fits : (n : ℕ) → n < 64 → s.bits < 2 ^ 64 → s.bits / 2 ^ n < 2 ^ (64 - n)
  shifted-fits n low fits = let e : 64 ≡ 64 - n + n = omega arith in shr_lt (64 - n) n (subst (λ (k : ℕ). s.bits < 2 ^ k) e fits)

  -- a digit that is set lies below the word's width
  digit-within : (x z k : ℕ) → x < 2 ^ k → bit_at x z ≡ 1 → z < k
  digit-within x z k fits here = ⊎_elim (λ h. h) (λ h. let more : 2 ^ k ≤ 2 ^ z = pow_mono h in let small : x < 2 ^ z = omega arith in let none = ap (λ (y : ℕ). y % 2) (div-eq_of_lt small) in absurd (omega (arith, here, none))) (cases_lt z k)

  -- the lowest bit that is left is that of the next flow
  pub shifted-some : (n z : ℕ) → n < 64 → s.bits < 2 ^ 64 → bit_at (s.bits / 2 ^ n) z ≡ 1 → ((i : ℕ) → i < z → bit_at (s.bits / 2 ^ n) i ≡ 0) → Some (n + 1 + z) ≡ slice_get (above s n) 0
  shifted-some n z low fits here before =
      let within = digit-within (s.bits / 2 ^ n) z (64 - n) (shifted-fits n low fits) here in
      next-is n (n + 1 + z)
      (record {
        higher = omega arith;
        range = omega (arith, within);
        member = has-shifted n z ∙ ap (λ (x : ℕ). eqb x 1) here;
        first = λ m h l. has-above n m h ∙ ap (λ (x : ℕ). eqb x 1) (before (m - (n + 1)) (omega arith));
      })

  -- ---- how many there are

  among-length : (k n : ℕ) → length (among s (suc n) k) ≡ tally (λ j. has s (j + n)) k
  unfolding among tally
  among-length zero n = refl
  among-length (suc k) n =
      by (has s (suc n)) (among-length k (suc n))
      ∙ ap (λ (b : Bool). cond b 1 0 + tally (λ j. has s (j + suc n)) k) (ap (has s) one)
      ∙ ap (λ (m : ℕ). cond (has s (1 + n)) 1 0 + m) (tally-same (λ j. has s (j + suc n)) (λ j. has s (suc j + n)) k (λ j h l. let e : j + suc n ≡ suc j + n = omega arith in ap (has s) e))
      ∙ sym (tally-front (λ j. has s (j + n)) k)
    where
      one : suc n ≡ 1 + n
      one = omega arith

      by : (b : Bool) → length (among s (suc (suc n)) k) ≡ tally (λ j. has s (j + suc n)) k
          → length (cond b (suc n ∷ among s (suc (suc n)) k) (among s (suc (suc n)) k)) ≡ cond b 1 0 + tally (λ j. has s (j + suc n)) k
      by true e = omega arith
      by false e = omega arith

  -- a set has at most 64 flows
  among-few : (k n : ℕ) → length (among s n k) ≤ k
  unfolding among
  among-few zero n = omega arith
  among-few (suc k) n = by (has s n) (among-few k (suc n))
    where
      by : (b : Bool) → length (among s (suc n) k) ≤ k → length (cond b (n ∷ among s (suc n) k) (among s (suc n) k)) ≤ suc k
      by true h = omega arith
      by false h = omega arith

  pub above-few : length (above s 0) ≤ 64
  unfolding above
  above-few = among-few 64 1

  pub above-length : length (above s 0) ≡ tally (has s) 64
  unfolding above
  above-length = among-length 64 0 ∙ tally-same _ _ 64 (λ j h l. let e : j + 0 ≡ j = omega arith in ap (has s) e)

-- ---- a set without its lowest flow

module _ (s t : FlowSet) where
  among-same : (k n : ℕ) → ((m : ℕ) → n ≤ m → m < n + k → has s m ≡ has t m) → among s n k ≡ among t n k
  unfolding among
  among-same zero n same = refl
  among-same (suc k) n same =
      ap (λ (b : Bool). cond b (n ∷ among s (suc n) k) (among s (suc n) k)) (same n (omega arith) (omega arith))
      ∙ ap (λ ms. cond (has t n) (n ∷ ms) ms) (among-same k (suc n) (λ m low high. same m (omega arith) (omega arith)))

  above-same : (n : ℕ) → ((m : ℕ) → n < m → m ≤ 64 → has s m ≡ has t m) → above s n ≡ above t n
  unfolding above
  above-same n same = among-same (64 - n) (suc n) (λ m low high. same m (omega arith) (omega arith))

-- the flow f itself, a flow that the set does not have, and another flow
gone-itself : (a r q : Bool) → r ≡ true → q ≡ true → (a && not (r && q)) ≡ false
gone-itself true r q e k = ap (λ x. not (x && q)) e ∙ ap not k
gone-itself false r q e k = refl

gone-already : (a b : Bool) → a ≡ false → (a && b) ≡ false
gone-already a b e = ap (λ x. x && b) e

kept-other : (a r q : Bool) → q ≡ false → (a && not (r && q)) ≡ a
kept-other true true q e = ap not e
kept-other true false q e = refl
kept-other false r q e = refl

-- once the lowest is taken out, those above it are left
pub above-taken : (s : FlowSet) (f : ℕ) → Some f ≡ slice_get (above s 0) 0 → above (without s (just f)) 0 ≡ above s f
above-taken s f e = above-over t f 0 (omega (arith, low.range)) gone ∙ ap (above t) none_more ∙ above-same t s f kept
  where
    t : FlowSet
    t = without s (just f)

    none_more : 0 + f ≡ f
    none_more = omega arith

    low : Next s 0 f
    low = next-some s 0 f e

    is : (m : ℕ) → has t m ≡ (has s m && not (in_range f && eqb m f))
    is m = has-without s (just f) m ∙ ap (λ b. has s m && not b) (has-just f m)

    gone : (m : ℕ) → 0 < m → m ≤ 0 + f → has t m ≡ false
    gone m higher most =
        is m
        ∙ ⊎_elim
        (λ same. gone-itself (has s m) (in_range f) (eqb m f) (and_from _ _ (le-leb 1 f (omega (arith, low.higher))) (le-leb f 64 low.range)) (eq-eqb m f same))
        (λ other. gone-already (has s m) _ (low.first m higher (omega arith)))
        (cases_eq m f)

    kept : (m : ℕ) → f < m → m ≤ 64 → has t m ≡ has s m
    kept m higher most = is m ∙ kept-other (has s m) (in_range f) (eqb m f) (ne_eqb m f (λ same. omega arith))

-- ---- the laws together

none_here : (s : FlowSet) → ((n : ℕ) → has s n ≡ false) → is_none s ≡ true
none_here s none = ⊎_elim (λ z. z) (λ z. let n = some_in s z in absurd (both_ways _ (none n.0) n.1)) (cases_Bool (is_none s))

pub set-laws : SetLaws
set-laws =
    record {
      no_flows_has = has-no_flows;
      just_has = has-just;
      joined_has = has-joined;
      shared_has = has-shared;
      without_has = has-without;
      none_has = λ s. (none-in-zero s, none_here s);
      next_has = next-found;
      same = same-sets;
    }
