-- The number that a word writes, and the one word that writes a number.
use Rattle.std.proofs.Common.{◌≡◌, ℕ, zero, suc, ◌^◌, ◌<◌, Bool, true, false, cond, not, ◌&&◌, ◌||◌, eqb, ltb, List, ◌∷◌, length, get_or, drop, ℤ, pos, negsuc, neg_ℤ, nat_abs, ◌≤ℤ◌, Some, None, decimal, Option, sym, refl, ap, ◌∙◌, subst, ⊎_elim, arith, MatchOption}
use lib.Signed.{le_z, mag}
use Rattle.std.specs.Bool.{then_some}
use Rattle.std.specs.Str.Parse.{digits_value, starts_with_minus}
use Rattle.std.specs.Fmt.{signed_decimal}
use Rattle.std.specs.Str.{all_ascii_digits}
use Rattle.std.proofs.lemmas.Fmt.{digits_decimal, digits_value-decimal, decimal-digits_value, decimal_nonempty, first_decimal, decimal_digit}
use Rattle.std.proofs.lemmas.Str.Parse.{IsNumeralModel, numerals_by_value, tells_all_ascii_digits}
use Rattle.std.proofs.lemmas.Int.{ints}
use Rattle.std.proofs.lemmas.Bool.{both_ways, eqb-true, eqb-false, ltb-true, ltb-false, lt-ltb, ne_eqb, and_from, and_parts, and_cases, and_left, not-true, not_from_false, cond-true, cond-false, cases_Bool, or_parts, false≢true}
use Rattle.text.specs.Numbers.{some_digits, digits_of, number_shape, figure_shape, numeral, Names, Spells}
use Rattle.text.proofs.Writings.{cons-front, digit-first, one_value}

own : IsNumeralModel (λ ds. all_ascii_digits ds ≡ true) (digits_value 10)
own = numerals_by_value (λ ds. all_ascii_digits ds ≡ true) tells_all_ascii_digits

-- ---- the tests of `numeral`, over whether there is a minus and over the digits after it

abbrev worth : Bool → List ℕ → ℤ
worth m ds = cond m (neg_ℤ (pos (digits_value 10 ds))) (pos (digits_value 10 ds))

abbrev bad_zero : Bool → List ℕ → Bool
bad_zero m ds = eqb (get_or ds 0 0) 48 && (m || ltb 1 (length ds))

abbrev passes : ℤ → ℤ → Bool → List ℕ → Bool
passes low high m ds = some_digits ds && (not (bad_zero m ds) && (le_z low (worth m ds) && le_z (worth m ds) high))

abbrev judged : ℤ → ℤ → Bool → List ℕ → Option ℤ
judged low high m ds = cond (passes low high m ds) (Some (worth m ds)) None

numeral-is : (low high : ℤ) (w : List ℕ) → numeral low high w ≡ judged low high (starts_with_minus w) (digits_of w)
unfolding numeral
numeral-is low high w = refl

-- the digits write v, which lies from low to high
record Passed (low high : ℤ) (m : Bool) (ds : List ℕ) (v : ℤ) : Type 0 where
  digits : some_digits ds ≡ true
  lead : bad_zero m ds ≡ false
  is : worth m ds ≡ v
  from : low ≤ℤ v
  to : v ≤ℤ high

judged-yes : (low high : ℤ) (m : Bool) (ds : List ℕ) (v : ℤ) → Passed low high m ds v → judged low high m ds ≡ Some v
judged-yes low high m ds v p =
    let least : le_z low (worth m ds) ≡ true = rw p.is (let h = p.from in grind (arith, ints)) in
    let most : le_z (worth m ds) high ≡ true = rw p.is (let h = p.to in grind (arith, ints)) in
    cond-true (passes low high m ds) (Some (worth m ds)) None (and_from _ _ p.digits (and_from _ _ (not_from_false _ p.lead) (and_from _ _ least most))) ∙ ap Some p.is

is_some : (b : Bool) (x v : ℤ) → cond b (Some x) None ≡ Some v → (b ≡ true) × (x ≡ v)
is_some true x v e = (refl, cc)
is_some false x v e = absurd (let z : ◌≡◌ {A = ℕ} 0 1 = cc in omega arith)

judged-parts : (low high : ℤ) (m : Bool) (ds : List ℕ) (v : ℤ) → judged low high m ds ≡ Some v → Passed low high m ds v
judged-parts low high m ds v e =
    let p = is_some (passes low high m ds) (worth m ds) v e in
    let a = and_parts (some_digits ds) _ p.0 in
    let b = and_parts (not (bad_zero m ds)) _ a.1 in
    let c = and_parts (le_z low (worth m ds)) _ b.1 in
    let least : le_z low v ≡ true = ap (le_z low) (sym p.1) ∙ c.0 in
    let most : le_z v high ≡ true = ap (λ x. le_z x high) (sym p.1) ∙ c.1 in
    record { digits = a.0; lead = not-true _ b.0; is = p.1; from = grind (arith, ints); to = grind (arith, ints) }

-- ---- a writing passes the tests

some_digits-decimal : (n : ℕ) → n < 2 ^ 64 → some_digits (decimal n) ≡ true
some_digits-decimal n h = and_from _ _ (lt-ltb 0 (length (decimal n)) (decimal_nonempty n h)) (digits_decimal own n h)

no_minus : (n : ℕ) → n < 2 ^ 64 → starts_with_minus (decimal n) ≡ false
no_minus n h = ne_eqb (get_or (decimal n) 0 0) 45 (λ e. omega (arith, digit-first n h))

digits-of-decimal : (n : ℕ) → n < 2 ^ 64 → digits_of (decimal n) ≡ decimal n
digits-of-decimal n h = cond-false (starts_with_minus (decimal n)) (drop 1 (decimal n)) (decimal n) (no_minus n h)

-- no writing but that of 0 begins with 0
no_zero : (n : ℕ) → 0 < n → n < 2 ^ 64 → eqb (get_or (decimal n) 0 0) 48 ≡ false
no_zero n some h = ne_eqb (get_or (decimal n) 0 0) 48 (λ e. omega (arith, first_decimal n some h))

lead-decimal : (n : ℕ) → n < 2 ^ 64 → bad_zero false (decimal n) ≡ false
lead-decimal zero h = ap (bad_zero false) (decimal_digit 0 (omega arith))
lead-decimal (suc n) h = and_left _ (ltb 1 (length (decimal (suc n)))) (no_zero (suc n) (omega arith) h)

pub number_shape-decimal : (n : ℕ) → n < 2 ^ 64 → number_shape (decimal n) ≡ true
number_shape-decimal n h = ap some_digits (digits-of-decimal n h) ∙ some_digits-decimal n h

pub number_shape-signed : (v : ℤ) → mag v < 2 ^ 63 → number_shape (signed_decimal v) ≡ true
number_shape-signed (pos n) h = number_shape-decimal n (omega arith)
number_shape-signed (negsuc n) h = some_digits-decimal (suc n) (omega arith)

pub figure_shape-decimal : (n : ℕ) → n < 2 ^ 64 → figure_shape (118 ∷ decimal n) ≡ true
figure_shape-decimal n h = some_digits-decimal n h

-- what lies in the range of an `i32` is small
within : (low high v : ℤ) → mag low < 2 ^ 31 → mag high < 2 ^ 31 → low ≤ℤ v → v ≤ℤ high → mag v < 2 ^ 31
within low (pos b) (pos n) least most f t = omega (arith, ints)
within low (negsuc b) (pos n) least most f t = omega (arith, ints)
within (pos a) high (negsuc n) least most f t = omega (arith, ints)
within (negsuc a) high (negsuc n) least most f t = omega (arith, ints)

module _ (low high : ℤ) (least : mag low < 2 ^ 31) (most : mag high < 2 ^ 31) where
  passed : (v : ℤ) → mag v < 2 ^ 31 → low ≤ℤ v → v ≤ℤ high → Passed low high (starts_with_minus (signed_decimal v)) (digits_of (signed_decimal v)) v
  passed (pos n) h f t =
      let few : n < 2 ^ 64 = omega arith in
      subst (λ m. Passed low high m (digits_of (decimal n)) (pos n)) (sym (no_minus n few))
      (subst (λ ds. Passed low high false ds (pos n)) (sym (digits-of-decimal n few))
      (record { digits = some_digits-decimal n few; lead = lead-decimal n few; is = ap pos (digits_value-decimal own n few); from = f; to = t }))
  passed (negsuc n) h f t =
      let few : suc n < 2 ^ 64 = omega arith in
      record { digits = some_digits-decimal (suc n) few; lead = and_left _ true (no_zero (suc n) (omega arith) few); is = ap (λ k. neg_ℤ (pos k)) (digits_value-decimal own (suc n) few); from = f; to = t }

  -- a number is read back from its writing
  pub numeral-of-signed : (v : ℤ) → low ≤ℤ v → v ≤ℤ high → numeral low high (signed_decimal v) ≡ Some v
  numeral-of-signed v f t = numeral-is low high (signed_decimal v) ∙ judged-yes low high _ _ v (passed v (within low high v least most f t) f t)

-- ---- what passes the tests is a writing

decimal-digits : (m : Bool) (ds : List ℕ) → some_digits ds ≡ true → bad_zero m ds ≡ false → digits_value 10 ds < 2 ^ 64 → decimal (digits_value 10 ds) ≡ ds
decimal-digits m ds digits lead few =
    let a = and_parts (ltb 0 (length ds)) (all_ascii_digits ds) digits in
    let some = ltb-true 0 (length ds) a.0 in
    decimal-digits_value own ds a.1 some
    (λ z. ⊎_elim (λ e. absurd (eqb-false _ 48 e z)) (λ e. omega (arith, ltb-false 1 (length ds) (or_parts m _ e).1)) (and_cases (eqb (get_or ds 0 0) 48) _ lead))
    few

not-zero : (ds : List ℕ) → decimal 0 ≡ ds → bad_zero true ds ≡ false → ⊥
not-zero ds e lead = false≢true (sym lead ∙ ap (bad_zero true) (sym e ∙ decimal_digit 0 (omega arith)))

after_minus : (ds : List ℕ) (v : ℤ) → mag v < 2 ^ 31 → some_digits ds ≡ true → bad_zero true ds ≡ false → (k : ℕ) → digits_value 10 ds ≡ k → neg_ℤ (pos k) ≡ v → 45 ∷ ds ≡ signed_decimal v
after_minus ds v h digits lead zero e is = absurd (not-zero ds (ap decimal (sym e) ∙ decimal-digits true ds digits lead (omega arith)) lead)
after_minus ds v h digits lead (suc k) e is =
    let few : k < 2 ^ 31 = subst (λ x. mag x < 2 ^ 31) (sym is) h in
    ap (λ l. 45 ∷ l) (sym (ap decimal (sym e) ∙ decimal-digits true ds digits lead (omega arith))) ∙ ap signed_decimal is

plain-digits : (ds : List ℕ) (v : ℤ) → mag v < 2 ^ 31 → some_digits ds ≡ true → bad_zero false ds ≡ false → pos (digits_value 10 ds) ≡ v → ds ≡ signed_decimal v
plain-digits ds v h digits lead is =
    let few : digits_value 10 ds < 2 ^ 31 = subst (λ x. mag x < 2 ^ 31) (sym is) h in
    sym (decimal-digits false ds digits lead (omega arith)) ∙ ap signed_decimal is

few : (v : ℤ) → mag v < 2 ^ 31 → nat_abs v < 10 ^ 10
few (pos n) h = omega arith
few (negsuc n) h = omega arith

module _ (low high : ℤ) (least : mag low < 2 ^ 31) (most : mag high < 2 ^ 31) (w : List ℕ) where
  written : (v : ℤ) → Passed low high (starts_with_minus w) (digits_of w) v → w ≡ signed_decimal v
  written v p =
      let h = within low high v least most p.from p.to in
      ⊎_elim
      (λ m.
      let q = subst (λ t. Passed low high t (cond t (drop 1 w) w) v) m p in
      cons-front w 45 (omega arith) (eqb-true (get_or w 0 0) 45 m) ∙ after_minus (drop 1 w) v h q.digits q.lead (digits_value 10 (drop 1 w)) refl q.is)
      (λ m.
      let q = subst (λ t. Passed low high t (cond t (drop 1 w) w) v) m p in
      plain-digits w v h q.digits q.lead q.is)
      (cases_Bool (starts_with_minus w))

  -- a word that is read is the writing of the number that is read
  pub numeral-names : (v : ℤ) → numeral low high w ≡ Some v → Names w low high v
  numeral-names v e =
      let p = judged-parts low high (starts_with_minus w) (digits_of w) v (sym (numeral-is low high w) ∙ e) in
      record { from = p.from; to = p.to; same = written v p }

  none-names : (r : Option ℤ) → numeral low high w ≡ r → ((v : ℤ) → Names w low high v → ⊥) → None ≡ r
  none-names None e none = refl
  none-names (Some v) e none = absurd (none v (numeral-names v e))

  pub names-numeral : (r : Option ℤ) → MatchOption r ((v : ℤ) → Names w low high v → ⊥) (λ v. Names w low high v) → r ≡ numeral low high w
  names-numeral None none = none-names (numeral low high w) refl none
  names-numeral (Some v) n = sym (ap (numeral low high) n.same ∙ numeral-of-signed low high least most v n.from n.to)

  pub spells : (v : ℤ) → Names w low high v → Spells w v
  spells v n = record { short = few v (within low high v least most n.from n.to); same = n.same }

  -- a word names no number in range but the one that it writes
  pub same-value : (u v : ℤ) → Spells w u → Names w low high v → u ≡ v
  same-value u v s n = one_value w u v s (spells v n)

  -- what is told of the number that the word writes
  module _ (u : ℤ) (s : Spells w u) where
    pub too_wide : (mag u < 2 ^ 31 → ⊥) → (v : ℤ) → Names w low high v → ⊥
    too_wide wide v n = wide (subst (λ x. mag x < 2 ^ 31) (sym (same-value u v s n)) (within low high v least most n.from n.to))

    pub told : (b : Bool) → b ≡ (le_z low u && le_z u high) → MatchOption (then_some b u) ((v : ℤ) → Names w low high v → ⊥) (λ v. Names w low high v)
    told true e =
        let p = and_parts (le_z low u) (le_z u high) (sym e) in
        record { from = grind (arith, ints); to = grind (arith, ints); same = s.same }
    told false e = λ v n.
        let same = same-value u v s n in
        let least : le_z low u ≡ true = rw same (let f = n.from in grind (arith, ints)) in
        let most : le_z u high ≡ true = rw same (let t = n.to in grind (arith, ints)) in
        both_ways _ (sym e) (and_from _ _ least most)
