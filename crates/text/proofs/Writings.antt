-- What has the form of a number and what has not: digits, a leading zero, a sign.
use Rattle.std.proofs.Common.{◌≡◌, ℕ, zero, suc, ◌+◌, ◌^◌, ◌<◌, ◌≤◌, List, [], ◌∷◌, length, get_or, take, drop, ℤ, pos, negsuc, nat_abs, Some, None, decimal, Option, sym, ap, ◌∙◌, subst, add-one, arith, length-take, MatchOption}
use lib.Signed.{mag}
use Rattle.std.specs.Option.{SomeIff}
use Rattle.std.specs.Str.Parse.{AllDigits, digits_value}
use Rattle.std.specs.Char.{digit_value}
use Rattle.std.proofs.lemmas.Fmt.{digits_decimal, decimal-digits_value, length-decimal-le, decimal_nonempty, first_decimal, decimal_digit, decimal_injective, signed_decimal_injective}
use Rattle.std.proofs.lemmas.Str.Parse.{IsNumeralModel, numerals_by_value, tells_digits, digits_value_short}
use Rattle.text.specs.Numbers.{Writes, Spells}

own : IsNumeralModel (AllDigits 10) (digits_value 10)
own = numerals_by_value (AllDigits 10) tells_digits

pub digit-there : (ds : List ℕ) (i : ℕ) → i < length ds → AllDigits 10 ds → digit_value (get_or ds i 0) < 10
digit-there [] i h d = absurd (omega arith)
digit-there (c ∷ cs) zero h d = d.0
digit-there (c ∷ cs) (suc i) h d = digit-there cs i (omega arith) d.1

-- what is read before the last of ten digits is below 10 ^ 9
pub short : (ds : List ℕ) (i : ℕ) → i < length ds → length ds ≤ 10 → AllDigits 10 (take i ds) → digits_value 10 (take i ds) < 10 ^ 9
short ds i h few d = digits_value_short own (take i ds) 9 d (simp length-take (omega arith))

few : (n : ℕ) → n < 10 ^ 10 → n < 2 ^ 64
few n h = omega arith

-- ---- what is no writing of a number

pub not-long : (ds : List ℕ) (n : ℕ) → 10 < length ds → Writes ds n → ⊥
not-long ds n long w = omega (arith, ap length w.same, length-decimal-le 10 n (omega arith) w.short (few n w.short))

pub not-empty : (ds : List ℕ) (n : ℕ) → length ds ≡ 0 → Writes ds n → ⊥
not-empty ds n none w = omega (arith, ap length w.same, decimal_nonempty n (few n w.short))

pub no-zero-first : (ds : List ℕ) (n : ℕ) → get_or ds 0 0 ≡ 48 → 1 < length ds → Writes ds n → ⊥
no-zero-first ds zero z long w = omega (arith, ap length w.same, ap length (decimal_digit 0 (omega arith)))
no-zero-first ds (suc n) z long w = omega (arith, ap (λ l. get_or l 0 0) w.same, first_decimal (suc n) (omega arith) (few (suc n) w.short))

only-digits : (ds : List ℕ) (n : ℕ) → (AllDigits 10 ds → ⊥) → Writes ds n → ⊥
only-digits ds n nope w = nope (subst (AllDigits 10) (sym w.same) (digits_decimal own n (few n w.short)))

-- the writing of 0 is that of no other number
pub not-both : (ds : List ℕ) (m n : ℕ) → m ≡ 0 → Writes ds m → Writes ds (n + 1) → ⊥
not-both ds m n z a b =
    let e = decimal_injective m (n + 1) (few m a.short) (few (n + 1) b.short) (sym a.same ∙ b.same) in
    omega arith

-- ---- what is one

writes : (ds : List ℕ) → AllDigits 10 ds → 0 < length ds → length ds ≤ 10 → (get_or ds 0 0 ≡ 48 → length ds ≡ 1) → Writes ds (digits_value 10 ds)
writes ds d some most lead =
    let low : digits_value 10 ds < 10 ^ 10 = digits_value_short own ds 10 d most in
    record { short = low; same = sym (decimal-digits_value own ds d some lead (few (digits_value 10 ds) low)) }

pub read : (r : Option ℕ) (ds : List ℕ) → SomeIff r (AllDigits 10 ds) (digits_value 10 ds) → 0 < length ds → length ds ≤ 10 → (get_or ds 0 0 ≡ 48 → length ds ≡ 1) → MatchOption r ((n : ℕ) → Writes ds n → ⊥) (λ n. Writes ds n)
read None ds h some most lead = λ n w. only-digits ds n h w
read (Some x) ds h some most lead = subst (Writes ds) (sym h.1) (writes ds h.0 some most lead)

-- ---- the sign

pub cons-front : (w : List ℕ) (a : ℕ) → 0 < a → get_or w 0 0 ≡ a → w ≡ a ∷ drop 1 w
cons-front [] a h e = absurd (omega arith)
cons-front (b ∷ w) a h e = ap (λ x. x ∷ w) e

-- the first byte of a writing is a digit
pub digit-first : (n : ℕ) → n < 2 ^ 64 → 48 ≤ get_or (decimal n) 0 0
digit-first zero h = omega (arith, ap (λ l. get_or l 0 0) (decimal_digit 0 (omega arith)))
digit-first (suc n) h = omega (arith, first_decimal (suc n) (omega arith) h)

-- what follows a minus
minus-digits : (w : List ℕ) (v : ℤ) → get_or w 0 0 ≡ 45 → Spells w v → (n : ℕ) × Writes (drop 1 w) (n + 1)
minus-digits w (pos n) sign h = absurd (omega (arith, digit-first n (few n h.short), ap (λ l. get_or l 0 0) h.same))
minus-digits w (negsuc n) sign h = (n, rw add-one (record { short = h.short; same = ap (drop 1) h.same }))

pub signed-read : (r : Option ℤ) (w : List ℕ) → get_or w 0 0 ≡ 45
    → MatchOption r ((n : ℕ) → Writes (drop 1 w) (n + 1) → ⊥) (λ v. (n : ℕ) × (v ≡ negsuc n) × Writes (drop 1 w) (n + 1))
    → MatchOption r ((v : ℤ) → Spells w v → ⊥) (λ v. Spells w v)
signed-read None w sign h = λ v s. let p = minus-digits w v sign s in h p.0 p.1
signed-read (Some x) w sign h =
    let d = rw add-one at h.2 in
    subst (Spells w) (sym h.1) (record { short = d.short; same = cons-front w 45 (omega arith) sign ∙ ap (λ l. 45 ∷ l) d.same })

-- ---- one value

small : (v : ℤ) → nat_abs v < 10 ^ 10 → mag v < 2 ^ 63
small (pos n) h = omega arith
small (negsuc n) h = omega arith

pub one_value : (w : List ℕ) (u v : ℤ) → Spells w u → Spells w v → u ≡ v
one_value w u v a b = signed_decimal_injective u v (small u a.short) (small v b.short) (sym a.same ∙ b.same)
