-- How long the writing of a number is.
use Rattle.std.proofs.Common.{◌≡◌, ℕ, ◌+◌, ◌/◌, ◌%◌, ◌^◌, ◌<◌, ◌≤◌, [], ◌∷◌, ◌++◌, length, ℤ, pos, negsuc, nat_abs, ◌<ℤ◌, decimal, refl, ap, ◌∙◌, arith, length-append}
use Rattle.std.specs.Fmt.{signed_decimal}
use Rattle.std.proofs.lemmas.Fmt.{decimal_digit, decimal_step, length-decimal-le}
use Rattle.std.proofs.lemmas.Int.{ints}

-- a number below 10 has one digit
pub one-digit : (n : ℕ) → n < 10 → length (decimal n) ≡ 1
one-digit n h = ap length (decimal_digit n h)

-- another has one more than its tenth
pub one_more : (n : ℕ) → 10 ≤ n → n < 2 ^ 64 → length (decimal n) ≡ length (decimal (n / 10)) + 1
one_more n h fits = ap length (decimal_step n h fits) ∙ length-append (decimal (n / 10)) ((48 + n % 10) ∷ [])

-- a number of 64 bits has at most 20 digits
pub twenty-digits : (n : ℕ) → n < 2 ^ 64 → length (decimal n) ≤ 20
twenty-digits n fits = length-decimal-le 20 n (omega arith) (omega arith) fits

-- a negative value is written as a minus and its size
pub signed-minus : (v : ℤ) → v <ℤ pos 0 → signed_decimal v ≡ (45 ∷ []) ++ decimal (nat_abs v)
signed-minus (pos n) h = absurd (omega (arith, ints))
signed-minus (negsuc n) h = refl

-- a number of 8 bits has at most 3 digits
pub three-digits : (n : ℕ) → n < 256 → length (decimal n) ≤ 3
three-digits n h = length-decimal-le 3 n (omega arith) (omega arith) (omega arith)

-- a flow's number has at most 2
pub two_digits : (n : ℕ) → n ≤ 64 → length (decimal n) ≤ 2
two_digits n h = length-decimal-le 2 n (omega arith) (omega arith) (omega arith)
