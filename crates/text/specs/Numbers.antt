-- Number words and figure words, and the numbers that they write.
use Rattle.std.specs.Prelude.{◌≡◌, ℕ, ◌^◌, ◌<◌, Bool, cond, not, ◌&&◌, ◌||◌, List, length, drop, ℤ, pos, neg_ℤ, ◌≤ℤ◌, Some, None, decimal, Option, ◌==◌, int_le, nat_lt, slice_index, unsigned_abs}
use Rattle.std.specs.Str.Parse.{digits_value, starts_with_minus}
use Rattle.std.specs.Fmt.{signed_decimal}
use Rattle.std.specs.Str.{all_ascii_digits}

-- one digit or more, and nothing else
abbrev pub some_digits : List ℕ → Bool
some_digits ds = nat_lt 0 (length ds) && all_ascii_digits ds

-- what stands after a minus, or the whole word where none stands in front
abbrev pub digits_of : List ℕ → List ℕ
digits_of w = cond (starts_with_minus w) (drop 1 w) w

-- a number word is digits, perhaps after a minus
abbrev pub number_shape : List ℕ → Bool
number_shape w = some_digits (digits_of w)

-- a figure word is `v` and digits
abbrev pub figure_shape : List ℕ → Bool
figure_shape w = slice_index w 0 == 118 && some_digits (drop 1 w)

-- no leading zero, and no `-0`
abbrev pub well_written : List ℕ → Bool
well_written w = not (slice_index (digits_of w) 0 == 48 && (starts_with_minus w || nat_lt 1 (length (digits_of w))))

-- the number that the digits write, below zero after a minus
abbrev pub number_value : List ℕ → ℤ
number_value w = cond (starts_with_minus w) (neg_ℤ (pos (digits_value 10 (digits_of w)))) (pos (digits_value 10 (digits_of w)))

-- the number that a word writes, where it is well written and lies from low to high
unfoldable pub numeral : ℤ → ℤ → List ℕ → Option ℤ
numeral low high w = cond (number_shape w && (well_written w && (int_le low (number_value w) && int_le (number_value w) high))) (Some (number_value w)) None

-- the digits are the writing of n, which has at most ten of them
pub record Writes (digits : List ℕ) (n : ℕ) : Type 0 where
  pub short : n < 10 ^ 10
  pub same : digits ≡ decimal n

-- the word is the writing of v, which has at most ten digits
pub record Spells (w : List ℕ) (v : ℤ) : Type 0 where
  pub short : unsigned_abs v < 10 ^ 10
  pub same : w ≡ signed_decimal v

-- the word is the writing of v, which lies from low to high
pub record Names (w : List ℕ) (low high v : ℤ) : Type 0 where
  pub from : low ≤ℤ v
  pub to : v ≤ℤ high
  pub same : w ≡ signed_decimal v
