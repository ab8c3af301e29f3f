-- The recursions of specs/ that look for an element, in the words of std.
use Rattle.std.proofs.Common.{◌≡◌, ℕ, suc, ◌+◌, Bool, true, false, cond, not, List, ◌&&◌, refl, arith}
use Rattle.std.specs.List.{list_all, position_or_len}
use Rattle.std.specs.Char.{is_ascii_digit}
use Rattle.std.specs.Str.{all_ascii_digits}
use Rattle.std.proofs.lemmas.List.Recursion.{same_from_clauses, is_position_or_len}
use Rattle.std.proofs.lemmas.Bool.Decides.{nat_tests}
use Rattle.text.specs.Bytes.{allowed}
use Rattle.text.specs.Texts.{first_bad}

pub first_bad-is : (t : List ℕ) → first_bad t ≡ position_or_len (λ b. not (allowed b)) t
first_bad-is t = is_position_or_len first_bad (λ b. not (allowed b)) refl (λ b bs. turned (allowed b) (first_bad bs)) t
  where
    turned : (a : Bool) (n : ℕ) → cond a (suc n) 0 ≡ cond (not a) 0 (1 + n)
    turned true n = omega arith
    turned false n = refl

pub all_ascii_digits-is : (bs : List ℕ) → all_ascii_digits bs ≡ list_all is_ascii_digit bs
all_ascii_digits-is bs = same_from_clauses all_ascii_digits (list_all is_ascii_digit) (λ b r. is_ascii_digit b && r) refl (λ _ _. refl) (λ _ _. refl) bs

pub ruleset scans = (first_bad-is, nat_tests)
