-- Which operator some bytes are, by how many they are.
use Rattle.std.proofs.Common.{◌≡◌, ℕ, cond, ◌&&◌, eqb, List, [], ◌∷◌, length, get_or, Some, None, Option, refl, arith}
use Rattle.std.proofs.lemmas.Bool.Decides.{nat_tests}
use Rattle.process.specs.declared.flow.Operator.{Operator}
use Rattle.process.specs.declared.flow.Operator.TheVariants.{Less, AtMost, Equal, NotEqual, AtLeast, Greater}
use Rattle.text.specs.Words.{operator_of}

abbrev pub one_byte : ℕ → Option Operator
one_byte a = cond (eqb a 60) (Some Less) (cond (eqb a 61) (Some Equal) (cond (eqb a 62) (Some Greater) None))

abbrev pub two_bytes : ℕ → ℕ → Option Operator
two_bytes a b = cond (eqb a 60 && eqb b 61) (Some AtMost) (cond (eqb a 60 && eqb b 62) (Some NotEqual) (cond (eqb a 62 && eqb b 61) (Some AtLeast) None))

pub operator-by-length : (w : List ℕ) → operator_of w ≡ cond (eqb (length w) 1) (one_byte (get_or w 0 0)) (cond (eqb (length w) 2) (two_bytes (get_or w 0 0) (get_or w 1 0)) None)
unfolding operator_of
operator-by-length [] = refl
operator-by-length (a ∷ []) = grind (arith, nat_tests)
operator-by-length (a ∷ b ∷ []) = grind (arith, nat_tests)
operator-by-length (a ∷ b ∷ c ∷ w) = grind (arith, nat_tests)

pub ruleset by_length = (operator-by-length, nat_tests)
