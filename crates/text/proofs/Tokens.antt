-- Which word some bytes are, by the tests in their order, and which bytes are a given word.
use Rattle.std.proofs.Common.{◌≡◌, ℕ, ◌^◌, ◌<◌, Bool, true, false, cond, ltb, List, ◌∷◌, length, get_or, drop, ℤ, Some, None, decimal, Option, sym, refl, ap, ◌∙◌, subst, arith}
use lib.Signed.{mag}
use Rattle.std.specs.Fmt.{signed_decimal}
use Rattle.std.proofs.lemmas.Bool.{and_parts, and_right, both_ways, eqb-true}
use Rattle.process.specs.declared.flow.Operator.{Operator}
use Rattle.process.specs.declared.flow.Operator.TheVariants as operators
use Rattle.text.specs.declared.words.Keyword.{Keyword}
use Rattle.text.specs.declared.words.Keyword.TheVariants as keywords
use Rattle.text.specs.Numbers.{some_digits, number_shape, figure_shape}
use Rattle.text.specs.Words.{spelling, all_keywords, keyword_of, symbol, all_operators, operator_of, Token, keyword, number, figure, operator, if_keyword, if_operator, word_of}
use Rattle.text.proofs.Numerals.{number_shape-decimal, number_shape-signed, figure_shape-decimal}
use Rattle.text.proofs.Spellings.{some_same, spelled_is}
use Rattle.text.proofs.Writings.{cons-front}

-- ---- the tests in their order

module _ (w : List ℕ) where
  module _ (none : keyword_of w ≡ None) where
    pub word_number : number_shape w ≡ true → word_of w ≡ Some (number w)
    unfolding word_of
    word_number e = (λ i. if_keyword (none i) (cond (e i) (Some (number w)) (cond (figure_shape w) (Some (figure w)) (if_operator (operator_of w)))))

    module _ (plain : number_shape w ≡ false) where
      pub word-figure : figure_shape w ≡ true → word_of w ≡ Some (figure w)
      unfolding word_of
      word-figure e = (λ i. if_keyword (none i) (cond (plain i) (Some (number w)) (cond (e i) (Some (figure w)) (if_operator (operator_of w)))))

-- ---- the bytes of a word

-- the bytes are a way to write the word
abbrev pub Reads : List ℕ → Token → Type 0
Reads w (keyword k) = w ≡ spelling k
Reads w (number x) = (x ≡ w) × (number_shape w ≡ true)
Reads w (figure x) = (x ≡ w) × (figure_shape w ≡ true)
Reads w (operator o) = w ≡ symbol o

keyword-spelled : (w : List ℕ) (k : Keyword) → keyword_of w ≡ Some k → w ≡ spelling k
unfolding keyword_of
keyword-spelled w k e = spelled_is spelling all_keywords w k e

operator-spelled : (w : List ℕ) (o : Operator) → operator_of w ≡ Some o → w ≡ symbol o
unfolding operator_of
operator-spelled w o e = spelled_is symbol all_operators w o e

module _ (w : List ℕ) where
  told : (k : Option Keyword) (n f : Bool) (o : Option Operator) → keyword_of w ≡ k → number_shape w ≡ n → figure_shape w ≡ f → operator_of w ≡ o
      → (t : Token) → if_keyword k (cond n (Some (number w)) (cond f (Some (figure w)) (if_operator o))) ≡ Some t → Reads w t
  told (Some k) n f o ek en ef eo t e = subst (Reads w) (some_same e) (keyword-spelled w k ek)
  told None true f o ek en ef eo t e = subst (Reads w) (some_same e) (refl, en)
  told None false true o ek en ef eo t e = subst (Reads w) (some_same e) (refl, ef)
  told None false false (Some o) ek en ef eo t e = subst (Reads w) (some_same e) (operator-spelled w o eo)
  told None false false None ek en ef eo t e = absurd (let z : ◌≡◌ {A = ℕ} 0 1 = cc in omega arith)

  pub reads-from-word : (t : Token) → word_of w ≡ Some t → Reads w t
  unfolding word_of
  reads-from-word t e = told (keyword_of w) (number_shape w) (figure_shape w) (operator_of w) refl refl refl refl t e

-- ---- the word of some bytes

pub word-spelling : (k : Keyword) → word_of (spelling k) ≡ Some (keyword k)
unfolding word_of keyword_of
word-spelling keywords.Process = refl
word-spelling keywords.Node = refl
word-spelling keywords.Flow = refl
word-spelling keywords.Start = refl
word-spelling keywords.End = refl
word-spelling keywords.Xor = refl
word-spelling keywords.And = refl
word-spelling keywords.Or = refl
word-spelling keywords.Task = refl
word-spelling keywords.Default = refl
word-spelling keywords.If = refl
word-spelling keywords.Answer = refl

pub word-symbol : (o : Operator) → word_of (symbol o) ≡ Some (operator o)
unfolding word_of keyword_of operator_of
word-symbol operators.Less = refl
word-symbol operators.AtMost = refl
word-symbol operators.Equal = refl
word-symbol operators.NotEqual = refl
word-symbol operators.AtLeast = refl
word-symbol operators.Greater = refl

-- no keyword has the form of a number or a figure
no-shape : (k : Keyword) → (number_shape (spelling k) ≡ false) × (figure_shape (spelling k) ≡ false)
no-shape keywords.Process = (refl, refl)
no-shape keywords.Node = (refl, refl)
no-shape keywords.Flow = (refl, refl)
no-shape keywords.Start = (refl, refl)
no-shape keywords.End = (refl, refl)
no-shape keywords.Xor = (refl, refl)
no-shape keywords.And = (refl, refl)
no-shape keywords.Or = (refl, refl)
no-shape keywords.Task = (refl, refl)
no-shape keywords.Default = (refl, refl)
no-shape keywords.If = (refl, refl)
no-shape keywords.Answer = (refl, refl)

module _ (w : List ℕ) where
  number-no-keyword : number_shape w ≡ true → (k : Option Keyword) → keyword_of w ≡ k → k ≡ None
  number-no-keyword h None e = refl
  number-no-keyword h (Some k) e = absurd (both_ways (number_shape w) (ap number_shape (keyword-spelled w k e) ∙ (no-shape k).0) h)

  figure-no-keyword : figure_shape w ≡ true → (k : Option Keyword) → keyword_of w ≡ k → k ≡ None
  figure-no-keyword h None e = refl
  figure-no-keyword h (Some k) e = absurd (both_ways (figure_shape w) (ap figure_shape (keyword-spelled w k e) ∙ (no-shape k).1) h)

  figure-no-number : figure_shape w ≡ true → number_shape w ≡ false
  figure-no-number h =
      ap number_shape (cons-front w 118 (omega arith) (eqb-true (get_or w 0 0) 118 (and_parts _ (some_digits (drop 1 w)) h).0))
      ∙ and_right (ltb 0 (length (118 ∷ drop 1 w))) false refl

pub word-from-reads : (w : List ℕ) (t : Token) → Reads w t → word_of w ≡ Some t
word-from-reads w (keyword k) e = ap word_of e ∙ word-spelling k
word-from-reads w (number x) (e, h) = word_number w (number-no-keyword w h (keyword_of w) refl) h ∙ ap (λ y. Some (number y)) (sym e)
word-from-reads w (figure x) (e, h) = word-figure w (figure-no-keyword w h (keyword_of w) refl) (figure-no-number w h) h ∙ ap (λ y. Some (figure y)) (sym e)
word-from-reads w (operator o) e = ap word_of e ∙ word-symbol o

pub word-decimal : (n : ℕ) → n < 2 ^ 64 → word_of (decimal n) ≡ Some (number (decimal n))
word-decimal n h = word-from-reads (decimal n) (number (decimal n)) (refl, number_shape-decimal n h)

pub word-signed : (v : ℤ) → mag v < 2 ^ 63 → word_of (signed_decimal v) ≡ Some (number (signed_decimal v))
word-signed v h = word-from-reads (signed_decimal v) (number (signed_decimal v)) (refl, number_shape-signed v h)

pub word-figure-decimal : (n : ℕ) → n < 2 ^ 64 → word_of (118 ∷ decimal n) ≡ Some (figure (118 ∷ decimal n))
word-figure-decimal n h = word-from-reads (118 ∷ decimal n) (figure (118 ∷ decimal n)) (refl, figure_shape-decimal n h)
