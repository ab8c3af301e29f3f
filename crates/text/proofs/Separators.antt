-- No word holds a space or a line feed, nor any byte up to the space.
use Rattle.std.proofs.Common.{◌≡◌, ℕ, ◌≤◌, Bool, true, cond, ◌&&◌, eqb, ltb, leb, List, [], ◌∷◌, length, get_or, drop, Some, refl, ap, ◌∙◌, subst, ⊎_elim, arith}
use Rattle.std.specs.Str.Parse.{starts_with_minus}
use Rattle.std.specs.Char.{is_ascii_digit}
use Rattle.std.specs.Str.{all_ascii_digits}
use Rattle.std.proofs.lemmas.Bool.{and_from, and_parts, cases_Bool, eqb-true, leb-true, lt-ltb, ltb-true, ne_eqb, not_from_false}
use Rattle.process.specs.declared.flow.Operator.{Operator}
use Rattle.process.specs.declared.flow.Operator.TheVariants as operators
use Rattle.text.specs.declared.words.Keyword.{Keyword}
use Rattle.text.specs.declared.words.Keyword.TheVariants as keywords
use Rattle.text.specs.Numbers.{some_digits, number_shape, figure_shape}
use Rattle.text.specs.Pieces.{lacks}
use Rattle.text.specs.Words.{spelling, symbol, Token, keyword, number, figure, operator, word_of}
use Rattle.text.proofs.Tokens.{Reads, reads-from-word}
use Rattle.text.proofs.Writings.{cons-front}

-- each byte is above the space
abbrev visible : List ℕ → Bool
visible [] = true
visible (b ∷ bs) = ltb 32 b && visible bs

visible-lacks : (sep : ℕ) → sep ≤ 32 → (w : List ℕ) → visible w ≡ true → lacks sep w ≡ true
visible-lacks sep low [] h = refl
visible-lacks sep low (b ∷ bs) h =
    let p = and_parts (ltb 32 b) (visible bs) h in
    let high = ltb-true 32 b p.0 in
    and_from _ (lacks sep bs) (not_from_false (eqb b sep) (ne_eqb b sep (λ e. omega arith))) (visible-lacks sep low bs p.1)

visible-digits : (ds : List ℕ) → all_ascii_digits ds ≡ true → visible ds ≡ true
visible-digits [] h = refl
visible-digits (b ∷ bs) h =
    let p = and_parts (is_ascii_digit b) (all_ascii_digits bs) h in
    let high = leb-true 48 b (and_parts (leb 48 b) (leb b 57) p.0).0 in
    and_from _ (visible bs) (lt-ltb 32 b (omega arith)) (visible-digits bs p.1)

visible-some : (ds : List ℕ) → some_digits ds ≡ true → visible ds ≡ true
visible-some ds h = visible-digits ds (and_parts (ltb 0 (length ds)) (all_ascii_digits ds) h).1

visible-number : (w : List ℕ) → number_shape w ≡ true → visible w ≡ true
visible-number w h =
    ⊎_elim
    (λ m. ap visible (cons-front w 45 (omega arith) (eqb-true (get_or w 0 0) 45 m)) ∙ visible-some (drop 1 w) (subst (λ t. some_digits (cond t (drop 1 w) w) ≡ true) m h))
    (λ m. visible-some w (subst (λ t. some_digits (cond t (drop 1 w) w) ≡ true) m h))
    (cases_Bool (starts_with_minus w))

visible-figure : (w : List ℕ) → figure_shape w ≡ true → visible w ≡ true
visible-figure w h =
    let p = and_parts _ (some_digits (drop 1 w)) h in
    ap visible (cons-front w 118 (omega arith) (eqb-true (get_or w 0 0) 118 p.0)) ∙ visible-some (drop 1 w) p.1

visible-spelling : (k : Keyword) → visible (spelling k) ≡ true
visible-spelling keywords.Process = refl
visible-spelling keywords.Node = refl
visible-spelling keywords.Flow = refl
visible-spelling keywords.Start = refl
visible-spelling keywords.End = refl
visible-spelling keywords.Xor = refl
visible-spelling keywords.And = refl
visible-spelling keywords.Or = refl
visible-spelling keywords.Task = refl
visible-spelling keywords.Default = refl
visible-spelling keywords.If = refl
visible-spelling keywords.Answer = refl

visible-symbol : (o : Operator) → visible (symbol o) ≡ true
visible-symbol operators.Less = refl
visible-symbol operators.AtMost = refl
visible-symbol operators.Equal = refl
visible-symbol operators.NotEqual = refl
visible-symbol operators.AtLeast = refl
visible-symbol operators.Greater = refl

visible-reads : (w : List ℕ) (t : Token) → Reads w t → visible w ≡ true
visible-reads w (keyword k) e = ap visible e ∙ visible-spelling k
visible-reads w (number x) h = visible-number w h.1
visible-reads w (figure x) h = visible-figure w h.1
visible-reads w (operator o) e = ap visible e ∙ visible-symbol o

module _ (sep : ℕ) (low : sep ≤ 32) where
  pub lacks-word : (w : List ℕ) (t : Token) → word_of w ≡ Some t → lacks sep w ≡ true
  lacks-word w t e = visible-lacks sep low w (visible-reads w t (reads-from-word w t e))
