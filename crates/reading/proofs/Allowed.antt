-- Each byte of a word is allowed in a text.
use Rattle.std.proofs.Common.{◌≡◌, ℕ, suc, Bool, true, cond, ◌&&◌, eqb, ltb, List, [], ◌∷◌, ◌++◌, length, Some, sym, refl, ap, ◌∙◌, ⊎_elim}
use Rattle.std.specs.Char.{is_ascii_digit}
use Rattle.std.specs.List.{AllByRecursion as All}
use Rattle.std.specs.Str.{all_ascii_digits}
use Rattle.std.proofs.lemmas.Bool.{and_from, and_parts, cases_Bool, cond-true, eqb-true, or_left, or_right}
use Rattle.process.specs.declared.flow.Operator.{Operator}
use Rattle.process.specs.declared.flow.Operator.TheVariants as operators
use Rattle.text.specs.declared.words.Keyword.{Keyword}
use Rattle.text.specs.declared.words.Keyword.TheVariants as keywords
use Rattle.text.specs.Bytes.{letter, digit, allowed}
use Rattle.text.specs.Numbers.{some_digits, number_shape, figure_shape}
use Rattle.text.specs.Pieces.{joined}
use Rattle.text.specs.Texts.{first_bad}
use Rattle.text.specs.Words.{Token, keyword, number, figure, operator, spelling, symbol, word_of}
use Rattle.text.proofs.Tokens.{Reads, reads-from-word}

abbrev pub all_allowed : List ℕ → Bool
all_allowed [] = true
all_allowed (b ∷ bs) = allowed b && all_allowed bs

-- no offset is that of a bad byte
pub none-bad : (bs : List ℕ) → all_allowed bs ≡ true → first_bad bs ≡ length bs
none-bad [] h = refl
none-bad (b ∷ bs) h =
    let p = and_parts (allowed b) (all_allowed bs) h in
    cond-true (allowed b) (suc (first_bad bs)) 0 p.0 ∙ ap suc (none-bad bs p.1)

pub allowed-append : (xs ys : List ℕ) → all_allowed xs ≡ true → all_allowed ys ≡ true → all_allowed (xs ++ ys) ≡ true
allowed-append [] ys h k = k
allowed-append (b ∷ xs) ys h k = let p = and_parts (allowed b) (all_allowed xs) h in and_from _ _ p.0 (allowed-append xs ys p.1 k)

pub allowed-joined : (sep : ℕ) → allowed sep ≡ true → (ws : List (List ℕ)) → All (λ w. all_allowed w ≡ true) ws → all_allowed (joined sep ws) ≡ true
allowed-joined sep fine [] all = refl
allowed-joined sep fine (w ∷ []) all = all.0
allowed-joined sep fine (w ∷ v ∷ vs) all = allowed-append w (sep ∷ joined sep (v ∷ vs)) all.0 (and_from _ _ fine (allowed-joined sep fine (v ∷ vs) all.1))

-- ---- words

allowed-digits : (ds : List ℕ) → all_ascii_digits ds ≡ true → all_allowed ds ≡ true
allowed-digits [] h = refl
allowed-digits (b ∷ bs) h =
    let p = and_parts (is_ascii_digit b) (all_ascii_digits bs) h in
    and_from _ _ (or_right (letter b) _ (or_left (digit b) _ p.0)) (allowed-digits bs p.1)

allowed-some : (ds : List ℕ) → some_digits ds ≡ true → all_allowed ds ≡ true
allowed-some ds h = allowed-digits ds (and_parts (ltb 0 (length ds)) (all_ascii_digits ds) h).1

-- digits after a byte
allowed-after : (a b : ℕ) (ds : List ℕ) → allowed a ≡ true → eqb b a ≡ true → some_digits ds ≡ true → all_allowed (b ∷ ds) ≡ true
allowed-after a b ds fine same h = and_from _ _ (ap allowed (eqb-true b a same) ∙ fine) (allowed-some ds h)

allowed-number : (w : List ℕ) → number_shape w ≡ true → all_allowed w ≡ true
allowed-number [] h = refl
allowed-number (b ∷ bs) h =
    ⊎_elim
    (λ m. allowed-after 45 b bs refl m (ap (λ t. some_digits (cond t bs (b ∷ bs))) (sym m) ∙ h))
    (λ m. allowed-some (b ∷ bs) (ap (λ t. some_digits (cond t bs (b ∷ bs))) (sym m) ∙ h))
    (cases_Bool (eqb b 45))

allowed-figure : (w : List ℕ) → figure_shape w ≡ true → all_allowed w ≡ true
allowed-figure [] h = refl
allowed-figure (b ∷ bs) h = let p = and_parts (eqb b 118) (some_digits bs) h in allowed-after 118 b bs refl p.0 p.1

allowed-spelling : (k : Keyword) → all_allowed (spelling k) ≡ true
allowed-spelling keywords.Process = refl
allowed-spelling keywords.Node = refl
allowed-spelling keywords.Flow = refl
allowed-spelling keywords.Start = refl
allowed-spelling keywords.End = refl
allowed-spelling keywords.Xor = refl
allowed-spelling keywords.And = refl
allowed-spelling keywords.Or = refl
allowed-spelling keywords.Task = refl
allowed-spelling keywords.Default = refl
allowed-spelling keywords.If = refl
allowed-spelling keywords.Answer = refl

allowed-symbol : (o : Operator) → all_allowed (symbol o) ≡ true
allowed-symbol operators.Less = refl
allowed-symbol operators.AtMost = refl
allowed-symbol operators.Equal = refl
allowed-symbol operators.NotEqual = refl
allowed-symbol operators.AtLeast = refl
allowed-symbol operators.Greater = refl

allowed-reads : (w : List ℕ) (t : Token) → Reads w t → all_allowed w ≡ true
allowed-reads w (keyword k) e = ap all_allowed e ∙ allowed-spelling k
allowed-reads w (number x) h = allowed-number w h.1
allowed-reads w (figure x) h = allowed-figure w h.1
allowed-reads w (operator o) e = ap all_allowed e ∙ allowed-symbol o

pub allowed-word : (w : List ℕ) (t : Token) → word_of w ≡ Some t → all_allowed w ≡ true
allowed-word w t e = allowed-reads w t (reads-from-word w t e)
