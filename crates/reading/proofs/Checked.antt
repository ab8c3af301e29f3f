-- A writing is a text, and its lines and words are those that were written.
use Rattle.std.proofs.Common.{◌≡◌, ℕ, ◌+◌, ◌-◌, ◌*◌, ◌<◌, ◌≤◌, true, ◌||◌, eqb, ltb, List, [], ◌∷◌, map, length, get_or, take, Ok, Err, refl, ap, ◌∙◌, arith, length-append}
use Rattle.std.specs.List.{AllByRecursion as All}
use Rattle.std.proofs.ByRecursion.{All-map, All-weaker}
use Rattle.std.proofs.lemmas.List.{get_or_push, length_push, take_at}
use Rattle.std.proofs.lemmas.Bool.{cond-false, cond-true, eq-eqb, le-ltb, ne_eqb, or_from}
use Rattle.fault.specs.declared.text.TextFault.TheVariants.{Size, Byte, Ending}
use Rattle.text.specs.Pieces.{pieces, joined, lacks}
use Rattle.text.specs.Texts.{first_bad, text_check}
use Rattle.text.specs.Words.{word_of, words_of}
use Rattle.text.proofs.Joins.{pieces-joined, lacks-joined}
use Rattle.text.proofs.Separators.{lacks-word}
use Rattle.reading.specs.Lines.{lines_of}
use Rattle.reading.specs.Writings.{text_of}
use Rattle.reading.proofs.Allowed.{all_allowed, none-bad, allowed-append, allowed-joined, allowed-word}
use Rattle.reading.proofs.Fine.{Fine, FineLine}
use Rattle.reading.proofs.Framed.{text-of-joined}

-- ---- words and lines

lacks-fine : (sep : ℕ) → sep ≤ 32 → (ws : List (List ℕ)) → All Fine ws → All (λ w. lacks sep w ≡ true) ws
lacks-fine sep low ws all = All-weaker Fine (λ w. lacks sep w ≡ true) (λ w f. lacks-word sep low w f.token f.is) ws all

pub line-words : (ws : List (List ℕ)) → FineLine ws → words_of (joined 32 ws) ≡ map word_of ws
line-words ws h = ap (map word_of) (pieces-joined 32 ws h.some (lacks-fine 32 (omega arith) ws h.words))

text-lines : (ws : List (List ℕ)) (ls : List (List (List ℕ))) → All FineLine (ws ∷ ls) → pieces 10 (joined 10 (map (joined 32) (ws ∷ ls))) ≡ map (joined 32) (ws ∷ ls)
text-lines ws ls all =
    pieces-joined 10 (map (joined 32) (ws ∷ ls)) (omega arith)
    (All-map (λ l. lacks 10 l ≡ true) (joined 32) (ws ∷ ls)
    (All-weaker FineLine (λ vs. lacks 10 (joined 32 vs) ≡ true) (λ vs f. lacks-joined 32 10 (λ e. omega arith) vs (lacks-fine 10 (omega arith) vs f.words)) (ws ∷ ls) all))

-- ---- the size of a text

length-line : (ws : List (List ℕ)) → 0 < length ws → All Fine ws → length (joined 32 ws) + 1 ≤ 12 * length ws
length-line [] some all = absurd (omega arith)
length-line (w ∷ []) some all = omega (arith, all.0.short)
length-line (w ∷ v ∷ vs) some all = omega (arith, all.0.short, length-append w (32 ∷ joined 32 (v ∷ vs)), length-line (v ∷ vs) (omega arith) all.1)

length-text : (ls : List (List (List ℕ))) → All FineLine ls → length (text_of ls) ≤ 96 * length ls
length-text [] all = omega arith
length-text (ws ∷ ls) all =
    omega (arith, length-append (joined 32 ws) (10 ∷ text_of ls), length-line ws all.0.some all.0.words, all.0.few, length-text ls all.1)

-- ---- its bytes

allowed-text : (ls : List (List (List ℕ))) → All FineLine ls → all_allowed (text_of ls) ≡ true
allowed-text [] all = refl
allowed-text (ws ∷ ls) all =
    allowed-append (joined 32 ws) (10 ∷ text_of ls)
    (allowed-joined 32 refl ws (All-weaker Fine (λ w. all_allowed w ≡ true) (λ w f. allowed-word w f.token f.is) ws all.0.words))
    (allowed-text ls all.1)

-- ---- the whole

checked : (t : List ℕ) → 0 < length t → length t ≤ 16384 → all_allowed t ≡ true → get_or t (length t - 1) 0 ≡ 10 → text_check t ≡ Ok tt
checked t some most fine ends =
    cond-false (eqb (length t) 0 || ltb 16384 (length t)) (Err Size) _ (or_from _ _ (ne_eqb (length t) 0 (λ e. omega arith)) (le-ltb 16384 (length t) most))
    ∙ cond-false (ltb (first_bad t) (length t)) (Err (Byte (first_bad t))) _ (le-ltb (first_bad t) (length t) (omega (arith, none-bad t fine)))
    ∙ cond-true (eqb (get_or t (length t - 1) 0) 10) (Ok tt) (Err (Ending (length t))) (eq-eqb (get_or t (length t - 1) 0) 10 ends)

module _ (ws : List (List ℕ)) (ls : List (List (List ℕ))) (all : All FineLine (ws ∷ ls)) where
  body : List ℕ
  body = joined 10 (map (joined 32) (ws ∷ ls))

  ends : length body ≡ length (text_of (ws ∷ ls)) - 1
  unfolding body
  ends = omega (arith, ap length (text-of-joined ws ls), length_push body 10)

  -- at most 105 such lines are no longer than a text may be
  pub writing-short : length (ws ∷ ls) ≤ 105 → length (text_of (ws ∷ ls)) ≤ 16384
  writing-short few = omega (arith, length-text (ws ∷ ls) all)

  pub writing-checked : length (text_of (ws ∷ ls)) ≤ 16384 → text_check (text_of (ws ∷ ls)) ≡ Ok tt
  unfolding body
  writing-checked short =
      let t = text_of (ws ∷ ls) in
      checked t
      (omega (arith, length-append (joined 32 ws) (10 ∷ text_of ls)))
      short
      (allowed-text (ws ∷ ls) all)
      (ap (λ l. get_or l (length t - 1) 0) (text-of-joined ws ls) ∙ get_or_push body 10 0 (length t - 1) ends)

  pub writing-lines : lines_of (text_of (ws ∷ ls)) ≡ map (joined 32) (ws ∷ ls)
  unfolding body
  writing-lines =
      let t = text_of (ws ∷ ls) in
      ap (λ l. pieces 10 (take (length t - 1) l)) (text-of-joined ws ls)
      ∙ ap (pieces 10) (take_at body (10 ∷ []) (length t - 1) ends)
      ∙ text-lines ws ls all
