-- One line after another: what a loop over the numbered lines of a text has before it.
use Rattle.std.proofs.Common.{◌≡◌, ℕ, ◌==◌, ◌+◌, ◌<◌, List, [], ◌∷◌, length, get_or, drop, Bool, false, Bor, Option, Some, None, Ok, Err, sym, ap, ◌∙◌, zero-add, add-one, drop-cons, arith}
use Rattle.std.specs.List.{enumerate_from, slice_split}
use Rattle.std.specs.declared.iter.Enumerate.{Enumerate}
use Rattle.std.specs.declared.slice.Split.{Split}
use Rattle.std.specs.Fn.{CalledAt}
use Rattle.std.specs.Iterator.{Yields}
use Rattle.std.specs.Iterator.Adapters.{enumerate_source, enumerate_count, enumerate_steps}
use Rattle.std.specs.Slice.Iter.{split_rest, split_done, split_callee, split_steps}
use Rattle.std.proofs.lemmas.Iterator.{YieldsList}
use Rattle.std.proofs.lemmas.Iterator.Consumers.{YieldsList-turn, YieldsList-end, YieldsList-from_enumerate}
use Rattle.std.proofs.lemmas.Iterator.Splits.{YieldsList-from_slice_split}
use denote.Param.Members.{Mut}
use Rattle.std.proofs.lemmas.List.{drop_all}
use Rattle.std.proofs.lemmas.List.FromFn.{length-enumerate_from, get_or-enumerate_from}
use Rattle.fault.specs.declared.line.LineFault.{LineFault}
use Rattle.text.specs.Pieces.{pieces}
use Rattle.text.specs.Words.{words_of}
use Rattle.text.proofs.Cuts.{pieces-is}
use Rattle.reading.specs.Fields.{and_then}
use Rattle.reading.specs.Lines.{Sofar, later_line, later_lines}

-- the lines of the text with their numbers, as the loop goes over them
abbrev numbered : List ℕ → List (ℕ × List ℕ)
numbered text = enumerate_from 0 (slice_split (λ b. b == 10) text)

long : (text : List ℕ) → length (numbered text) ≡ length (pieces 10 text)
long text = length-enumerate_from 0 (slice_split (λ b. b == 10) text) ∙ ap length (sym (pieces-is 10 text))

-- the line is the next one
pub record Turn (text : List ℕ) (i n : ℕ) (l : List ℕ) : Type 0 where
  pub number : n ≡ i
  pub within : i < length (pieces 10 text)
  pub left : drop i (pieces 10 text) ≡ l ∷ drop (i + 1) (pieces 10 text)

line-turn : (text : List ℕ) (i n : ℕ) (l : List ℕ) → (i < length (numbered text)) × ((n, l) ≡ get_or (numbered text) i (n, l)) → Turn text i n l
line-turn text i n l h =
    let ls = slice_split (λ b. b == 10) text in
    let within : i < length ls = omega (arith, h.0, length-enumerate_from 0 ls) in
    let same : (n, l) ≡ (0 + i, get_or ls i l) = h.1 ∙ get_or-enumerate_from 0 ls i (n, l) within in
    let left : drop i ls ≡ l ∷ drop (i + 1) ls = rw add-one (drop-cons ls i l within) ∙ ap (λ x. x ∷ drop (i + 1) ls) (sym (ap (λ p. p.1) same)) in
    record { number = ap (λ p. p.0) same ∙ zero-add i; within = omega (arith, h.0, long text); left = rw pieces-is left }

lines-end : (text : List ℕ) (i : ℕ) → i ≡ length (numbered text) → drop i (pieces 10 text) ≡ []
lines-end text i e = drop_all i (pieces 10 text) (omega (arith, e, long text))

-- the loop is over the text, cut at its line feeds and numbered
module _ {F : Type 0} (s : Enumerate (Split ℕ F)) (g : Mut F (Bor ℕ × Unit {0}) Bool) (f : F) (text : List ℕ) (from : split_rest (enumerate_source s) ≡ text) (new : split_done (enumerate_source s) ≡ false) (by : split_callee (enumerate_source s) ≡ f)
    (cuts : (x : ℕ) (b : Bool) (q : F) → CalledAt g f x b q → (q ≡ f) × (b ≡ (x == 10))) (first : enumerate_count s ≡ 0) where
  gives : YieldsList {B = ℕ × List ℕ} (enumerate_steps (split_steps g)) (λ p. (p.0, p.1.now)) s (numbered text)
  gives = YieldsList-from_enumerate (YieldsList-from_slice_split g (λ b. b == 10) text from new by cuts) first

  module _ (xs : List (ℕ × Bor (List ℕ))) (t : Enumerate (Split ℕ F)) (so_far : Yields (enumerate_steps (split_steps g)) s xs t) (r : Option (ℕ × Bor (List ℕ))) (u : Enumerate (Split ℕ F)) where
    pub turn-at : (n : ℕ) (l : Bor (List ℕ)) → r ≡ Some (n, l) → enumerate_steps (split_steps g) t r u → Turn text (length xs) n l.now
    turn-at n l is step = line-turn text (length xs) n l.now (YieldsList-turn gives xs t so_far r u (n, l) is step)

    pub none-left : r ≡ None → enumerate_steps (split_steps g) t r u → drop (length xs) (pieces 10 text) ≡ []
    none-left is step = lines-end text (length xs) (YieldsList-end gives xs t so_far r u is step).1

module _ (ls : List (List ℕ)) (i : ℕ) (l : List ℕ) (left : drop i ls ≡ l ∷ drop (i + 1) ls) (s : Sofar) where
  pub later-next : (t : Sofar) → later_line (i + 2) s (words_of l) ≡ Ok t → later_lines (i + 1 + 2) t (drop (i + 1) ls) ≡ later_lines (i + 2) s (drop i ls)
  later-next t ok =
      let k : i + 1 + 2 ≡ i + 2 + 1 = omega arith in
      ap (λ n. later_lines n t (drop (i + 1) ls)) k
      ∙ sym (ap (λ r. and_then r (λ t. later_lines (i + 2 + 1) t (drop (i + 1) ls))) ok)
      ∙ ap (later_lines (i + 2) s) (sym left)

  pub later-fault : (f : LineFault) → later_line (i + 2) s (words_of l) ≡ Err f → later_lines (i + 2) s (drop i ls) ≡ Err f
  later-fault f err = ap (later_lines (i + 2) s) left ∙ ap (λ r. and_then r (λ t. later_lines (i + 2 + 1) t (drop (i + 1) ls))) err
