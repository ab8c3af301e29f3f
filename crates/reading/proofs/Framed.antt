-- A text is its lines with a line feed between neighbours, and one more at the end.
use Rattle.std.proofs.Common.{◌≡◌, ℕ, ◌+◌, ◌-◌, ◌<◌, ◌≤◌, ◌||◌, eqb, ltb, List, [], ◌∷◌, ◌++◌, map, length, get_or, take, Ok, Err, Result, sym, refl, ap, ◌∙◌, append_assoc, arith}
use Rattle.std.proofs.lemmas.List.{take_more, take_all}
use Rattle.std.proofs.lemmas.Bool.{eqb-true, eqb-false, ltb-false, or_parts}
use Rattle.fault.specs.declared.line.LineFault.TheVariants.{Text}
use Rattle.fault.specs.declared.text.TextFault.{TextFault}
use Rattle.fault.specs.declared.text.TextFault.TheVariants.{Size, Byte, Ending}
use Rattle.text.specs.Pieces.{joined}
use Rattle.text.specs.Texts.{first_bad, text_check}
use Rattle.text.proofs.Joins.{joined-pieces}
use Rattle.reading.specs.Lines.{in_line, lines_of}
use Rattle.reading.specs.Writings.{text_of}
use Rattle.reading.proofs.Forms.{err-not-ok, cond-first, cond-second}

-- the writing of some lines, by the joined lines
pub text-of-joined : (ws : List (List ℕ)) (ls : List (List (List ℕ))) → text_of (ws ∷ ls) ≡ joined 10 (map (joined 32) (ws ∷ ls)) ++ 10 ∷ []
text-of-joined ws [] = refl
text-of-joined ws (vs ∷ ls) =
    ap (λ t. joined 32 ws ++ (10 ∷ t)) (text-of-joined vs ls)
    ∙ sym (append_assoc (joined 32 ws) (10 ∷ joined 10 (map (joined 32) (vs ∷ ls))) (10 ∷ []))

pub in_line-ok : (r : Result (Unit {0}) TextFault) → in_line r ≡ Ok tt → r ≡ Ok tt
in_line-ok (Ok tt) e = refl
in_line-ok (Err f) e = absurd (err-not-ok (Text f) tt e)

-- a text ends with a line feed
last : (text : List ℕ) → 0 < length text → get_or text (length text - 1) 0 ≡ 10 → take (length text - 1) text ++ 10 ∷ [] ≡ text
last text some e =
    let front : length text - 1 < length text = omega arith in
    let whole : length text - 1 + 1 ≡ length text = omega arith in
    ap (λ b. take (length text - 1) text ++ b ∷ []) (sym e)
    ∙ sym (take_more text (length text - 1) 0 front)
    ∙ ap (λ k. take k text) whole
    ∙ take_all (length text) text (omega arith)

text-ends : (text : List ℕ) → text_check text ≡ Ok tt → take (length text - 1) text ++ 10 ∷ [] ≡ text
text-ends text e =
    let size = cond-second (eqb (length text) 0 || ltb 16384 (length text)) _ Size tt e in
    let bytes = cond-second (ltb (first_bad text) (length text)) _ (Byte (first_bad text)) tt size.1 in
    let end = cond-first (eqb (get_or text (length text - 1) 0) 10) (Ok tt) (Ending (length text)) tt bytes.1 in
    let none = eqb-false (length text) 0 (or_parts (eqb (length text) 0) _ size.0).0 in
    last text (omega arith) (eqb-true _ 10 end.0)

pub text-short : (text : List ℕ) → text_check text ≡ Ok tt → length text ≤ 16384
text-short text e =
    let size = cond-second (eqb (length text) 0 || ltb 16384 (length text)) _ Size tt e in
    ltb-false 16384 (length text) (or_parts (eqb (length text) 0) _ size.0).1

-- a text is the writing of the words in its lines
pub text-framed : (text : List ℕ) (ws : List (List ℕ)) (ls : List (List (List ℕ))) → text_check text ≡ Ok tt → lines_of text ≡ map (joined 32) (ws ∷ ls) → text ≡ text_of (ws ∷ ls)
text-framed text ws ls ok lines =
    sym (text-ends text ok)
    ∙ ap (λ bs. bs ++ 10 ∷ []) (sym (joined-pieces 10 (take (length text - 1) text)) ∙ ap (joined 10) lines)
    ∙ sym (text-of-joined ws ls)
