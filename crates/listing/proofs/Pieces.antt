-- Pieces that are written one after another.
use Rattle.std.proofs.Common.{◌≡◌, ℕ, ◌+◌, ◌-◌, ◌<◌, ◌≤◌, List, [], ◌∷◌, ◌++◌, length, take, drop, set, Ok, decimal, sym, refl, ap, ◌∙◌, subst, append-nil, add-zero, zero-add, add-one, arith, length-append, length-drop, take-append-drop}
use borrow.Rule.Slice.PartMut.{put_mid}
use lib.Seq.{paste}
use Rattle.std.proofs.lemmas.List.Edits.{paste_all, paste-paste, length-paste}
use Rattle.std.proofs.lemmas.List.{set_split, take_rest, drop-drop, drop_all}
use Rattle.std.proofs.lemmas.Slice.{put_mid-paste}
use Rattle.listing.specs.Lines.{Listed}
use Rattle.listing.specs.Writing.{over, Wrote}

-- a text over a buffer is pasted into it
paste-over : (out : List ℕ) (place : ℕ) (text : List ℕ) (n : ℕ) → n ≡ length text → paste out place text n ≡ over out place text
unfolding over
paste-over out place text n e = paste_all out place text n e ∙ ap (λ k. take place out ++ (text ++ drop (place + k) out)) e

-- a second text behind the first is one longer text
over-over : (out : List ℕ) (place : ℕ) (a b : List ℕ) → place ≤ length out → over (over out place a) (place + length a) b ≡ over out place (a ++ b)
over-over out place a b h =
    sym (paste-over (over out place a) (place + length a) b (length b) refl)
    ∙ ap (λ d. paste d (place + length a) b (length b)) (sym (paste-over out place a (length a) refl))
    ∙ paste-paste out place a b (length a) (length b) refl refl h
    ∙ paste-over out place (a ++ b) (length a + length b) (sym (length-append a b))

-- a text over a buffer leaves its length
length_over : (out : List ℕ) (place : ℕ) (text : List ℕ) → place + length text ≤ length out → length (over out place text) ≡ length out
length_over out place text h = ap length (sym (paste-over out place text (length text) refl)) ∙ length-paste out place text (length text) h (omega arith)

-- a text that is copied is written
pub wrote-text : (out text part : List ℕ) (place n : ℕ) → part ≡ text → n ≡ place + length text - place → place + length text ≤ length out → Wrote out place text (put_mid place n out part) (place + length text)
wrote-text out text part place n e l h = record {
  after = put_mid-paste place n out part text n e refl (omega arith) ∙ paste-over out place text n (omega arith);
  ends = refl;
  within = h;
}

-- a byte that is set is written
pub wrote-byte : (out : List ℕ) (place b : ℕ) → place < length out → Wrote out place (b ∷ []) (set out place b) (place + 1)
unfolding over
wrote-byte out place b h = record { after = set_split out place b h ∙ ap (λ k. take place out ++ (b ∷ drop k out)) (sym (add-one place)); ends = refl; within = omega arith }

-- nothing is written
pub wrote_nothing : (out : List ℕ) (place : ℕ) → place ≤ length out → Wrote out place [] out place
unfolding over
wrote_nothing out place h = record { after = sym (ap (λ k. take place out ++ drop k out) (add-zero place) ∙ take-append-drop place out); ends = sym (add-zero place); within = h }

-- one piece and then another
pub then : {out mid out' a b : List ℕ} {place p q : ℕ} → Wrote out place a mid p → Wrote mid p b out' q → Wrote out place (a ++ b) out' q
then {out} {mid} {out'} {a} {b} {place} {p} {q} first second =
    let long = length-append a b in
    let same = ap length first.after ∙ length_over out place a (omega (arith, first.ends, first.within)) in
    record {
      after = second.after ∙ (λ i. over (first.after i) (first.ends i) b) ∙ over-over out place a b (omega (arith, first.ends, first.within));
      ends = omega (arith, first.ends, second.ends);
      within = omega (arith, second.within);
    }

-- the same text in other words
pub same_text : {out out' : List ℕ} {place end : ℕ} {a b : List ℕ} → a ≡ b → Wrote out place a out' end → Wrote out place b out' end
same_text {out} {out'} {place} {end} e w = subst (λ t. Wrote out place t out' end) e w

-- the writing of a number under another name
pub same_number : {out out' : List ℕ} {place end m n : ℕ} → m ≡ n → Wrote out place (decimal m) out' end → Wrote out place (decimal n) out' end
same_number e w = same_text (ap decimal e) w

-- what is written at the front of the tail stands from the tail's place on
in_tail : (out text tail : List ℕ) (place end : ℕ) → place ≤ length out → Wrote (take (length out - place) (drop place out)) 0 text tail end → put_mid place (length out - place) out tail ≡ take place out ++ (text ++ drop (place + length text) out)
unfolding over
in_tail out text tail place end h w =
    let same = take_rest out place in
    let rest = length-drop place out in
    let long = ap length w.after ∙ length_over (take (length out - place) (drop place out)) 0 text (omega (arith, w.ends, w.within)) ∙ ap length same ∙ rest in
    let new : tail ≡ text ++ drop (place + length text) out = w.after ∙ ap (λ l. text ++ drop (0 + length text) l) same ∙ ap (λ k. text ++ drop k (drop place out)) (zero-add (length text)) ∙ ap (λ l. text ++ l) (drop-drop (length text) place out) in
    put_mid-paste place (length out - place) out tail tail (length out - place) refl refl (sym long)
    ∙ paste_all out place tail (length out - place) (sym long)
    ∙ ap (λ l. take place out ++ (tail ++ l)) (drop_all (place + (length out - place)) out (omega arith))
    ∙ ap (λ l. take place out ++ l) (append-nil tail ∙ new)

-- a line in the tail is what a call promises
pub line-listed : (out text tail : List ℕ) (place end : ℕ) → place + 512 ≤ length out → Wrote (take (length out - place) (drop place out)) 0 text tail end → end ≤ 512 → Listed out place text (Ok (place + end)) (put_mid place (length out - place) out tail)
line-listed out text tail place end room w most = (room, omega (arith, w.ends), omega (arith, w.ends), in_tail out text tail place end (omega arith) w)
