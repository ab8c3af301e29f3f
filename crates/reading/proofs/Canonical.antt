-- The text that describes a process is its writing, and no other.
use Rattle.std.proofs.Common.{◌≡◌, ℕ, true, leb, List, [], ◌∷◌, ◌++◌, map, Ok, Err, Result, sym, refl, ap, ◌∙◌, subst, arith}
use Rattle.std.proofs.lemmas.Bool.{and_from, and_parts, leb-true}
use Rattle.fault.specs.declared.line.LineFault.{LineFault}
use Rattle.fault.specs.declared.line.LineFault.TheVariants.{Form}
use Rattle.process.specs.declared.draft.Draft.{Draft}
use Rattle.process.specs.Processes.{is_number, kinds_in_range, flows_formed}
use Rattle.text.specs.declared.words.Keyword.TheVariants as keywords
use Rattle.text.specs.Pieces.{pieces, joined}
use Rattle.text.specs.Texts.{text_check}
use Rattle.text.specs.Words.{keyword, number, words_of}
use Rattle.text.proofs.Joins.{joined-pieces}
use Rattle.reading.specs.Lines.{Process, Sofar, first_line, later_lines, all_lines, in_line, lines_of, process_read}
use Rattle.reading.specs.Readings.{DraftRead, DraftWritten, process_of}
use Rattle.reading.specs.Writings.{process_words, node_lines, flow_lines, process_lines, text_of, written, Formed, Describes, DescribesNothing}
use Rattle.reading.proofs.Checked.{line-words, writing-short, writing-checked, writing-lines}
use Rattle.reading.proofs.Describing.{describes-as, describes-none}
use Rattle.reading.proofs.Fine.{process-fine, lines-fine, lines-few}
use Rattle.reading.proofs.Forms.{err-not-ok, ok_same, and-then-ok, first-ok, first-number}
use Rattle.reading.proofs.Framed.{in_line-ok, text-framed}
use Rattle.reading.proofs.Later.{lines-added, lines-formed}
use Rattle.reading.proofs.Rebuilt.{flows-back, nodes-back}
use Rattle.reading.proofs.Rereads.{and-then-from, first-reread}
use Rattle.reading.proofs.Stands.{next-stands, then-stands, all-stands}

-- ---- what is read is the writing

-- the words of the first line
first-written : (l : List ℕ) (n : ℕ) → first_line 1 (words_of l) ≡ Ok n → l ≡ joined 32 (process_words n)
first-written l n e =
    let f = first-ok 1 (words_of l) n e in
    let a = next-stands (pieces 32 l) (keyword keywords.Process) _ f.all in
    let b = next-stands a.1.rest (number f.word) [] a.1.left in
    let all = all-stands _ (pieces 32 l) [] (then-stands (a.0 ∷ []) (b.0 ∷ []) (pieces 32 l) _ [] a.1 b.1) refl in
    sym (joined-pieces 32 l) ∙ ap (joined 32) (all ∙ (λ i. a.2 i ∷ (sym b.2.0 ∙ f.counts.same) i ∷ []))

abbrev Written : List (List ℕ) → Process → Type 0
Written ls p = (ls ≡ map (joined 32) (process_lines p)) × Formed p

process-written : (l : List ℕ) (ls : List (List ℕ)) (n : ℕ) (s : Sofar) → first_line 1 (words_of l) ≡ Ok n → later_lines 2 ([], []) ls ≡ Ok s → Written (l ∷ ls) (record { number = n; nodes = s.0; flows = s.1 })
process-written l ls n s first later =
    let more = lines-added 2 ([], []) ls s later in
    let start : Formed (record { number = n; nodes = []; flows = [] }) = record { numbers = and_from _ true (first-number 1 (words_of l) n first) refl; few_nodes = omega arith; few_flows = omega arith } in
    ((λ i. first-written l n first i ∷ (more.lines ∙ (λ j. map (joined 32) (node_lines 1 (more.nodes_are j) ++ flow_lines 1 (more.flows_are j)))) i), lines-formed n 2 ([], []) ls s start later)

lines-written : (ls : List (List ℕ)) (p : Process) → all_lines ls ≡ Ok p → Written ls p
lines-written [] p e = absurd (err-not-ok (Form 1) p e)
lines-written (l ∷ ls) p e =
    let a = and-then-ok (first_line 1 (words_of l)) _ p e in
    let b = and-then-ok (later_lines 2 ([], []) ls) _ p a.2 in
    subst (Written (l ∷ ls)) (ok_same _ p b.2) (process-written l ls a.0 b.0 a.1 b.1)

-- a text that is read is the writing of the process that is read
pub read-written : (text : List ℕ) (p : Process) → process_read text ≡ Ok p → (text ≡ written p) × Formed p
unfolding written
read-written text p e =
    let a = and-then-ok (in_line (text_check text)) (λ u. all_lines (lines_of text)) p e in
    let lines = lines-written (lines_of text) p a.2 in
    (text-framed text (process_words p.number) (node_lines 1 p.nodes ++ flow_lines 1 p.flows) (in_line-ok (text_check text) a.1) lines.0, lines.1)

-- ---- what is written is read back

lines-back : (p : Process) → Formed p → all_lines (map (joined 32) (process_lines p)) ≡ Ok p
lines-back p h =
    let a = and_parts (is_number p.number) _ h.numbers in
    let b = and_parts (kinds_in_range p.nodes) (flows_formed p.nodes p.flows) a.1 in
    let number-range = and_parts (leb 1 p.number) (leb p.number 65535) a.0 in
    let first = ap (first_line 1) (line-words (process_words p.number) (process-fine p.number (leb-true p.number 65535 number-range.1))) ∙ first-reread 1 p.number a.0 in
    let later = nodes-back p.nodes 2 [] (flow_lines 1 p.flows) (p.nodes, p.flows) b.0 (omega (arith, h.few_nodes)) (λ line. flows-back p.nodes h.few_nodes p.flows line [] b.1 (omega (arith, h.few_flows))) in
    and-then-from (first_line 1 (words_of (joined 32 (process_words p.number)))) _ p.number p first
    (and-then-from (later_lines 2 ([], []) (map (joined 32) (node_lines 1 p.nodes ++ flow_lines 1 p.flows))) _ (p.nodes, p.flows) p later refl)

-- the writing of a process describes the process
pub written_read : (p : Process) → Formed p → process_read (written p) ≡ Ok p
unfolding written
written_read p h =
    let first = process_words p.number in
    let more = node_lines 1 p.nodes ++ flow_lines 1 p.flows in
    let fine = lines-fine p h in
    and-then-from (in_line (text_check (text_of (first ∷ more)))) (λ u. all_lines (lines_of (text_of (first ∷ more)))) tt p
    (ap in_line (writing-checked first more fine (writing-short first more fine (lines-few p h))))
    (ap all_lines (writing-lines first more fine) ∙ lines-back p h)

-- what was read is the only process of which the text is the writing
pub describes : (text : List ℕ) (p : Process) → process_read text ≡ Ok p → Describes text p
describes text p e = describes-as written Formed process_read read-written written_read text p e

-- a text at fault is the writing of no process
pub describes-nothing : (text : List ℕ) (fault : LineFault) → process_read text ≡ Err fault → DescribesNothing text
describes-nothing text fault e = describes-none written Formed process_read read-written written_read text fault e

pub draft-written : (text : List ℕ) (r : Result Draft LineFault) → DraftRead text r → DraftWritten text r
draft-written text (Ok d) e = describes text (process_of d) e
draft-written text (Err fault) e = describes-nothing text fault e
