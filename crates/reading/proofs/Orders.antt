-- An order text is the writing of its lines, and of no others.
use Rattle.std.proofs.Common.{◌≡◌, ℕ, ◌+◌, ◌-◌, ◌<◌, ◌≤◌, true, leb, List, [], ◌∷◌, ◌++◌, map, length, take, Ok, Err, decimal, Result, sym, refl, ap, ◌∙◌, append_assoc, append-nil, arith}
use Rattle.std.specs.Fmt.{signed_decimal}
use Rattle.std.specs.List.{AllByRecursion as All}
use Rattle.std.proofs.lemmas.Bool.{and_from, and_parts, leb-true}
use Rattle.fault.specs.declared.line.LineFault.{LineFault}
use Rattle.process.specs.Processes.{is_node_number, is_value}
use Rattle.process.specs.declared.row.Row.{Row}
use Rattle.process.specs.Rows.{items}
use Rattle.text.specs.declared.words.Keyword.TheVariants as keywords
use Rattle.text.specs.Pieces.{joined}
use Rattle.text.specs.Texts.{text_check}
use Rattle.text.specs.Words.{word_of, words_of}
use Rattle.text.proofs.Joins.{weight, weight-pieces}
use Rattle.text.proofs.Tokens.{word-spelling}
use Rattle.reading.specs.declared.order.OrderLine.{OrderLine}
use Rattle.reading.specs.Fields.{counted_field, field, as_value}
use Rattle.reading.specs.Lines.{in_line, lines_of}
use Rattle.reading.specs.Orders.{order_line, order_lines, order_read, order_words, order_written, order_in_range, orders_in_range, OrderFormed, OrderRead, OrderWritten}
use Rattle.reading.specs.Writings.{text_of}
use Rattle.reading.proofs.Answering.{order-step}
use Rattle.reading.proofs.Checked.{line-words, writing-checked, writing-lines}
use Rattle.reading.proofs.Describing.{describes-as, describes-none}
use Rattle.reading.proofs.Fine.{FineLine, fine-spelling, fine-decimal, fine-signed}
use Rattle.reading.proofs.Forms.{ok_same, and-then-ok}
use Rattle.reading.proofs.Framed.{in_line-ok, text-short, text-framed}
use Rattle.reading.proofs.Rereads.{and-then-from, number-reread, value-reread}

-- ---- what is read is the writing

-- the lines write what they add to those before them
record Added (read : List OrderLine) (ls : List (List ℕ)) (os : List OrderLine) : Type 0 where
  more : List OrderLine
  all : read ++ more ≡ os
  lines : ls ≡ map (joined 32) (map order_words more)
  range : orders_in_range more ≡ true

lines-added : (line : ℕ) (read : List OrderLine) (ls : List (List ℕ)) (os : List OrderLine) → order_lines line read ls ≡ Ok os → Added read ls os
lines-added line read [] os e = record { more = []; all = append-nil read ∙ ok_same read os e; lines = refl; range = refl }
lines-added line read (l ∷ ls) os e =
    let p = and-then-ok (order_line line (words_of l)) (λ o. order_lines (line + 1) (read ++ o ∷ []) ls) os e in
    let s = order-step line l p.0 p.1 in
    let a = lines-added (line + 1) (read ++ p.0 ∷ []) ls os p.2 in
    record {
      more = p.0 ∷ a.more;
      all = sym (append_assoc read (p.0 ∷ []) a.more) ∙ a.all;
      lines = λ i. s.line i ∷ a.lines i;
      range = and_from _ _ s.range a.range;
    }

lines-written : (text : List ℕ) (os : List OrderLine) → text_check text ≡ Ok tt → lines_of text ≡ map (joined 32) (map order_words os) → orders_in_range os ≡ true → (text ≡ order_written os) × OrderFormed os
unfolding order_written
lines-written text [] ok lines range = absurd (omega (arith, weight-pieces 10 (take (length text - 1) text), ap weight lines))
lines-written text (o ∷ os) ok lines range =
    let same = text-framed text (order_words o) (map order_words os) ok lines in
    (same, record { some = omega arith; numbers = range; short = omega (arith, ap length same, text-short text ok) })

read-written : (text : List ℕ) (os : List OrderLine) → order_read text ≡ Ok os → (text ≡ order_written os) × OrderFormed os
read-written text os e =
    let a = and-then-ok (in_line (text_check text)) (λ u. order_lines 1 [] (lines_of text)) os e in
    let b = lines-added 1 [] (lines_of text) os a.2 in
    lines-written text os (in_line-ok (text_check text) a.1) (b.lines ∙ ap (λ l. map (joined 32) (map order_words l)) b.all) (ap orders_in_range (sym b.all) ∙ b.range)

-- ---- what is written is read back

-- the ranges of a line's numbers
record Ranges (o : OrderLine) : Type 0 where
  low : 1 ≤ o.node
  most : o.node ≤ 40
  value : is_value o.value ≡ true

ranges : (o : OrderLine) → order_in_range o ≡ true → Ranges o
ranges o h =
    let p = and_parts (is_node_number o.node) (is_value o.value) h in
    let q = and_parts (leb 1 o.node) (leb o.node 40) p.0 in
    record { low = leb-true 1 o.node q.0; most = leb-true o.node 40 q.1; value = p.1 }

order-reread : (line : ℕ) (o : OrderLine) → order_in_range o ≡ true → order_line line (map word_of (order_words o)) ≡ Ok o
order-reread line o h =
    let r = ranges o h in
    let value = word_of (signed_decimal o.value) ∷ [] in
    ap (λ t. order_line line (t ∷ word_of (decimal o.node) ∷ value)) (word-spelling keywords.Answer)
    ∙ and-then-from (counted_field 40 line (word_of (decimal o.node) ∷ value)) _ (Ok o.node, value) o (number-reread line value 40 o.node (omega arith) r.low r.most)
    (and-then-from (field as_value line value) _ (Ok o.value, []) o (value-reread line [] o.value r.value) refl)

order-fine : (o : OrderLine) → order_in_range o ≡ true → FineLine (order_words o)
order-fine o h =
    let r = ranges o h in
    record { some = omega arith; few = omega arith; words = (fine-spelling keywords.Answer, (fine-decimal o.node (omega (arith, r.most)), (fine-signed o.value r.value, tt))) }

orders-fine : (os : List OrderLine) → orders_in_range os ≡ true → All FineLine (map order_words os)
orders-fine [] h = tt
orders-fine (o ∷ os) h = let p = and_parts (order_in_range o) (orders_in_range os) h in (order-fine o p.0, orders-fine os p.1)

lines-back : (os : List OrderLine) (line : ℕ) (read : List OrderLine) → orders_in_range os ≡ true → order_lines line read (map (joined 32) (map order_words os)) ≡ Ok (read ++ os)
lines-back [] line read h = ap Ok (sym (append-nil read))
lines-back (o ∷ os) line read h =
    let p = and_parts (order_in_range o) (orders_in_range os) h in
    and-then-from (order_line line (words_of (joined 32 (order_words o)))) _ o (read ++ o ∷ os)
    (ap (order_line line) (line-words (order_words o) (order-fine o p.0)) ∙ order-reread line o p.0)
    (lines-back os (line + 1) (read ++ o ∷ []) p.1 ∙ ap Ok (append_assoc read (o ∷ []) os))

written_back : (os : List OrderLine) → 0 < length os → orders_in_range os ≡ true → length (text_of (map order_words os)) ≤ 16384 → order_read (text_of (map order_words os)) ≡ Ok os
written_back [] some h short = absurd (omega arith)
written_back (o ∷ os) some h short =
    let fine = orders-fine (o ∷ os) h in
    let first = order_words o in
    let more = map order_words os in
    and-then-from (in_line (text_check (text_of (first ∷ more)))) (λ u. order_lines 1 [] (lines_of (text_of (first ∷ more)))) tt (o ∷ os)
    (ap in_line (writing-checked first more fine short))
    (ap (order_lines 1 []) (writing-lines first more fine) ∙ lines-back (o ∷ os) 1 [] h)

written_read : (os : List OrderLine) → OrderFormed os → order_read (order_written os) ≡ Ok os
unfolding order_written
written_read os f = written_back os f.some f.numbers f.short

pub order-described : {n : ℕ} (text : List ℕ) (r : Result (Row OrderLine n) LineFault) → OrderRead text r → OrderWritten text r
order-described text (Ok os) e = describes-as order_written OrderFormed order_read read-written written_read text (items os) e
order-described text (Err fault) e = describes-none order_written OrderFormed order_read read-written written_read text fault e
