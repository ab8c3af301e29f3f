-- What a line of an order text says, and the line that is its writing.
use Rattle.std.proofs.Common.{◌≡◌, ℕ, true, List, [], ◌∷◌, map, ℤ, pos, negsuc, Some, None, Ok, decimal, sym, refl, ap, ◌∙◌, subst, arith}
use lib.Signed.{le_z}
use Rattle.std.specs.Fmt.{signed_decimal}
use Rattle.std.proofs.lemmas.Int.{ints}
use Rattle.std.proofs.lemmas.Bool.{and_from, le-leb}
use Rattle.fault.specs.declared.line.LineFault.TheVariants.{Form}
use Rattle.process.specs.Processes.{is_value}
use Rattle.text.specs.declared.words.Keyword.{Keyword}
use Rattle.text.specs.declared.words.Keyword.TheVariants as keywords
use Rattle.text.specs.Numbers.{Names}
use Rattle.text.specs.Pieces.{pieces, joined}
use Rattle.text.specs.Words.{Token, keyword, number, figure, operator, spelling, word_of, words_of}
use Rattle.text.proofs.Joins.{joined-pieces}
use Rattle.text.proofs.Tokens.{Reads}
use Rattle.reading.specs.declared.order.OrderLine.{OrderLine}
use Rattle.reading.specs.Fields.{and_then, Words, counted_field, field, as_value}
use Rattle.reading.specs.Lines.{ended}
use Rattle.reading.specs.Orders.{order, order_entry, opens_order, as_order, order_line, order_words, order_in_range}
use Rattle.reading.proofs.Forms.{err-not-ok, ok_same, and-then-ok, number_ok, value-ok, counted-ok, valued-ok, ended-ok}
use Rattle.reading.proofs.Stands.{then-stands, all-stands, next-stands, number-stands, value-stands}

value-named : (w : List ℕ) (c : ℤ) → Names w (negsuc 999999999) (pos 1000000000) c → is_value c ≡ true
value-named w c h =
    let low : le_z (negsuc 999999999) c ≡ true = grind (arith, ints, h.from) in
    let high : le_z c (pos 1000000000) ≡ true = grind (arith, ints, h.to) in
    and_from _ _ low high

-- the words after `answer` write what is read, whose numbers lie in their ranges
record Answered (ps : List (List ℕ)) (o : OrderLine) : Type 0 where
  words : ps ≡ decimal o.node ∷ signed_decimal o.value ∷ []
  range : order_in_range o ≡ true

entry-ok : (line : ℕ) (ps : List (List ℕ)) (ts : Words) (o : OrderLine) → map word_of ps ≡ ts → order_entry line ts ≡ Ok o → Answered ps o
entry-ok line ps ts o of e =
    let n = and-then-ok (counted_field 40 line ts) _ o e in
    let c = and-then-ok (field as_value line n.0.1) _ o n.2 in
    let u = and-then-ok (ended line c.0.1) (λ u. and_then n.0.0 (λ node. and_then c.0.0 (λ value. Ok (order node value)))) o c.2 in
    let node = and-then-ok n.0.0 _ o u.2 in
    let value = and-then-ok c.0.0 _ o node.2 in
    let p = number_ok 40 line ts n.0 n.1 in
    let count = counted-ok line 40 p.0 node.0 (omega arith) (p.2 ∙ node.1) in
    let q = value-ok line n.0.1 c.0 c.1 in
    let s = number-stands line ps ts of 40 (omega arith) n.0 node.0 n.1 node.1 in
    let t = value-stands line s.rest n.0.1 s.left c.0 value.0 c.1 value.1 in
    let all = then-stands (decimal node.0 ∷ []) (signed_decimal value.0 ∷ []) ps n.0.1 c.0.1 s t in
    subst (Answered ps) (ok_same (order node.0 value.0) o value.2)
    (record {
      words = all-stands _ ps c.0.1 all (ended-ok line c.0.1 u.1);
      range = and_from _ _ (and_from _ _ (le-leb 1 node.0 count.low) (le-leb node.0 40 count.most)) (value-named q.0 value.0 (valued-ok line q.0 value.0 (q.2 ∙ value.1)));
    })

-- the line is the writing of what is read
pub record OrderStep (l : List ℕ) (o : OrderLine) : Type 0 where
  pub line : l ≡ joined 32 (order_words o)
  pub range : order_in_range o ≡ true

module _ (line : ℕ) (l : List ℕ) (o : OrderLine) (w : List ℕ) (ps : List (List ℕ)) (all : pieces 32 l ≡ w ∷ ps) (ts : Words) (of : map word_of ps ≡ ts) where
  answer-step : w ≡ spelling keywords.Answer → order_entry line ts ≡ Ok o → OrderStep l o
  answer-step spelled e =
      let a = entry-ok line ps ts o of e in
      record { line = sym (joined-pieces 32 l) ∙ ap (joined 32) (all ∙ (λ i. spelled i ∷ a.words i)); range = a.range }

  opens-ok : (k : Keyword) → w ≡ spelling k → opens_order line k ts ≡ Ok o → OrderStep l o
  opens-ok keywords.Process s e = absurd (err-not-ok (Form line) o e)
  opens-ok keywords.Node s e = absurd (err-not-ok (Form line) o e)
  opens-ok keywords.Flow s e = absurd (err-not-ok (Form line) o e)
  opens-ok keywords.Start s e = absurd (err-not-ok (Form line) o e)
  opens-ok keywords.End s e = absurd (err-not-ok (Form line) o e)
  opens-ok keywords.Xor s e = absurd (err-not-ok (Form line) o e)
  opens-ok keywords.And s e = absurd (err-not-ok (Form line) o e)
  opens-ok keywords.Or s e = absurd (err-not-ok (Form line) o e)
  opens-ok keywords.Task s e = absurd (err-not-ok (Form line) o e)
  opens-ok keywords.Default s e = absurd (err-not-ok (Form line) o e)
  opens-ok keywords.If s e = absurd (err-not-ok (Form line) o e)
  opens-ok keywords.Answer s e = answer-step s e

  as_order-ok : (t : Token) → Reads w t → as_order line t ts ≡ Ok o → OrderStep l o
  as_order-ok (keyword k) s e = opens-ok k s e
  as_order-ok (number x) s e = absurd (err-not-ok (Form line) o e)
  as_order-ok (figure x) s e = absurd (err-not-ok (Form line) o e)
  as_order-ok (operator x) s e = absurd (err-not-ok (Form line) o e)

words-ok : (line : ℕ) (l : List ℕ) (o : OrderLine) (ts : Words) → words_of l ≡ ts → order_line line ts ≡ Ok o → OrderStep l o
words-ok line l o [] of e = absurd (err-not-ok (Form line) o e)
words-ok line l o (None ∷ ts) of e = absurd (err-not-ok (Form line) o e)
words-ok line l o (Some t ∷ ts) of e =
    let p = next-stands (pieces 32 l) t ts of in
    as_order-ok line l o p.0 p.1.rest p.1.here ts p.1.left t p.2 e

pub order-step : (line : ℕ) (l : List ℕ) (o : OrderLine) → order_line line (words_of l) ≡ Ok o → OrderStep l o
order-step line l o e = words-ok line l o (words_of l) refl e
