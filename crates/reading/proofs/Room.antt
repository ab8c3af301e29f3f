-- An order text has at most 1,489 lines, since a line has at least 11 bytes with its line feed.
use Rattle.std.proofs.Common.{◌≡◌, ℕ, ◌+◌, ◌*◌, ◌^◌, ◌<◌, ◌≤◌, Bool, true, cond, ltb, leb, List, [], ◌∷◌, ◌++◌, length, ℤ, pos, negsuc, Ok, decimal, sym, ap, ◌∙◌, arith, length-append}
use lib.Signed.{mag}
use Rattle.std.specs.Fmt.{signed_decimal}
use Rattle.std.proofs.lemmas.Fmt.{decimal_nonempty}
use Rattle.std.proofs.lemmas.List.{length_push}
use Rattle.std.proofs.lemmas.Bool.{and_parts, leb-true}
use Rattle.process.specs.Processes.{is_node_number, is_value}
use Rattle.process.proofs.Formed.{pushed}
use Rattle.text.specs.declared.words.Keyword.TheVariants as keywords
use Rattle.text.specs.Pieces.{joined}
use Rattle.text.specs.Words.{spelling, words_of}
use Rattle.text.proofs.Joins.{weight}
use Rattle.reading.specs.declared.order.OrderLine.{OrderLine}
use Rattle.reading.specs.Fields.{and_then}
use Rattle.reading.specs.Orders.{order_line, order_lines, order_words, order_in_range}
use Rattle.reading.proofs.Answering.{order-step}
use Rattle.reading.proofs.Rereads.{value-small}

signed-some : (c : ℤ) → mag c ≤ 10 ^ 9 → 0 < length (signed_decimal c)
signed-some (pos n) few = decimal_nonempty n (omega arith)
signed-some (negsuc n) few = omega arith

-- a line is not short
pub order-long : (o : OrderLine) → order_in_range o ≡ true → 10 ≤ length (joined 32 (order_words o))
order-long o h =
    let p = and_parts (is_node_number o.node) (is_value o.value) h in
    let most = leb-true o.node 40 (and_parts (leb 1 o.node) (leb o.node 40) p.0).1 in
    let node = decimal_nonempty o.node (omega arith) in
    let value = signed-some o.value (value-small o.value p.1) in
    omega (arith, length-append (spelling keywords.Answer) (32 ∷ joined 32 (decimal o.node ∷ signed_decimal o.value ∷ [])), length-append (decimal o.node) (32 ∷ signed_decimal o.value))

-- the push of a line that is read finds room
pub record LinePut (line : ℕ) (read after : List OrderLine) (l : List ℕ) (ls : List (List ℕ)) : Type 0 where
  pub same : order_lines (line + 1) after ls ≡ order_lines line read (l ∷ ls)
  pub room : 11 * length after + weight ls ≤ 16384

pub line-put : (line : ℕ) (read after : List OrderLine) (l : List ℕ) (ls : List (List ℕ)) (o : OrderLine) (told : Bool) → order_line line (words_of l) ≡ Ok o → 11 * length read + weight (l ∷ ls) ≤ 16384
    → told ≡ ltb (length read) 1489 → after ≡ cond told (read ++ o ∷ []) read → LinePut line read after l ls
line-put line read after l ls o told e fits room is =
    let s = order-step line l o e in
    let long : 10 ≤ length l = omega (arith, ap length s.line, order-long o s.range) in
    let push = pushed read after o 1489 told room (omega arith) is in
    record {
      same = ap (λ os. order_lines (line + 1) os ls) push ∙ sym (ap (λ r. and_then r (λ x. order_lines (line + 1) (read ++ x ∷ []) ls)) e);
      room = omega (arith, ap length push, length_push read o);
    }
