-- The words of a writing, read back.
use Rattle.std.proofs.Common.{◌≡◌, ℕ, ◌+◌, ◌^◌, ◌<◌, ◌≤◌, true, not, ◌&&◌, eqb, leb, List, [], ◌∷◌, ◌++◌, map, length, ℤ, pos, negsuc, nat_abs, ◌≤ℤ◌, Ok, Err, decimal, Result, refl, ap, ◌∙◌, arith}
use lib.Signed.{le_z, mag}
use Rattle.std.specs.Option.{option_map, ok_or}
use Rattle.std.specs.Fmt.{signed_decimal}
use Rattle.std.proofs.lemmas.Int.{ints}
use Rattle.std.proofs.lemmas.Bool.{and_from, and_parts, cond-false, eq-eqb, leb-true, lt-leb, not_from_true}
use Rattle.fault.specs.declared.line.LineFault.TheVariants.{Number, Sequence, TooMany, MissingNode}
use Rattle.process.specs.declared.flow.Flow.{Flow}
use Rattle.process.specs.declared.flow.Guard.{Guard}
use Rattle.process.specs.declared.flow.Guard.TheVariants as guards
use Rattle.process.specs.declared.flow.Operator.{Operator}
use Rattle.process.specs.declared.node.Kind.{Kind}
use Rattle.process.specs.declared.node.Kind.TheVariants as kinds
use Rattle.process.specs.Processes.{is_number, is_figure, is_value, is_node, kind_in_range, guard_in_range, flow_formed, node_added, flow_added}
use Rattle.text.specs.declared.words.Keyword.TheVariants as keywords
use Rattle.text.specs.Words.{symbol, word_of}
use Rattle.text.proofs.Numerals.{numeral-of-signed}
use Rattle.text.proofs.Tokens.{word-spelling, word-symbol, word-decimal, word-signed, word-figure-decimal}
use Rattle.reading.specs.Fields.{and_then, Words, counted, valued, field, as_value, as_operator, as_kind, as_guard, counted_field, number_field, figure_field, guard_field}
use Rattle.reading.specs.Lines.{node_line, flow_line, later_line, first_line}
use Rattle.reading.specs.Writings.{figure_word, kind_words, guard_words, process_words, node_words, flow_words}

-- both steps go through
pub and-then-from : {X Y E : Type 0} (r : Result X E) (next : X → Result Y E) (x : X) (y : Y) → r ≡ Ok x → next x ≡ Ok y → and_then r next ≡ Ok y
and-then-from r next x y e f = ap (λ q. and_then q next) e ∙ f

-- ---- the fields of one word

counted-decimal : (line high n : ℕ) → high < 2 ^ 31 → 1 ≤ n → n ≤ high → counted line high (decimal n) ≡ Ok n
counted-decimal line high n few low most =
    ap (λ o. ok_or (option_map nat_abs o) (Number line)) (numeral-of-signed (pos 1) (pos high) (omega arith) few (pos n) (omega (arith, ints)) (omega (arith, ints)))

-- the range of a value
value-range : (c : ℤ) → is_value c ≡ true → (negsuc 999999999 ≤ℤ c) × (c ≤ℤ pos 1000000000)
value-range c h =
    let p = and_parts (le_z (negsuc 999999999) c) (le_z c (pos 1000000000)) h in
    let a = p.0 in
    let b = p.1 in
    (grind (arith, ints), grind (arith, ints))

pub value-small : (c : ℤ) → is_value c ≡ true → mag c ≤ 10 ^ 9
value-small (pos n) h = let r = value-range (pos n) h in omega (arith, ints)
value-small (negsuc n) h = let r = value-range (negsuc n) h in omega (arith, ints)

valued_signed : (line : ℕ) (c : ℤ) → is_value c ≡ true → valued line (signed_decimal c) ≡ Ok c
valued_signed line c h =
    let r = value-range c h in
    ap (λ o. ok_or o (Number line)) (numeral-of-signed (negsuc 999999999) (pos 1000000000) (omega arith) (omega arith) c r.0 r.1)

module _ (line : ℕ) (more : Words) where
  pub number-reread : (high n : ℕ) → high ≤ 65535 → 1 ≤ n → n ≤ high → counted_field high line (word_of (decimal n) ∷ more) ≡ Ok (Ok n, more)
  number-reread high n few low most = ap (λ o. counted_field high line (o ∷ more)) (word-decimal n (omega arith)) ∙ ap (λ r. Ok (r, more)) (counted-decimal line high n (omega arith) low most)

  figure-reread : (x : ℕ) → is_figure x ≡ true → figure_field line (word_of (figure_word x) ∷ more) ≡ Ok (Ok x, more)
  figure-reread x h =
      let p = and_parts (leb 1 x) (leb x 16) h in
      let low = leb-true 1 x p.0 in
      let most = leb-true x 16 p.1 in
      ap (λ o. figure_field line (o ∷ more)) (word-figure-decimal x (omega arith)) ∙ ap (λ r. Ok (r, more)) (counted-decimal line 16 x (omega arith) low most)

  operator-reread : (o : Operator) → field as_operator line (word_of (symbol o) ∷ more) ≡ Ok (Ok o, more)
  operator-reread o = ap (λ t. field as_operator line (t ∷ more)) (word-symbol o)

  pub value-reread : (c : ℤ) → is_value c ≡ true → field as_value line (word_of (signed_decimal c) ∷ more) ≡ Ok (Ok c, more)
  value-reread c h = ap (λ o. field as_value line (o ∷ more)) (word-signed c (omega (arith, value-small c h))) ∙ ap (λ r. Ok (r, more)) (valued_signed line c h)

-- ---- kinds and guards, which end a line

kind-reread : (line : ℕ) (k : Kind) → kind_in_range k ≡ true → field as_kind line (map word_of (kind_words k)) ≡ Ok (Ok k, [])
kind-reread line kinds.Start h = ap (λ o. field as_kind line (o ∷ [])) (word-spelling keywords.Start)
kind-reread line kinds.End h = ap (λ o. field as_kind line (o ∷ [])) (word-spelling keywords.End)
kind-reread line (kinds.Task x) h =
    ap (λ o. field as_kind line (o ∷ word_of (figure_word x) ∷ [])) (word-spelling keywords.Task)
    ∙ and-then-from (figure_field line (word_of (figure_word x) ∷ [])) _ (Ok x, []) _ (figure-reread line [] x h) refl
kind-reread line kinds.Exclusive h = ap (λ o. field as_kind line (o ∷ [])) (word-spelling keywords.Xor)
kind-reread line kinds.Parallel h = ap (λ o. field as_kind line (o ∷ [])) (word-spelling keywords.And)
kind-reread line kinds.Inclusive h = ap (λ o. field as_kind line (o ∷ [])) (word-spelling keywords.Or)

guard-reread : (line : ℕ) (g : Guard) → guard_in_range g ≡ true → guard_field line (map word_of (guard_words g)) ≡ Ok (Ok g, [])
guard-reread line guards.Plain h = refl
guard-reread line guards.Default h = ap (λ o. field as_guard line (o ∷ [])) (word-spelling keywords.Default)
guard-reread line (guards.If c) h =
    let p = and_parts (is_figure c.figure) (is_value c.value) h in
    let second = word_of (symbol c.operator) ∷ word_of (signed_decimal c.value) ∷ [] in
    ap (λ o. field as_guard line (o ∷ word_of (figure_word c.figure) ∷ second)) (word-spelling keywords.If)
    ∙ and-then-from (figure_field line (word_of (figure_word c.figure) ∷ second)) _ (Ok c.figure, second) _ (figure-reread line second c.figure p.0)
    (and-then-from (field as_operator line second) _ (Ok c.operator, word_of (signed_decimal c.value) ∷ []) _ (operator-reread line _ c.operator)
    (and-then-from (field as_value line (word_of (signed_decimal c.value) ∷ [])) _ (Ok c.value, []) _ (value-reread line [] c.value p.1) refl))

-- ---- lines

-- the first line
pub first-reread : (line n : ℕ) → is_number n ≡ true → first_line line (map word_of (process_words n)) ≡ Ok n
first-reread line n h =
    let p = and_parts (leb 1 n) (leb n 65535) h in
    ap (λ o. first_line line (o ∷ word_of (decimal n) ∷ [])) (word-spelling keywords.Process)
    ∙ and-then-from (number_field line (word_of (decimal n) ∷ [])) _ (Ok n, []) n (number-reread line [] 65535 n (omega arith) (leb-true 1 n p.0) (leb-true n 65535 p.1)) refl

node-adds : (nodes : List Kind) (line : ℕ) (k : Kind) → kind_in_range k ≡ true → length nodes < 40 → node_added nodes line (length nodes + 1) k ≡ Ok (nodes ++ k ∷ [])
node-adds nodes line k range few =
    cond-false (not (kind_in_range k)) (Err (Number line)) _ (not_from_true _ range)
    ∙ cond-false (leb 40 (length nodes)) (Err (TooMany line)) _ (lt-leb 40 (length nodes) few)
    ∙ cond-false (not (eqb (length nodes + 1) (length nodes + 1))) (Err (Sequence line)) (Ok (nodes ++ k ∷ [])) (not_from_true _ (eq-eqb (length nodes + 1) (length nodes + 1) refl))

node-reread : (line : ℕ) (nodes : List Kind) (k : Kind) → kind_in_range k ≡ true → length nodes < 40 → node_line line nodes (map word_of (decimal (length nodes + 1) ∷ kind_words k)) ≡ Ok (nodes ++ k ∷ [])
node-reread line nodes k range few =
    let rest = map word_of (kind_words k) in
    and-then-from (number_field line (word_of (decimal (length nodes + 1)) ∷ rest)) _ (Ok (length nodes + 1), rest) _ (number-reread line rest 65535 (length nodes + 1) (omega arith) (omega arith) (omega arith))
    (and-then-from (field as_kind line rest) _ (Ok k, []) _ (kind-reread line k range) (node-adds nodes line k range few))

-- one more node, while there is no flow
pub node-later : (line : ℕ) (nodes : List Kind) (k : Kind) → kind_in_range k ≡ true → length nodes < 40 → later_line line (nodes, []) (map word_of (node_words (length nodes + 1) k)) ≡ Ok (nodes ++ k ∷ [], [])
node-later line nodes k range few =
    let rest = map word_of (decimal (length nodes + 1) ∷ kind_words k) in
    ap (λ o. later_line line (nodes, []) (o ∷ rest)) (word-spelling keywords.Node)
    ∙ and-then-from (node_line line nodes rest) _ (nodes ++ k ∷ []) _ (node-reread line nodes k range few) refl

flow-adds : (nodes : List Kind) (flows : List Flow) (line : ℕ) (f : Flow) → flow_formed nodes f ≡ true → length flows < 64 → flow_added nodes flows line (length flows + 1) f.from f.to f.guard ≡ Ok (flows ++ f ∷ [])
flow-adds nodes flows line f formed few =
    let p = and_parts (is_node nodes f.from) _ formed in
    let q = and_parts (is_node nodes f.to) (guard_in_range f.guard) p.1 in
    cond-false (not (guard_in_range f.guard)) (Err (Number line)) _ (not_from_true _ q.1)
    ∙ cond-false (leb 64 (length flows)) (Err (TooMany line)) _ (lt-leb 64 (length flows) few)
    ∙ cond-false (not (eqb (length flows + 1) (length flows + 1))) (Err (Sequence line)) _ (not_from_true _ (eq-eqb (length flows + 1) (length flows + 1) refl))
    ∙ cond-false (not (is_node nodes f.from && is_node nodes f.to)) (Err (MissingNode line)) (Ok (flows ++ f ∷ [])) (not_from_true _ (and_from _ _ p.0 q.0))

-- the number of a node that is there
pub node-range : (nodes : List Kind) (n : ℕ) → is_node nodes n ≡ true → (1 ≤ n) × (n ≤ length nodes)
node-range nodes n h = let p = and_parts (leb 1 n) (leb n (length nodes)) h in (leb-true 1 n p.0, leb-true n (length nodes) p.1)

module _ (line : ℕ) (nodes : List Kind) (room : length nodes ≤ 40) (flows : List Flow) (f : Flow) (formed : flow_formed nodes f ≡ true) (few : length flows < 64) where
  flow-reread : flow_line line nodes flows (map word_of (decimal (length flows + 1) ∷ decimal f.from ∷ decimal f.to ∷ guard_words f.guard)) ≡ Ok (flows ++ f ∷ [])
  flow-reread =
      let p = and_parts (is_node nodes f.from) _ formed in
      let q = and_parts (is_node nodes f.to) (guard_in_range f.guard) p.1 in
      let from = node-range nodes f.from p.0 in
      let to = node-range nodes f.to q.0 in
      let guard = map word_of (guard_words f.guard) in
      and-then-from (number_field line (word_of (decimal (length flows + 1)) ∷ word_of (decimal f.from) ∷ word_of (decimal f.to) ∷ guard)) _ (Ok (length flows + 1), word_of (decimal f.from) ∷ word_of (decimal f.to) ∷ guard) _ (number-reread line _ 65535 (length flows + 1) (omega arith) (omega arith) (omega arith))
      (and-then-from (number_field line (word_of (decimal f.from) ∷ word_of (decimal f.to) ∷ guard)) _ (Ok f.from, word_of (decimal f.to) ∷ guard) _ (number-reread line _ 65535 f.from (omega arith) from.0 (omega arith))
      (and-then-from (number_field line (word_of (decimal f.to) ∷ guard)) _ (Ok f.to, guard) _ (number-reread line _ 65535 f.to (omega arith) to.0 (omega arith))
      (and-then-from (guard_field line guard) _ (Ok f.guard, []) _ (guard-reread line f.guard q.1) (flow-adds nodes flows line f formed few))))

  -- one more flow
  pub flow-later : later_line line (nodes, flows) (map word_of (flow_words (length flows + 1) f)) ≡ Ok (nodes, flows ++ f ∷ [])
  flow-later =
      let rest = map word_of (decimal (length flows + 1) ∷ decimal f.from ∷ decimal f.to ∷ guard_words f.guard) in
      ap (λ o. later_line line (nodes, flows) (o ∷ rest)) (word-spelling keywords.Flow)
      ∙ and-then-from (flow_line line nodes flows rest) _ (flows ++ f ∷ []) _ flow-reread refl
