-- The words and lines of a writing: none holds a separator, each byte is allowed, and none is long.
use Rattle.std.proofs.Common.{◌≡◌, ℕ, suc, ◌+◌, ◌<◌, ◌≤◌, true, leb, List, [], ◌∷◌, length, ℤ, Some, decimal, refl, ap, arith, length-append}
use Rattle.std.specs.Fmt.{signed_decimal}
use Rattle.std.specs.List.{AllByRecursion as All}
use Rattle.std.proofs.lemmas.Fmt.{length-decimal-le, length_signed_le}
use Rattle.std.proofs.ByRecursion.{All-append}
use Rattle.std.proofs.lemmas.Bool.{and_parts, leb-true}
use Rattle.process.specs.declared.flow.Flow.{Flow}
use Rattle.process.specs.declared.flow.Guard.{Guard}
use Rattle.process.specs.declared.flow.Guard.TheVariants as guards
use Rattle.process.specs.declared.flow.Operator.{Operator}
use Rattle.process.specs.declared.flow.Operator.TheVariants as operators
use Rattle.process.specs.declared.node.Kind.{Kind}
use Rattle.process.specs.declared.node.Kind.TheVariants as kinds
use Rattle.process.specs.Processes.{is_number, is_figure, is_value, is_node, kind_in_range, guard_in_range, flow_formed, kinds_in_range, flows_formed}
use Rattle.text.specs.declared.words.Keyword.{Keyword}
use Rattle.text.specs.declared.words.Keyword.TheVariants as keywords
use Rattle.text.specs.Words.{Token, keyword, number, figure, operator, spelling, symbol, word_of}
use Rattle.text.proofs.Tokens.{word-spelling, word-symbol, word-decimal, word-signed, word-figure-decimal}
use Rattle.reading.specs.Lines.{Process}
use Rattle.reading.specs.Writings.{figure_word, kind_words, guard_words, process_words, node_words, flow_words, node_lines, flow_lines, process_lines, Formed}
use Rattle.reading.proofs.Rereads.{value-small, node-range}

-- ---- words

-- the bytes are a word of at most 11 bytes
pub record Fine (w : List ℕ) : Type 0 where
  pub token : Token
  pub is : word_of w ≡ Some token
  pub short : length w ≤ 11

pub fine-spelling : (k : Keyword) → Fine (spelling k)
fine-spelling k = record { token = keyword k; is = word-spelling k; short = short k }
  where
    short : (k : Keyword) → length (spelling k) ≤ 11
    short keywords.Process = omega arith
    short keywords.Node = omega arith
    short keywords.Flow = omega arith
    short keywords.Start = omega arith
    short keywords.End = omega arith
    short keywords.Xor = omega arith
    short keywords.And = omega arith
    short keywords.Or = omega arith
    short keywords.Task = omega arith
    short keywords.Default = omega arith
    short keywords.If = omega arith
    short keywords.Answer = omega arith

fine-symbol : (o : Operator) → Fine (symbol o)
fine-symbol o = record { token = operator o; is = word-symbol o; short = short o }
  where
    short : (o : Operator) → length (symbol o) ≤ 11
    short operators.Less = omega arith
    short operators.AtMost = omega arith
    short operators.Equal = omega arith
    short operators.NotEqual = omega arith
    short operators.AtLeast = omega arith
    short operators.Greater = omega arith

pub fine-decimal : (n : ℕ) → n ≤ 65535 → Fine (decimal n)
fine-decimal n h = record { token = number (decimal n); is = word-decimal n (omega arith); short = omega (arith, length-decimal-le 5 n (omega arith) (omega arith) (omega arith)) }

pub fine-signed : (c : ℤ) → is_value c ≡ true → Fine (signed_decimal c)
fine-signed c h =
    let few = value-small c h in
    record { token = number (signed_decimal c); is = word-signed c (omega arith); short = length_signed_le 10 c (omega arith) (omega arith) }

fine-figure : (x : ℕ) → is_figure x ≡ true → Fine (figure_word x)
fine-figure x h =
    let most = leb-true x 16 (and_parts (leb 1 x) (leb x 16) h).1 in
    record { token = figure (figure_word x); is = word-figure-decimal x (omega arith); short = omega (arith, length-decimal-le 2 x (omega arith) (omega arith) (omega arith)) }

-- ---- lines

-- one to eight words
pub record FineLine (ws : List (List ℕ)) : Type 0 where
  pub some : 0 < length ws
  pub few : length ws ≤ 8
  pub words : All Fine ws

few-kind : (k : Kind) → length (kind_words k) ≤ 2
few-kind kinds.Start = omega arith
few-kind kinds.End = omega arith
few-kind (kinds.Task x) = omega arith
few-kind kinds.Exclusive = omega arith
few-kind kinds.Parallel = omega arith
few-kind kinds.Inclusive = omega arith

fine-kind : (k : Kind) → kind_in_range k ≡ true → All Fine (kind_words k)
fine-kind kinds.Start h = (fine-spelling keywords.Start, tt)
fine-kind kinds.End h = (fine-spelling keywords.End, tt)
fine-kind (kinds.Task x) h = (fine-spelling keywords.Task, (fine-figure x h, tt))
fine-kind kinds.Exclusive h = (fine-spelling keywords.Xor, tt)
fine-kind kinds.Parallel h = (fine-spelling keywords.And, tt)
fine-kind kinds.Inclusive h = (fine-spelling keywords.Or, tt)

few-guard : (g : Guard) → length (guard_words g) ≤ 4
few-guard guards.Plain = omega arith
few-guard guards.Default = omega arith
few-guard (guards.If c) = omega arith

fine-guard : (g : Guard) → guard_in_range g ≡ true → All Fine (guard_words g)
fine-guard guards.Plain h = tt
fine-guard guards.Default h = (fine-spelling keywords.Default, tt)
fine-guard (guards.If c) h =
    let p = and_parts (is_figure c.figure) (is_value c.value) h in
    (fine-spelling keywords.If, (fine-figure c.figure p.0, (fine-symbol c.operator, (fine-signed c.value p.1, tt))))

pub process-fine : (n : ℕ) → n ≤ 65535 → FineLine (process_words n)
process-fine n h = record { some = omega arith; few = omega arith; words = (fine-spelling keywords.Process, (fine-decimal n h, tt)) }

pub node-fine : (n : ℕ) (k : Kind) → n ≤ 65535 → kind_in_range k ≡ true → FineLine (node_words n k)
node-fine n k h range = record { some = omega arith; few = omega (arith, few-kind k); words = (fine-spelling keywords.Node, (fine-decimal n h, fine-kind k range)) }

pub flow-fine : (nodes : List Kind) (n : ℕ) (f : Flow) → length nodes ≤ 40 → n ≤ 65535 → flow_formed nodes f ≡ true → FineLine (flow_words n f)
flow-fine nodes n f room h formed =
    let p = and_parts (is_node nodes f.from) _ formed in
    let q = and_parts (is_node nodes f.to) (guard_in_range f.guard) p.1 in
    let from = node-range nodes f.from p.0 in
    let to = node-range nodes f.to q.0 in
    record {
      some = omega arith;
      few = omega (arith, few-guard f.guard);
      words = (fine-spelling keywords.Flow, (fine-decimal n h, (fine-decimal f.from (omega arith), (fine-decimal f.to (omega arith), fine-guard f.guard q.1))));
    }

-- ---- all lines

nodes-fine : (n : ℕ) (ks : List Kind) → n + length ks ≤ 65536 → kinds_in_range ks ≡ true → All FineLine (node_lines n ks)
nodes-fine n [] room h = tt
nodes-fine n (k ∷ ks) room h =
    let p = and_parts (kind_in_range k) (kinds_in_range ks) h in
    (node-fine n k (omega arith) p.0, nodes-fine (n + 1) ks (omega arith) p.1)

flows-fine : (nodes : List Kind) (n : ℕ) (fs : List Flow) → length nodes ≤ 40 → n + length fs ≤ 65536 → flows_formed nodes fs ≡ true → All FineLine (flow_lines n fs)
flows-fine nodes n [] few room h = tt
flows-fine nodes n (f ∷ fs) few room h =
    let p = and_parts (flow_formed nodes f) (flows_formed nodes fs) h in
    (flow-fine nodes n f few (omega arith) p.0, flows-fine nodes (n + 1) fs few (omega arith) p.1)

pub lines-fine : (p : Process) → Formed p → All FineLine (process_lines p)
lines-fine p h =
    let a = and_parts (is_number p.number) _ h.numbers in
    let b = and_parts (kinds_in_range p.nodes) (flows_formed p.nodes p.flows) a.1 in
    let first = process-fine p.number (leb-true p.number 65535 (and_parts (leb 1 p.number) _ a.0).1) in
    let nodes = nodes-fine 1 p.nodes (omega (arith, h.few_nodes)) b.0 in
    let flows = flows-fine p.nodes 1 p.flows h.few_nodes (omega (arith, h.few_flows)) b.1 in
    (first, All-append FineLine (node_lines 1 p.nodes) (flow_lines 1 p.flows) nodes flows)

node-lines-count : (n : ℕ) (ks : List Kind) → length (node_lines n ks) ≡ length ks
node-lines-count n [] = refl
node-lines-count n (k ∷ ks) = ap suc (node-lines-count (n + 1) ks)

flow_lines-count : (n : ℕ) (fs : List Flow) → length (flow_lines n fs) ≡ length fs
flow_lines-count n [] = refl
flow_lines-count n (f ∷ fs) = ap suc (flow_lines-count (n + 1) fs)

-- one `process`, at most 40 nodes and at most 64 flows
pub lines-few : (p : Process) → Formed p → length (process_lines p) ≤ 105
lines-few p h = omega (arith, h.few_nodes, h.few_flows, length-append (node_lines 1 p.nodes) (flow_lines 1 p.flows), node-lines-count 1 p.nodes, flow_lines-count 1 p.flows)
