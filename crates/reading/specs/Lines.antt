-- The lines of a model text, one after another: `process K`, then the nodes, then the flows.
use Rattle.std.specs.Prelude.{ℕ, ◌+◌, ◌-◌, cond, List, [], ◌∷◌, length, take, Some, None, Ok, Err, Result, ◌==◌}
use Rattle.fault.specs.declared.line.LineFault.{LineFault}
use Rattle.fault.specs.declared.line.LineFault.TheVariants.{Text, Form}
use Rattle.fault.specs.declared.text.TextFault.{TextFault}
use Rattle.process.specs.declared.flow.Flow.{Flow}
use Rattle.process.specs.declared.node.Kind.{Kind}
use Rattle.process.specs.Processes.{node_added, flow_added}
use Rattle.text.specs.declared.words.Keyword.{Keyword}
use Rattle.text.specs.declared.words.Keyword.TheVariants as keywords
use Rattle.text.specs.Pieces.{pieces}
use Rattle.text.specs.Texts.{text_check}
use Rattle.text.specs.Words.{Token, keyword, number, figure, operator, words_of, none_left, next_word}
use Rattle.reading.specs.Fields.{and_then, Words, number_field, field, as_kind, guard_field}

-- a process: its number, its nodes and its flows
pub record Process : Type 0 where
  pub number : ℕ
  pub nodes : List Kind
  pub flows : List Flow

-- no word is left of the line
abbrev pub ended : ℕ → Words → Result (Unit {0}) LineFault
ended line ts = cond (none_left ts) (Ok tt) (Err (Form line))

-- what follows `process` in a line
abbrev pub process_entry : ℕ → Words → Result ℕ LineFault
process_entry line ts =
    and_then (number_field line ts) (λ n.
    and_then (ended line n.1) (λ u. n.0))

-- what follows `node` in a line: first the form of the whole line, then its numbers, then the node's place in the process
abbrev pub node_line : ℕ → List Kind → Words → Result (List Kind) LineFault
node_line line nodes ts =
    and_then (number_field line ts) (λ n.
    and_then (field as_kind line n.1) (λ k.
    and_then (ended line k.1) (λ u.
    and_then n.0 (λ number.
    and_then k.0 (λ kind.
    node_added nodes line number kind)))))

-- what follows `flow` in a line
abbrev pub flow_line : ℕ → List Kind → List Flow → Words → Result (List Flow) LineFault
flow_line line nodes flows ts =
    and_then (number_field line ts) (λ n.
    and_then (number_field line n.1) (λ a.
    and_then (number_field line a.1) (λ b.
    and_then (guard_field line b.1) (λ g.
    and_then (ended line g.1) (λ u.
    and_then n.0 (λ number.
    and_then a.0 (λ from.
    and_then b.0 (λ to.
    and_then g.0 (λ guard.
    flow_added nodes flows line number from to guard)))))))))

-- the nodes and flows so far
abbrev pub Sofar : Type 0
Sofar = List Kind × List Flow

-- a node may stand only before the first flow
abbrev pub opened_by : ℕ → Sofar → Keyword → Words → Result Sofar LineFault
opened_by line s keywords.Process ts = Err (Form line)
opened_by line s keywords.Node ts = cond (length s.1 == 0) (and_then (node_line line s.0 ts) (λ ns. Ok (ns, s.1))) (Err (Form line))
opened_by line s keywords.Flow ts = and_then (flow_line line s.0 s.1 ts) (λ fs. Ok (s.0, fs))
opened_by line s keywords.Start ts = Err (Form line)
opened_by line s keywords.End ts = Err (Form line)
opened_by line s keywords.Xor ts = Err (Form line)
opened_by line s keywords.And ts = Err (Form line)
opened_by line s keywords.Or ts = Err (Form line)
opened_by line s keywords.Task ts = Err (Form line)
opened_by line s keywords.Default ts = Err (Form line)
opened_by line s keywords.If ts = Err (Form line)
opened_by line s keywords.Answer ts = Err (Form line)

abbrev pub as_line : Sofar → ℕ → Token → Words → Result Sofar LineFault
as_line s line (keyword k) ts = opened_by line s k ts
as_line s line (number w) ts = Err (Form line)
as_line s line (figure w) ts = Err (Form line)
as_line s line (operator o) ts = Err (Form line)

-- a line after the first
abbrev pub later_line : ℕ → Sofar → Words → Result Sofar LineFault
later_line line s ts = elim (next_word ts) [ None ↦ Err (Form line) | Some p ↦ as_line s line p.0 p.1 ]

abbrev pub later_lines : ℕ → Sofar → List (List ℕ) → Result Sofar LineFault
later_lines line s [] = Ok s
later_lines line s (l ∷ ls) = and_then (later_line line s (words_of l)) (λ t. later_lines (line + 1) t ls)

-- the first line
abbrev pub opens_process : ℕ → Keyword → Words → Result ℕ LineFault
opens_process line keywords.Process ts = process_entry line ts
opens_process line keywords.Node ts = Err (Form line)
opens_process line keywords.Flow ts = Err (Form line)
opens_process line keywords.Start ts = Err (Form line)
opens_process line keywords.End ts = Err (Form line)
opens_process line keywords.Xor ts = Err (Form line)
opens_process line keywords.And ts = Err (Form line)
opens_process line keywords.Or ts = Err (Form line)
opens_process line keywords.Task ts = Err (Form line)
opens_process line keywords.Default ts = Err (Form line)
opens_process line keywords.If ts = Err (Form line)
opens_process line keywords.Answer ts = Err (Form line)

abbrev pub as_process : ℕ → Token → Words → Result ℕ LineFault
as_process line (keyword k) ts = opens_process line k ts
as_process line (number w) ts = Err (Form line)
as_process line (figure w) ts = Err (Form line)
as_process line (operator o) ts = Err (Form line)

abbrev pub first_line : ℕ → Words → Result ℕ LineFault
first_line line ts = elim (next_word ts) [ None ↦ Err (Form line) | Some p ↦ as_process line p.0 p.1 ]

abbrev pub all_lines : List (List ℕ) → Result Process LineFault
all_lines [] = Err (Form 1)
all_lines (l ∷ ls) =
    and_then (first_line 1 (words_of l)) (λ n.
    and_then (later_lines 2 ([], []) ls) (λ s.
    Ok (record { number = n; nodes = s.0; flows = s.1 })))

-- a line ends with a line feed
abbrev pub lines_of : List ℕ → List (List ℕ)
lines_of text = pieces 10 (take (length text - 1) text)

abbrev pub in_line : Result (Unit {0}) TextFault → Result (Unit {0}) LineFault
in_line (Ok u) = Ok u
in_line (Err f) = Err (Text f)

-- the process that a text describes, or its first fault: the text as a whole, and then line by line
abbrev pub process_read : List ℕ → Result Process LineFault
process_read text = and_then (in_line (text_check text)) (λ u. all_lines (lines_of text))
