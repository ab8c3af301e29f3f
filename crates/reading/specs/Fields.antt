-- What stands at one place of a line, word by word. A word of another kind, or none, is a fault of the line's form.
-- A number that is badly written or out of its range is kept as a fault of its own, for the form of the whole line comes first.
use Rattle.std.specs.Prelude.{◌≡◌, ℕ, cond, List, drop, ℤ, pos, negsuc, Some, None, Ok, Err, Option, Result, unsigned_abs}
use Rattle.std.specs.Option.{option_map, ok_or}
use Rattle.fault.specs.declared.line.LineFault.{LineFault}
use Rattle.fault.specs.declared.line.LineFault.TheVariants.{Form, Number}
use Rattle.process.specs.declared.flow.Guard.{Guard}
use Rattle.process.specs.declared.flow.Guard.TheVariants as guards
use Rattle.process.specs.declared.flow.Operator.{Operator}
use Rattle.process.specs.declared.node.Kind.{Kind}
use Rattle.process.specs.declared.node.Kind.TheVariants as kinds
use Rattle.text.specs.declared.words.Keyword.{Keyword}
use Rattle.text.specs.declared.words.Keyword.TheVariants as keywords
use Rattle.text.specs.Numbers.{numeral}
use Rattle.text.specs.declared.words.Rest.{Rest}
use Rattle.text.specs.declared.words.Word.{Word}
use Rattle.text.specs.Words.{Token, line as line_of, plain, keyword, number, figure, operator, words_left, none_left, next_word}
use Rattle.reading.specs.declared.fields.Field.{Field}

-- one step after another: the first fault counts
abbrev pub and_then : {X Y E : Type 0} → Result X E → (X → Result Y E) → Result Y E
and_then (Ok x) next = next x
and_then (Err e) next = Err e

-- the words that are left of a line; a piece that is no word stands as None
abbrev pub Words : Type 0
Words = List (Option Token)

-- a value, or the fault of its number, and the words that are left after it
abbrev pub Parsed : Type 0 → Type 0
Parsed X = Result (Result X LineFault × Words) LineFault

-- what the code has of it
abbrev pub parsed : {X : Type 0} → Result (Field X) LineFault → Parsed X
parsed (Ok f) = Ok (f.value, words_left f.rest)
parsed (Err e) = Err e

-- what is left is of the same line
abbrev pub SameLine : {X : Type 0} → ℕ → Result (Field X) LineFault → Type 0
SameLine line (Ok f) = f.rest.line ≡ line
SameLine line (Err e) = Unit {0}

-- the code has what is read there, and what is left of the same line
abbrev pub IsField : {X : Type 0} → (ℕ → Words → Parsed X) → Rest → Result (Field X) LineFault → Type 0
IsField reads rest r = (parsed r ≡ reads rest.line (words_left rest)) × SameLine rest.line r

-- the number from low to high that the word writes
abbrev pub ranged : ℕ → ℤ → ℤ → List ℕ → Result ℤ LineFault
ranged line low high w = ok_or (numeral low high w) (Number line)

-- the number from 1 to high that the word writes
abbrev pub counted : ℕ → ℕ → List ℕ → Result ℕ LineFault
counted line high w = ok_or (option_map unsigned_abs (numeral (pos 1) (pos high) w)) (Number line)

-- the value of a figure that the word writes
abbrev pub valued : ℕ → List ℕ → Result ℤ LineFault
valued line w = ranged line (negsuc 999999999) (pos 1000000000) w

-- a number from 1 to high
abbrev pub as_counted : ℕ → ℕ → Token → Words → Parsed ℕ
as_counted high line (keyword k) ts = Err (Form line)
as_counted high line (number w) ts = Ok (counted line high w, ts)
as_counted high line (figure w) ts = Err (Form line)
as_counted high line (operator o) ts = Err (Form line)

-- the number of a figure, after its `v`
abbrev pub as_figure : ℕ → Token → Words → Parsed ℕ
as_figure line (keyword k) ts = Err (Form line)
as_figure line (number w) ts = Err (Form line)
as_figure line (figure w) ts = Ok (counted line 16 (drop 1 w), ts)
as_figure line (operator o) ts = Err (Form line)

-- the value of a figure
abbrev pub as_value : ℕ → Token → Words → Parsed ℤ
as_value line (keyword k) ts = Err (Form line)
as_value line (number w) ts = Ok (valued line w, ts)
as_value line (figure w) ts = Err (Form line)
as_value line (operator o) ts = Err (Form line)

abbrev pub as_operator : ℕ → Token → Words → Parsed Operator
as_operator line (keyword k) ts = Err (Form line)
as_operator line (number w) ts = Err (Form line)
as_operator line (figure w) ts = Err (Form line)
as_operator line (operator o) ts = Ok (Ok o, ts)

-- the next word, read as one of these
abbrev pub field : {X : Type 0} → (ℕ → Token → Words → Parsed X) → ℕ → Words → Parsed X
field reads line ts = elim (next_word ts) [ None ↦ Err (Form line) | Some p ↦ reads line p.0 p.1 ]

-- what a reader makes of a word, as a field
abbrev pub taken : {X : Type 0} → ℕ → Option (Result X LineFault) → Words → Parsed X
taken line None ts = Err (Form line)
taken line (Some value) ts = Ok (value, ts)

-- the next word is what a reader took, or left as none of its kind, and what is left is of the same line
abbrev pub FieldRead : {X : Type 0} → (Word → Option (Result X LineFault) → Type 0) → Rest → Result (Field X) LineFault → Type 0
FieldRead {X} reads rest field =
    (elim (next_word (words_left rest)) [
      | None ↦ parsed field ≡ Err (Form rest.line)
      | Some n ↦ (w : Word) × (r : Option (Result X LineFault)) × (plain w ≡ n.0) × (line_of w ≡ rest.line) × reads w r × (parsed field ≡ taken rest.line r n.1)
    ])
    × SameLine rest.line field

abbrev pub counted_field : ℕ → ℕ → Words → Parsed ℕ
counted_field high line ts = field (as_counted high) line ts

-- the number of a process, a node or a flow
abbrev pub number_field : ℕ → Words → Parsed ℕ
number_field line ts = counted_field 65535 line ts

abbrev pub figure_field : ℕ → Words → Parsed ℕ
figure_field line ts = field as_figure line ts

-- a task is followed by the figure that its answer sets
abbrev pub task_kind : ℕ → Words → Parsed Kind
task_kind line ts = and_then (figure_field line ts) (λ f. Ok (and_then f.0 (λ x. Ok (kinds.Task x)), f.1))

-- the kind of a node
abbrev pub kind_named : ℕ → Keyword → Words → Parsed Kind
kind_named line keywords.Process ts = Err (Form line)
kind_named line keywords.Node ts = Err (Form line)
kind_named line keywords.Flow ts = Err (Form line)
kind_named line keywords.Start ts = Ok (Ok kinds.Start, ts)
kind_named line keywords.End ts = Ok (Ok kinds.End, ts)
kind_named line keywords.Xor ts = Ok (Ok kinds.Exclusive, ts)
kind_named line keywords.And ts = Ok (Ok kinds.Parallel, ts)
kind_named line keywords.Or ts = Ok (Ok kinds.Inclusive, ts)
kind_named line keywords.Task ts = task_kind line ts
kind_named line keywords.Default ts = Err (Form line)
kind_named line keywords.If ts = Err (Form line)
kind_named line keywords.Answer ts = Err (Form line)

abbrev pub as_kind : ℕ → Token → Words → Parsed Kind
as_kind line (keyword k) ts = kind_named line k ts
as_kind line (number w) ts = Err (Form line)
as_kind line (figure w) ts = Err (Form line)
as_kind line (operator o) ts = Err (Form line)

-- each part of a condition, or the first fault among them
abbrev pub condition_value : Result ℕ LineFault → Result Operator LineFault → Result ℤ LineFault → Result Guard LineFault
condition_value x o c = and_then x (λ f. and_then o (λ p. and_then c (λ v. Ok (guards.If (record { figure = f; operator = p; value = v })))))

-- `if` is followed by a figure, an operator and a value
abbrev pub condition : ℕ → Words → Parsed Guard
condition line ts =
    and_then (figure_field line ts) (λ x.
    and_then (field as_operator line x.1) (λ o.
    and_then (field as_value line o.1) (λ c.
    Ok (condition_value x.0 o.0 c.0, c.1))))

abbrev pub guard_named : ℕ → Keyword → Words → Parsed Guard
guard_named line keywords.Process ts = Err (Form line)
guard_named line keywords.Node ts = Err (Form line)
guard_named line keywords.Flow ts = Err (Form line)
guard_named line keywords.Start ts = Err (Form line)
guard_named line keywords.End ts = Err (Form line)
guard_named line keywords.Xor ts = Err (Form line)
guard_named line keywords.And ts = Err (Form line)
guard_named line keywords.Or ts = Err (Form line)
guard_named line keywords.Task ts = Err (Form line)
guard_named line keywords.Default ts = Ok (Ok guards.Default, ts)
guard_named line keywords.If ts = condition line ts
guard_named line keywords.Answer ts = Err (Form line)

abbrev pub as_guard : ℕ → Token → Words → Parsed Guard
as_guard line (keyword k) ts = guard_named line k ts
as_guard line (number w) ts = Err (Form line)
as_guard line (figure w) ts = Err (Form line)
as_guard line (operator o) ts = Err (Form line)

-- a flow may end after its two nodes
abbrev pub guard_field : ℕ → Words → Parsed Guard
guard_field line ts = cond (none_left ts) (Ok (Ok guards.Plain, ts)) (field as_guard line ts)
