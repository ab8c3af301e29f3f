-- The lines of an order text, `answer N C`: an answer with the value C for node N. How they are read, and how they are written.
use Rattle.std.specs.Prelude.{◌≡◌, ℕ, ◌+◌, ◌<◌, ◌≤◌, Bool, true, ◌&&◌, List, [], ◌∷◌, ◌++◌, map, length, ℤ, Some, None, Ok, Err, decimal, Result}
use Rattle.std.specs.Fmt.{signed_decimal}
use Rattle.fault.specs.declared.line.LineFault.{LineFault}
use Rattle.fault.specs.declared.line.LineFault.TheVariants.{Form}
use Rattle.process.specs.declared.row.Row.{Row}
use Rattle.process.specs.Processes.{is_node_number, is_value}
use Rattle.process.specs.Rows.{items}
use Rattle.text.specs.declared.words.Keyword.{Keyword}
use Rattle.text.specs.declared.words.Keyword.TheVariants as keywords
use Rattle.text.specs.Texts.{text_check}
use Rattle.text.specs.Words.{Token, keyword, number, figure, operator, spelling, words_of, next_word}
use Rattle.reading.specs.declared.order.OrderLine.{OrderLine}
use Rattle.reading.specs.Fields.{and_then, Words, counted_field, field, as_value}
use Rattle.reading.specs.Lines.{ended, lines_of, in_line}
use Rattle.reading.specs.Writings.{text_of, DescribesAs, DescribesNone}

abbrev pub order : ℕ → ℤ → OrderLine
order n c = record { node = n; value = c }

-- ---- how an order text is read

-- what follows `answer` in a line: first the form of the whole line, then its numbers
abbrev pub order_entry : ℕ → Words → Result OrderLine LineFault
order_entry line ts =
    and_then (counted_field 40 line ts) (λ n.
    and_then (field as_value line n.1) (λ c.
    and_then (ended line c.1) (λ u.
    and_then n.0 (λ node.
    and_then c.0 (λ value.
    Ok (order node value))))))

abbrev pub opens_order : ℕ → Keyword → Words → Result OrderLine LineFault
opens_order line keywords.Process ts = Err (Form line)
opens_order line keywords.Node ts = Err (Form line)
opens_order line keywords.Flow ts = Err (Form line)
opens_order line keywords.Start ts = Err (Form line)
opens_order line keywords.End ts = Err (Form line)
opens_order line keywords.Xor ts = Err (Form line)
opens_order line keywords.And ts = Err (Form line)
opens_order line keywords.Or ts = Err (Form line)
opens_order line keywords.Task ts = Err (Form line)
opens_order line keywords.Default ts = Err (Form line)
opens_order line keywords.If ts = Err (Form line)
opens_order line keywords.Answer ts = order_entry line ts

abbrev pub as_order : ℕ → Token → Words → Result OrderLine LineFault
as_order line (keyword k) ts = opens_order line k ts
as_order line (number w) ts = Err (Form line)
as_order line (figure w) ts = Err (Form line)
as_order line (operator o) ts = Err (Form line)

abbrev pub order_line : ℕ → Words → Result OrderLine LineFault
order_line line ts = elim (next_word ts) [ None ↦ Err (Form line) | Some p ↦ as_order line p.0 p.1 ]

-- the lines after those that were read
abbrev pub order_lines : ℕ → List OrderLine → List (List ℕ) → Result (List OrderLine) LineFault
order_lines line read [] = Ok read
order_lines line read (l ∷ ls) = and_then (order_line line (words_of l)) (λ o. order_lines (line + 1) (read ++ o ∷ []) ls)

-- the lines of an order text, or its first fault: the text as a whole, and then line by line
abbrev pub order_read : List ℕ → Result (List OrderLine) LineFault
order_read text = and_then (in_line (text_check text)) (λ u. order_lines 1 [] (lines_of text))

-- what the code has of it
abbrev pub OrderLinesRead : {n : ℕ} → Row OrderLine n → List (List ℕ) → Result (Unit {0}) LineFault → Row OrderLine n → Type 0
OrderLinesRead os lines (Ok u) os' = order_lines 1 (items os) lines ≡ Ok (items os')
OrderLinesRead os lines (Err fault) os' = order_lines 1 (items os) lines ≡ Err fault

abbrev pub OrderRead : {n : ℕ} → List ℕ → Result (Row OrderLine n) LineFault → Type 0
OrderRead text (Ok os) = order_read text ≡ Ok (items os)
OrderRead text (Err fault) = order_read text ≡ Err fault

-- ---- how it is written

abbrev pub order_words : OrderLine → List (List ℕ)
order_words o = spelling keywords.Answer ∷ decimal o.node ∷ signed_decimal o.value ∷ []

unfoldable pub order_written : List OrderLine → List ℕ
order_written os = text_of (map order_words os)

-- a node can have the number, and a figure the value
abbrev pub order_in_range : OrderLine → Bool
order_in_range o = is_node_number o.node && is_value o.value

abbrev pub orders_in_range : List OrderLine → Bool
orders_in_range [] = true
orders_in_range (o ∷ os) = order_in_range o && orders_in_range os

-- at least one line, each number in its range, and no more bytes than a text may have
pub record OrderFormed (os : List OrderLine) : Type 0 where
  pub some : 0 < length os
  pub numbers : orders_in_range os ≡ true
  pub short : length (order_written os) ≤ 16384

-- the text is accepted exactly if it is the writing of such lines, and then of these only
abbrev pub OrderWritten : {n : ℕ} → List ℕ → Result (Row OrderLine n) LineFault → Type 0
OrderWritten text (Ok os) = DescribesAs order_written OrderFormed text (items os)
OrderWritten text (Err fault) = DescribesNone order_written OrderFormed text
