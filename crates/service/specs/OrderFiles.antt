-- What waits in an order file.
use Rattle.std.specs.Prelude.{◌≡◌, ℕ, List, [], map, Some, None, Ok, Err, Option, Result}
use Rattle.fault.specs.declared.line.LineFault.{LineFault}
use Rattle.reading.specs.declared.order.OrderLine.{OrderLine}
use Rattle.reading.specs.Orders.{order_read, order_written, OrderFormed}
use Rattle.reading.specs.Writings.{DescribesAs, DescribesNone}
use Rattle.service.specs.declared.order_file.OrderFile.{OrderFile}
use Rattle.service.specs.declared.waiting.Waiting.{Waiting}
use Rattle.service.specs.Answers.{answer}
use Rattle.service.specs.Entries.{entry, answers_for}
use Rattle.service.specs.Piles.{waits_in}
use Rattle.service.specs.Waits.{Waits}

abbrev pub waits_from : OrderFile → Waits
waits_from f = waits_in f.pile

abbrev pub fault_of : OrderFile → Option LineFault
fault_of f = f.fault

-- what a line orders
abbrev pub ordered : OrderLine → Waiting
ordered o = entry o.node (answer o.value)

-- for each node the answers of its lines, in line order
abbrev pub order_waits : List OrderLine → Waits
order_waits os = answers_for (map ordered os)

-- the text is the writing of some lines, and their answers wait
pub record Filled (text : List ℕ) (f : OrderFile) (os : List OrderLine) : Type 0 where
  pub writing : DescribesAs order_written OrderFormed text os
  pub waiting : waits_from f ≡ order_waits os
  pub fine : fault_of f ≡ None

-- the text is no order text, and no answer waits
pub record Emptied (text : List ℕ) (f : OrderFile) (fault : LineFault) : Type 0 where
  pub writing : DescribesNone order_written OrderFormed text
  pub waiting : (n : ℕ) → waits_from f n ≡ []
  pub told : fault_of f ≡ Some fault

abbrev pub OverRead : List ℕ → OrderFile → Result (List OrderLine) LineFault → Type 0
OverRead text f (Ok os) = Filled text f os
OverRead text f (Err fault) = Emptied text f fault

-- an order file over a text
abbrev pub Over : List ℕ → OrderFile → Type 0
Over text f = OverRead text f (order_read text)
