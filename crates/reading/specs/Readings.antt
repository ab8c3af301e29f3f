-- What reading does to a draft.
use Rattle.std.specs.Prelude.{◌≡◌, ℕ, ◌-◌, ◌⊎◌, List, length, take, Ok, Err, Result}
use Rattle.std.specs.Borrow.{Bor}
use Rattle.fault.specs.declared.line.LineFault.{LineFault}
use Rattle.fault.specs.declared.model.ModelFault.{ModelFault}
use Rattle.fault.specs.declared.model.ModelFault.TheVariants.{Line}
use Rattle.model.specs.declared.model.Model.{Model}
use Rattle.model.specs.Models.{draft_of}
use Rattle.model.specs.Sound.{Sound, Unsound}
use Rattle.process.specs.declared.draft.Draft.{Draft}
use Rattle.process.specs.Drafts.{number_of, nodes_of, flows_of}
use Rattle.text.specs.Texts.{text_check}
use Rattle.reading.specs.Fields.{Words}
use Rattle.reading.specs.Lines.{Process, Sofar, node_line, flow_line, later_line, later_lines, in_line, process_read}
use Rattle.reading.specs.Writings.{Describes, DescribesNothing}

-- the process that a draft holds
abbrev pub process_of : Draft → Process
process_of d = record { number = number_of d; nodes = nodes_of d; flows = flows_of d }

abbrev pub sofar : Draft → Sofar
sofar d = (nodes_of d, flows_of d)

-- a node line was read, or refused and nothing changed
abbrev pub NodeRead : Draft → ℕ → Words → Result (Unit {0}) LineFault → Draft → Type 0
NodeRead d line ts (Ok u) d' = (node_line line (nodes_of d) ts ≡ Ok (nodes_of d')) × (number_of d' ≡ number_of d) × (flows_of d' ≡ flows_of d)
NodeRead d line ts (Err fault) d' = (node_line line (nodes_of d) ts ≡ Err fault) × (d' ≡ d)

-- the same of a flow line
abbrev pub FlowRead : Draft → ℕ → Words → Result (Unit {0}) LineFault → Draft → Type 0
FlowRead d line ts (Ok u) d' = (flow_line line (nodes_of d) (flows_of d) ts ≡ Ok (flows_of d')) × (number_of d' ≡ number_of d) × (nodes_of d' ≡ nodes_of d)
FlowRead d line ts (Err fault) d' = (flow_line line (nodes_of d) (flows_of d) ts ≡ Err fault) × (d' ≡ d)

-- and of any line after the first
abbrev pub LineRead : Draft → ℕ → Words → Result (Unit {0}) LineFault → Draft → Type 0
LineRead d line ts (Ok u) d' = (later_line line (sofar d) ts ≡ Ok (sofar d')) × (number_of d' ≡ number_of d)
LineRead d line ts (Err fault) d' = (later_line line (sofar d) ts ≡ Err fault) × (d' ≡ d)

-- and of all lines after the first: at a fault the lines before it may have been read
abbrev pub LinesRead : Draft → List (List ℕ) → Result (Unit {0}) LineFault → Draft → Type 0
LinesRead d lines (Ok u) d' = (later_lines 2 (sofar d) lines ≡ Ok (sofar d')) × (number_of d' ≡ number_of d)
LinesRead d lines (Err fault) d' = later_lines 2 (sofar d) lines ≡ Err fault

-- the bytes are a text, and these are its lines without the last line feed
abbrev pub BodyRead : List ℕ → Result (Bor (List ℕ)) LineFault → Type 0
BodyRead text (Ok lines) = (text_check text ≡ Ok tt) × (lines.now ≡ take (length text - 1) text)
BodyRead text (Err fault) = in_line (text_check text) ≡ Err fault

-- the process that the text describes, or its fault
abbrev pub DraftRead : List ℕ → Result Draft LineFault → Type 0
DraftRead text (Ok d) = process_read text ≡ Ok (process_of d)
DraftRead text (Err fault) = process_read text ≡ Err fault

-- the text is accepted exactly if it is the writing of a process
abbrev pub DraftWritten : List ℕ → Result Draft LineFault → Type 0
DraftWritten text (Ok d) = Describes text (process_of d)
DraftWritten text (Err fault) = DescribesNothing text

-- why a text is no model: a fault of the text or of a line, or else the first rule that its process breaks
abbrev pub Refused : List ℕ → ModelFault → Type 0
Refused text fault =
    ((f : LineFault) × (fault ≡ Line f) × (process_read text ≡ Err f))
    ⊎ ((p : Process) × (process_read text ≡ Ok p) × Unsound p.nodes p.flows fault)

-- the fault of a text, and no other
pub record TheFaultOf (text : List ℕ) (fault : ModelFault) : Type 0 where
  pub refused : Refused text fault
  pub only : (other : ModelFault) → Refused text other → other ≡ fault

-- the place holds the process that is read from the text, or the text is refused and the place is as it was
abbrev pub ModelFilled : List ℕ → Model → Result (Unit {0}) ModelFault → Model → Type 0
ModelFilled text old (Ok u) new = process_read text ≡ Ok (process_of (draft_of new))
ModelFilled text old (Err fault) new = Refused text fault × (new ≡ old)

-- the same by what the text describes
abbrev pub ModelRead : List ℕ → Model → Result (Unit {0}) ModelFault → Model → Type 0
ModelRead text old (Ok u) new = Describes text (process_of (draft_of new))
ModelRead text old (Err fault) new = TheFaultOf text fault × (new ≡ old)

-- the text is the writing of a sound process
abbrev pub Admitted : List ℕ → Type 0
Admitted text = (p : Process) × Describes text p × Sound p.nodes p.flows
