-- What a step does to a count, the journal and the answers that wait, and when it is refused.
use Rattle.std.specs.Prelude.{◌≡◌, ℕ, ◌+◌, ◌<◌, true, false, List, [], length, Ok, Err, Result, slice_set}
use Rattle.fault.specs.declared.count.CountFault.{CountFault}
use Rattle.fault.specs.declared.count.CountFault.TheVariants as faults
use Rattle.fault.specs.declared.service.ServiceFault.TheVariants as services
use Rattle.process.specs.declared.node.Kind.{Kind}
use Rattle.process.specs.declared.node.Kind.TheVariants as kinds
use Rattle.choice.specs.Choices.{NoWayOn}
use Rattle.service.specs.declared.answer.Answer.{Answer}
use Rattle.service.specs.Waits.{Waits, oldest, taken}
use Rattle.engine.specs.declared.counts.Begun.{Begun}
use Rattle.engine.specs.declared.line.Line.{Line}
use Rattle.engine.specs.declared.movement.Movement.{Movement}
use Rattle.engine.specs.Counts.{nodes_of, flows_of, tokens_of, figures_of, has_node, kind_of, IsReady}
use Rattle.engine.specs.Lines.{no_answer, AnswerFits, figures_after, Occupied, TakenSet, PutSet, Allowed}

-- the journal has a next place, and fewer than 65,535 lines stand
pub record Room (b : Begun) (places : ℕ) : Type 0 where
  pub place : b.written < places
  pub counted : b.written < 65535

-- the node is a task, and no answer waits for it
abbrev pub UnansweredAs : Kind → List Answer → Type 0
UnansweredAs kinds.Start answers = ⊥
UnansweredAs kinds.End answers = ⊥
UnansweredAs (kinds.Task x) answers = answers ≡ []
UnansweredAs kinds.Exclusive answers = ⊥
UnansweredAs kinds.Parallel answers = ⊥
UnansweredAs kinds.Inclusive answers = ⊥

abbrev pub Unanswered : Begun → Waits → ℕ → Type 0
Unanswered b waits n = UnansweredAs (kind_of b n) (waits n)

abbrev pub HasNoWay : Begun → ℕ → Type 0
HasNoWay b n = NoWayOn (nodes_of b) (flows_of b) (figures_of b) n

abbrev pub IsOccupied : Begun → ℕ → ℕ → Type 0
IsOccupied b n f = Occupied (nodes_of b) (flows_of b) (tokens_of b) (figures_of b) n f

-- what stops a node that is ready: no answer, then no way, then the lowest flow that is still occupied
pub data Hinders (b : Begun) (waits : Waits) (n : ℕ) : CountFault → Type 0 where
  unanswered : Unanswered b waits n → Hinders b waits n (faults.Service (services.NoAnswer n) b.instance)
  no_way : (Unanswered b waits n → ⊥) → HasNoWay b n → Hinders b waits n (faults.NoWay n b.instance)
  occupied : {f : ℕ} → (Unanswered b waits n → ⊥) → (HasNoWay b n → ⊥) → IsOccupied b n f → ((k : ℕ) → k < f → IsOccupied b n k → ⊥) → Hinders b waits n (faults.Occupied f b.instance)

-- nothing hinders node n, and its step takes and puts these sets
pub record Clear (b : Begun) (waits : Waits) (n : ℕ) (m : Movement) : Type 0 where
  pub answered : Unanswered b waits n → ⊥
  pub way : HasNoWay b n → ⊥
  pub free : (f : ℕ) → IsOccupied b n f → ⊥
  pub takes : TakenSet (nodes_of b) (flows_of b) (tokens_of b) n m.taken
  pub puts : PutSet (nodes_of b) (flows_of b) (figures_of b) n m.put

-- why a step is refused: the first reason that applies
pub data Refuses (b : Begun) (places : ℕ) (waits : Waits) (n : ℕ) : CountFault → Type 0 where
  no_node : has_node b n ≡ false → Refuses b places waits n (faults.NodeNumber n b.instance)
  not_ready : has_node b n ≡ true → (IsReady b n → ⊥) → Refuses b places waits n (faults.NotReady n b.instance)
  no_room : has_node b n ≡ true → IsReady b n → (Room b places → ⊥) → Refuses b places waits n (faults.JournalFull n b.instance)
  hindered : {fault : CountFault} → has_node b n ≡ true → IsReady b n → Room b places → Hinders b waits n fault → Refuses b places waits n fault

-- A task takes the oldest answer that waits for it. Any other node takes none.
abbrev pub Answered : Kind → Waits → ℕ → Answer → Waits → Type 0
Answered kinds.Start waits n a waits' = (a ≡ no_answer) × (waits' ≡ waits)
Answered kinds.End waits n a waits' = (a ≡ no_answer) × (waits' ≡ waits)
Answered (kinds.Task x) waits n a waits' = (oldest (waits n) n ≡ Ok a) × (waits' ≡ taken waits n)
Answered kinds.Exclusive waits n a waits' = (a ≡ no_answer) × (waits' ≡ waits)
Answered kinds.Parallel waits n a waits' = (a ≡ no_answer) × (waits' ≡ waits)
Answered kinds.Inclusive waits n a waits' = (a ≡ no_answer) × (waits' ≡ waits)

-- node n takes its answer, and only the figure of a task changes
pub record TakesAnswer (b : Begun) (waits : Waits) (n : ℕ) (a : Answer) (b' : Begun) (waits' : Waits) : Type 0 where
  pub answered : Answered (kind_of b n) waits n a waits'
  pub fits : AnswerFits (kind_of b n) a
  pub figures : figures_of b' ≡ figures_after (kind_of b n) (figures_of b) a
  pub marking : b'.marking ≡ b.marking
  pub written : b'.written ≡ b.written
  pub instance : b'.instance ≡ b.instance

-- a step that goes through: the line is allowed and stands at the journal's next place, and the count holds what it leaves
pub record Went (b : Begun) (journal : List Line) (waits : Waits) (n : ℕ) (l : Line) (b' : Begun) (journal' : List Line) (waits' : Waits) : Type 0 where
  pub node : l.node ≡ n
  pub allowed : Allowed (nodes_of b) (flows_of b) (tokens_of b) (figures_of b) l (tokens_of b') (figures_of b')
  pub room : Room b (length journal)
  pub answered : Answered (kind_of b n) waits n l.answer waits'
  pub journal_is : journal' ≡ slice_set journal b.written l
  pub written : b'.written ≡ b.written + 1
  pub routing : b'.marking.routing ≡ b.marking.routing
  pub instance : b'.instance ≡ b.instance

-- nothing has changed
pub record Same (b : Begun) (journal : List Line) (waits : Waits) (b' : Begun) (journal' : List Line) (waits' : Waits) : Type 0 where
  pub count : b' ≡ b
  pub journal_is : journal' ≡ journal
  pub waits_are : waits' ≡ waits

pub record Refused (b : Begun) (journal : List Line) (waits : Waits) (n : ℕ) (fault : CountFault) (b' : Begun) (journal' : List Line) (waits' : Waits) : Type 0 where
  pub because : Refuses b (length journal) waits n fault
  pub same : Same b journal waits b' journal' waits'

abbrev pub Stepped : Begun → List Line → Waits → ℕ → Result Line CountFault → Begun → List Line → Waits → Type 0
Stepped b journal waits n (Ok l) b' journal' waits' = Went b journal waits n l b' journal' waits'
Stepped b journal waits n (Err fault) b' journal' waits' = Refused b journal waits n fault b' journal' waits'
