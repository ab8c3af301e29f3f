-- What a run does: steps, one after another, and why it stops.
use Rattle.std.specs.Prelude.{◌≡◌, ℕ, ◌+◌, ◌<◌, true, false, List, length}
use Rattle.process.specs.Sets.{has}
use Rattle.service.specs.Waits.{Waits}
use Rattle.engine.specs.declared.counts.Begun.{Begun}
use Rattle.engine.specs.declared.line.Line.{Line}
use Rattle.engine.specs.declared.next.Turn.{Turn}
use Rattle.engine.specs.declared.run.Stop.{Stop}
use Rattle.engine.specs.declared.run.Stop.TheVariants as stops
use Rattle.engine.specs.Counts.{nodes_of, flows_of, tokens_of, figures_of, has_node, IsReady}
use Rattle.engine.specs.Lines.{Passes}
use Rattle.engine.specs.Steps.{Room, Unanswered, Clear, Went}

-- node n is one at which a step is not refused, but for want of a place in the journal
pub record CanGo (b : Begun) (waits : Waits) (n : ℕ) : Type 0 where
  pub passes : Passes (nodes_of b) (flows_of b) (tokens_of b) (figures_of b) n
  pub answered : Unanswered b waits n → ⊥

-- node n is the lowest that can go
pub record LowestToGo (b : Begun) (waits : Waits) (n : ℕ) : Type 0 where
  pub goes : CanGo b waits n
  pub lowest : (k : ℕ) → k < n → CanGo b waits k → ⊥

abbrev pub HasNoToken : Begun → Type 0
HasNoToken b = (f : ℕ) → has (tokens_of b) f ≡ false

abbrev pub SomeToken : Begun → Type 0
SomeToken b = (f : ℕ) × (has (tokens_of b) f ≡ true)

abbrev pub NoneReady : Begun → Type 0
NoneReady b = (n : ℕ) → has_node b n ≡ true → IsReady b n → ⊥

abbrev pub SomeReady : Begun → Type 0
SomeReady b = (n : ℕ) × (has_node b n ≡ true) × IsReady b n

abbrev pub NoneToGo : Begun → Waits → Type 0
NoneToGo b waits = (n : ℕ) → CanGo b waits n → ⊥

abbrev pub SomeToGo : Begun → Waits → Type 0
SomeToGo b waits = (n : ℕ) × CanGo b waits n

-- the turn is of the lowest node that can go, and nothing hinders what it moves
pub record Turns (b : Begun) (waits : Waits) (t : Turn) : Type 0 where
  pub lowest : LowestToGo b waits t.node
  pub clear : Clear b waits t.node t.movement

-- no node can go, since none is ready or since each that is ready is hindered
pub data Idle (b : Begun) (waits : Waits) : Stop → Type 0 where
  rests : NoneReady b → Idle b waits stops.Resting
  waits_on : SomeReady b → NoneToGo b waits → Idle b waits stops.Held

-- why a run stops after k steps of a budget: the first reason that applies
pub data Stops (b : Begun) (places : ℕ) (waits : Waits) (budget k : ℕ) : Stop → Type 0 where
  finished : HasNoToken b → Stops b places waits budget k stops.Finished
  resting : SomeToken b → NoneReady b → Stops b places waits budget k stops.Resting
  held : SomeToken b → SomeReady b → NoneToGo b waits → Stops b places waits budget k stops.Held
  spent : SomeToken b → SomeToGo b waits → k ≡ budget → Stops b places waits budget k stops.Spent
  full : SomeToken b → SomeToGo b waits → k < budget → (Room b places → ⊥) → Stops b places waits budget k stops.JournalFull

-- a run goes on with node n after k steps of a budget: no reason to stop applies, and n is the lowest node that can go
pub record GoesOn (b : Begun) (places : ℕ) (waits : Waits) (budget k n : ℕ) : Type 0 where
  pub token : SomeToken b
  pub lowest : LowestToGo b waits n
  pub budgeted : k < budget
  pub room : Room b places

-- the turn that a run makes next
pub record NextTurn (b : Begun) (places : ℕ) (waits : Waits) (budget k : ℕ) (t : Turn) : Type 0 where
  pub goes : GoesOn b places waits budget k t.node
  pub clear : Clear b waits t.node t.movement

-- k steps, one after another, each of the lowest node that can go, within the budget
pub data Runs (budget : ℕ) (b : Begun) (journal : List Line) (waits : Waits) : ℕ → Begun → List Line → Waits → Type 0 where
  still : Runs budget b journal waits 0 b journal waits
  again : {k n : ℕ} {l : Line} {b₁ b₂ : Begun} {journal₁ journal₂ : List Line} {waits₁ waits₂ : Waits} → Runs budget b journal waits k b₁ journal₁ waits₁ → GoesOn b₁ (length journal₁) waits₁ budget k n → Went b₁ journal₁ waits₁ n l b₂ journal₂ waits₂ → Runs budget b journal waits (k + 1) b₂ journal₂ waits₂

pub record Ran (b : Begun) (journal : List Line) (waits : Waits) (budget k : ℕ) (stop : Stop) (b' : Begun) (journal' : List Line) (waits' : Waits) : Type 0 where
  pub steps : Runs budget b journal waits k b' journal' waits'
  pub stops_for : Stops b' (length journal') waits' budget k stop
