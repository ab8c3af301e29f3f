-- What a list of calls does: a relation over whole histories.
use Rattle.std.specs.Prelude.{◌≡◌, ℕ, Bool, List, [], ◌∷◌, replicate, ℤ, Result}
use Rattle.fault.specs.declared.count.CountFault.{CountFault}
use Rattle.paths.specs.declared.reason.Reason.{Reason}
use Rattle.service.specs.Waits.{Waits}
use Rattle.engine.specs.declared.counts.SetUp.{SetUp}
use Rattle.engine.specs.declared.counts.Begun.{Begun}
use Rattle.engine.specs.declared.line.Line.{Line}
use Rattle.engine.specs.declared.run.Outcome.{Outcome}
use Rattle.engine.specs.Questions.{figure_told, ReadyTold, HoldingTold, WhyTold}
use Rattle.engine.specs.Runs.{Ran}
use Rattle.engine.specs.SetUps.{SetTo, Begins}
use Rattle.engine.specs.Steps.{Stepped}
use Rattle.history.specs.declared.call.Call.{Call}
use Rattle.history.specs.declared.call.Call.TheVariants as calls
use Rattle.history.specs.declared.call.Count.{Count}
use Rattle.history.specs.declared.call.Count.TheVariants.{Setting, Going}
use Rattle.history.specs.declared.call.Reply.{Reply}
use Rattle.history.specs.declared.call.Reply.TheVariants as replies

-- what stands between two calls: the count, what the journal holds, and the answers that wait in the service
pub data Moment : Type 0 where
  at : Count → List Line → Waits → Moment

-- the state of the count has no such call
abbrev pub NotTaken : Count → Call → Type 0
NotTaken (Setting s) (calls.Set x c) = ⊥
NotTaken (Setting s) calls.Begin = ⊥
NotTaken (Setting s) (calls.Step n) = Unit {0}
NotTaken (Setting s) (calls.Run budget) = Unit {0}
NotTaken (Setting s) (calls.Figure x) = Unit {0}
NotTaken (Setting s) (calls.Ready n) = Unit {0}
NotTaken (Setting s) (calls.Holding n) = Unit {0}
NotTaken (Setting s) (calls.Why n) = Unit {0}
NotTaken (Going b) (calls.Set x c) = Unit {0}
NotTaken (Going b) calls.Begin = Unit {0}
NotTaken (Going b) (calls.Step n) = ⊥
NotTaken (Going b) (calls.Run budget) = ⊥
NotTaken (Going b) (calls.Figure x) = ⊥
NotTaken (Going b) (calls.Ready n) = ⊥
NotTaken (Going b) (calls.Holding n) = ⊥
NotTaken (Going b) (calls.Why n) = ⊥

-- what a list of 64 places holds before a path is written into it
abbrev pub empty_list : List ℕ
empty_list = replicate 64 0

-- one call, gone through or refused as its own promise says
pub data Performed : Moment → Call → Reply → Moment → Type 0 where
  sets : {s s' : SetUp} {journal : List Line} {waits : Waits} {x : ℕ} {c : ℤ} {r : Result (Unit {0}) CountFault} → SetTo s x c r s' → Performed (at (Setting s) journal waits) (calls.Set x c) (replies.Set r) (at (Setting s') journal waits)
  begins : {s : SetUp} {b : Begun} {journal : List Line} {waits : Waits} → Begins s b → Performed (at (Setting s) journal waits) calls.Begin replies.Begun (at (Going b) journal waits)
  steps : {b b' : Begun} {journal journal' : List Line} {waits waits' : Waits} {n : ℕ} {r : Result Line CountFault} → Stepped b journal waits n r b' journal' waits' → Performed (at (Going b) journal waits) (calls.Step n) (replies.Stepped r) (at (Going b') journal' waits')
  runs : {b b' : Begun} {journal journal' : List Line} {waits waits' : Waits} {budget : ℕ} {outcome : Outcome} → Ran b journal waits budget outcome.steps outcome.stop b' journal' waits' → Performed (at (Going b) journal waits) (calls.Run budget) (replies.Ran outcome) (at (Going b') journal' waits')
  tells_figure : {b : Begun} {journal : List Line} {waits : Waits} {x : ℕ} {r : Result ℤ CountFault} → r ≡ figure_told b x → Performed (at (Going b) journal waits) (calls.Figure x) (replies.Figure r) (at (Going b) journal waits)
  tells_ready : {b : Begun} {journal : List Line} {waits : Waits} {n : ℕ} {r : Result Bool CountFault} → ReadyTold b n r → Performed (at (Going b) journal waits) (calls.Ready n) (replies.Ready r) (at (Going b) journal waits)
  tells_holding : {b : Begun} {journal : List Line} {waits : Waits} {n : ℕ} {r : Result ℕ CountFault} → HoldingTold b n r → Performed (at (Going b) journal waits) (calls.Holding n) (replies.Holding r) (at (Going b) journal waits)
  tells_why : {b : Begun} {journal : List Line} {waits : Waits} {n : ℕ} {r : Result Reason CountFault} {list : List ℕ} → WhyTold b n empty_list r list → Performed (at (Going b) journal waits) (calls.Why n) (replies.Why r list) (at (Going b) journal waits)
  passes_over : {count : Count} {journal : List Line} {waits : Waits} {call : Call} → NotTaken count call → Performed (at count journal waits) call replies.Untaken (at count journal waits)

-- one call after another
pub data History : Moment → List Call → List Reply → Moment → Type 0 where
  ends : {m : Moment} → History m [] [] m
  then : {m m₁ m₂ : Moment} {call : Call} {more : List Call} {reply : Reply} {others : List Reply} → Performed m call reply m₁ → History m₁ more others m₂ → History m (call ∷ more) (reply ∷ others) m₂
