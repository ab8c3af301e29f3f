-- The law over every history of a count, in the words of its subject: tokens, figures, journal lines, paths, answers.
use Rattle.std.specs.Prelude.{◌≡◌, ℕ, ◌+◌, ◌≤◌, Bool, true, false, cond, ◌||◌, List, [], ◌∷◌, ◌++◌, length, take, drop, ℤ, Ok, Err, Decides, Result, ◌==◌}
use Rattle.fault.specs.declared.count.CountFault.{CountFault}
use Rattle.process.specs.declared.flow.Flow.{Flow}
use Rattle.process.specs.declared.node.Kind.{Kind}
use Rattle.process.specs.declared.node.Kind.TheVariants as kinds
use Rattle.process.specs.declared.sets.FlowSet.{FlowSet}
use Rattle.process.specs.Processes.{is_node}
use Rattle.process.specs.Sets.{has, no_flows}
use Rattle.model.specs.Rules.{kind_at}
use Rattle.paths.specs.declared.reason.Reason.{Reason}
use Rattle.paths.specs.declared.routing.Routing.{Routing}
use Rattle.paths.specs.Paths.{PathRule, TokenInbound, HoldingNumber, Why}
use Rattle.service.specs.declared.answer.Answer.{Answer}
use Rattle.service.specs.Waits.{Waits}
use Rattle.engine.specs.declared.counts.SetUp.{SetUp}
use Rattle.engine.specs.declared.line.Line.{Line}
use Rattle.engine.specs.Counts.{model_of, nodes_in, flows_in, tokens_of, figures_of}
use Rattle.engine.specs.Lines.{Leaves}
use Rattle.engine.specs.SetUps.{new_figures, set_figure, LeavesStart}
use Rattle.history.specs.declared.call.Call.{Call}
use Rattle.history.specs.declared.call.Call.TheVariants as calls
use Rattle.history.specs.declared.call.Count.{Count}
use Rattle.history.specs.declared.call.Count.TheVariants.{Setting, Going}
use Rattle.history.specs.declared.call.Reply.{Reply}
use Rattle.history.specs.declared.call.Reply.TheVariants as replies
use Rattle.history.specs.Histories.{Moment, at, Performed, History}

-- ---- what stands before the first line

abbrev pub is_begin : Call → Bool
is_begin (calls.Set x c) = false
is_begin calls.Begin = true
is_begin (calls.Step n) = false
is_begin (calls.Run budget) = false
is_begin (calls.Figure x) = false
is_begin (calls.Ready n) = false
is_begin (calls.Holding n) = false
is_begin (calls.Why n) = false

-- what a call before the first `Begin` does to the figures
abbrev pub set_by : List ℤ → Call → List ℤ
set_by figures (calls.Set x c) = set_figure figures x c
set_by figures calls.Begin = figures
set_by figures (calls.Step n) = figures
set_by figures (calls.Run budget) = figures
set_by figures (calls.Figure x) = figures
set_by figures (calls.Ready n) = figures
set_by figures (calls.Holding n) = figures
set_by figures (calls.Why n) = figures

-- the figures that the calls before the first `Begin` leave
abbrev pub opening : List ℤ → List Call → List ℤ
opening figures [] = figures
opening figures (call ∷ more) = cond (is_begin call) figures (opening (set_by figures call) more)

abbrev pub begun_in : List Call → Bool
begun_in [] = false
begun_in (call ∷ more) = is_begin call || begun_in more

-- no token stands in a new count, and `Begin` puts one on the flow that leaves the start
abbrev pub Opened : List Kind → List Flow → List Call → FlowSet → Type 0
Opened nodes flows done tokens = (f : ℕ) → Decides (has tokens f) ((begun_in done ≡ true) × LeavesStart nodes flows f)

-- ---- the count, and its lines in the journal

abbrev pub going : Count → Bool
going (Setting s) = false
going (Going b) = true

abbrev pub tokens_in : Count → FlowSet
tokens_in (Setting s) = no_flows
tokens_in (Going b) = tokens_of b

abbrev pub figures_in : Count → List ℤ
figures_in (Setting s) = s.figures
figures_in (Going b) = figures_of b

-- how many lines the count has written: they stand at the front of the journal
abbrev pub written : Count → ℕ
written (Setting s) = 0
written (Going b) = b.written

abbrev pub lines : Count → List Line → List Line
lines count journal = take (written count) journal

-- how many steps a reply tells of
abbrev pub accepted : Result Line CountFault → ℕ
accepted (Ok l) = 1
accepted (Err fault) = 0

abbrev pub steps_of : Reply → ℕ
steps_of (replies.Set r) = 0
steps_of replies.Begun = 0
steps_of (replies.Stepped r) = accepted r
steps_of (replies.Ran outcome) = outcome.steps
steps_of (replies.Figure r) = 0
steps_of (replies.Ready r) = 0
steps_of (replies.Holding r) = 0
steps_of (replies.Why r list) = 0
steps_of replies.Untaken = 0

abbrev pub steps_told : List Reply → ℕ
steps_told [] = 0
steps_told (reply ∷ others) = steps_of reply + steps_told others

-- ---- (b) what the count tells of inclusive gateways

-- node n is an inclusive gateway of the model
abbrev pub Gateway : List Kind → ℕ → Type 0
Gateway nodes n = (is_node nodes n ≡ true) × (kind_at nodes n ≡ kinds.Inclusive)

-- Whatever a begun count with these tokens replies when it is asked about an inclusive gateway.
pub record Told (nodes : List Kind) (flows : List Flow) (tokens : FlowSet) (m : Moment) : Type 0 where
  -- it is told ready exactly when the path rule holds
  pub ready : (n : ℕ) (reply : Reply) (m' : Moment) → Gateway nodes n → Performed m (calls.Ready n) reply m' → (t : Bool) × (reply ≡ replies.Ready (Ok t)) × Decides t (PathRule flows tokens n)
  -- its holding number is exactly how many flows hold it back
  pub holding : (n : ℕ) (reply : Reply) (m' : Moment) → Gateway nodes n → Performed m (calls.Holding n) reply m' → (k : ℕ) × (reply ≡ replies.Holding (Ok k)) × HoldingNumber flows tokens n k
  -- where it is not ready and has an inbound token, the lowest flow that holds it back is told, with a path
  pub why : (n : ℕ) (reply : Reply) (m' : Moment) → Gateway nodes n → (PathRule flows tokens n → ⊥) → TokenInbound flows tokens n → Performed m (calls.Why n) reply m' → (w : Reason) × (list : List ℕ) × (reply ≡ replies.Why (Ok w) list) × Why flows tokens n w.holder w.end (take w.length list)

-- ---- (c) the answers

abbrev pub is_task : Kind → Bool
is_task kinds.Start = false
is_task kinds.End = false
is_task (kinds.Task x) = true
is_task kinds.Exclusive = false
is_task kinds.Parallel = false
is_task kinds.Inclusive = false

-- the answers in the lines of node n, in order
abbrev pub answers_in : ℕ → List Line → List Answer
answers_in n [] = []
answers_in n (l ∷ ls) = cond (l.node == n) (l.answer ∷ answers_in n ls) (answers_in n ls)

-- ---- the law after some calls of a new count of a model

pub record Laws (model : Routing) (journal₀ : List Line) (waits₀ : Waits) (done : List Call) (replied : List Reply) (count : Count) (journal : List Line) (waits : Waits) : Type 0 where
  pub stage : going count ≡ begun_in done
  -- the tokens before the first line, and the tokens and figures that the lines leave
  pub start : FlowSet
  pub tokens : FlowSet
  pub figures : List ℤ
  pub opened : Opened (nodes_in model) (flows_in model) done start
  -- (a) as many lines stand as steps were told; each line is allowed from what the lines before it left, the count holds what they all leave,
  -- and other places of the journal are as they were
  pub counted : written count ≡ steps_told replied
  pub leaves : Leaves (nodes_in model) (flows_in model) start (opening new_figures done) (lines count journal) tokens figures
  pub tokens_held : tokens_in count ≡ tokens
  pub figures_held : figures_in count ≡ figures
  pub fits : written count ≤ length journal
  pub long : length journal ≡ length journal₀
  pub rest_stands : drop (written count) journal ≡ drop (written count) journal₀
  -- (b) what is told of inclusive gateways is right for these tokens
  pub told : begun_in done ≡ true → Told (nodes_in model) (flows_in model) tokens (at count journal waits)
  -- (c) for each task the answers in its lines, then those still waiting, are those that waited at the start; other lists are untouched
  pub handed : (n : ℕ) → is_task (kind_at (nodes_in model) n) ≡ true → answers_in n (lines count journal) ++ waits n ≡ waits₀ n
  pub untouched : (n : ℕ) → is_task (kind_at (nodes_in model) n) ≡ false → waits n ≡ waits₀ n

abbrev pub LawsAt : Routing → List Line → Waits → List Call → List Reply → Moment → Type 0
LawsAt model journal₀ waits₀ done replied (at count journal waits) = Laws model journal₀ waits₀ done replied count journal waits

-- a new count of the model
pub record New (model : Routing) (instance : ℕ) (s : SetUp) : Type 0 where
  pub of_model : model_of s ≡ model
  pub numbered : s.instance ≡ instance
  pub zeroed : s.figures ≡ new_figures

-- The main theorem: the law holds after every call of every history of a new count, whatever the journal held and whatever waited.
abbrev pub LawsHold : Type 0
LawsHold = (model : Routing) (instance : ℕ) (s : SetUp) (journal₀ : List Line) (waits₀ : Waits) (done : List Call) (told : List Reply) (m : Moment) → New model instance s → History (at (Setting s) journal₀ waits₀) done told m → LawsAt model journal₀ waits₀ done told m

-- What is known once some calls of a new count were made: they are a history, and the law holds at its end and after each call on the way.
pub record Attended (model : Routing) (instance : ℕ) (journal : List Line) (waits : Waits) (done : List Call) (told : List Reply) (count' : Count) (journal' : List Line) (waits' : Waits) : Type 0 where
  pub new : SetUp
  pub is_new : New model instance new
  pub history : History (at (Setting new) journal waits) done told (at count' journal' waits')
  pub laws : Laws model journal waits done told count' journal' waits'
  pub always : (k : ℕ) → (m : Moment) × History (at (Setting new) journal waits) (take k done) (take k told) m × LawsAt model journal waits (take k done) (take k told) m × History m (drop k done) (drop k told) (at count' journal' waits')
