-- Which journal lines BPMN allows from given tokens and figures, and what a line leaves.
use Rattle.std.specs.Prelude.{◌≡◌, ℕ, ◌-◌, true, List, [], ◌∷◌, ℤ, pos, Decides, slice_set}
use Rattle.process.specs.declared.flow.Flow.{Flow}
use Rattle.process.specs.declared.node.Kind.{Kind}
use Rattle.process.specs.declared.node.Kind.TheVariants as kinds
use Rattle.process.specs.declared.sets.FlowSet.{FlowSet}
use Rattle.process.specs.Processes.{is_node}
use Rattle.process.specs.Sets.{has, joined, without}
use Rattle.model.specs.Rules.{kind_at}
use Rattle.choice.specs.Choices.{Gets, NoWayOn}
use Rattle.marking.specs.Nodes.{Ready, Takes}
use Rattle.service.specs.declared.answer.Answer.{Answer}
use Rattle.service.specs.Answers.{answer, in_range}
use Rattle.engine.specs.declared.line.Line.{Line}

-- what stands in a line whose node is no task
abbrev pub no_answer : Answer
no_answer = answer (pos 0)

-- a task's answer is one that a service may give, and any other node has none
abbrev pub AnswerFits : Kind → Answer → Type 0
AnswerFits kinds.Start a = a ≡ no_answer
AnswerFits kinds.End a = a ≡ no_answer
AnswerFits (kinds.Task x) a = in_range a ≡ true
AnswerFits kinds.Exclusive a = a ≡ no_answer
AnswerFits kinds.Parallel a = a ≡ no_answer
AnswerFits kinds.Inclusive a = a ≡ no_answer

-- a task's figure becomes the answer, and no other node changes a figure
abbrev pub figures_after : Kind → List ℤ → Answer → List ℤ
figures_after kinds.Start figures a = figures
figures_after kinds.End figures a = figures
figures_after (kinds.Task x) figures a = slice_set figures (x - 1) a.value
figures_after kinds.Exclusive figures a = figures
figures_after kinds.Parallel figures a = figures
figures_after kinds.Inclusive figures a = figures

-- the flow f is to be put on when node n steps, and still carries a token after the taking
pub record Occupied (nodes : List Kind) (flows : List Flow) (tokens : FlowSet) (figures : List ℤ) (n f : ℕ) : Type 0 where
  pub gets : Gets nodes flows figures n f
  pub carries : has tokens f ≡ true
  pub stays : Takes nodes flows tokens n f → ⊥

-- node n can step, as far as tokens and figures tell
pub record Passes (nodes : List Kind) (flows : List Flow) (tokens : FlowSet) (figures : List ℤ) (n : ℕ) : Type 0 where
  pub node : is_node nodes n ≡ true
  pub ready : Ready nodes flows tokens n
  pub way : NoWayOn nodes flows figures n → ⊥
  pub clear : (f : ℕ) → Occupied nodes flows tokens figures n f → ⊥

-- the set has the flows whose tokens node n takes; the set has the flows that it puts tokens on
abbrev pub TakenSet : List Kind → List Flow → FlowSet → ℕ → FlowSet → Type 0
TakenSet nodes flows tokens n s = (f : ℕ) → Decides (has s f) (Takes nodes flows tokens n f)

abbrev pub PutSet : List Kind → List Flow → List ℤ → ℕ → FlowSet → Type 0
PutSet nodes flows figures n s = (f : ℕ) → Decides (has s f) (Gets nodes flows figures n f)

-- BPMN allows the line from these tokens and figures, and it leaves those
pub record Allowed (nodes : List Kind) (flows : List Flow) (tokens : FlowSet) (figures : List ℤ) (l : Line) (tokens' : FlowSet) (figures' : List ℤ) : Type 0 where
  pub passes : Passes nodes flows tokens figures l.node
  pub takes : TakenSet nodes flows tokens l.node l.taken
  pub puts : PutSet nodes flows figures l.node l.put
  pub answers : AnswerFits (kind_at nodes l.node) l.answer
  pub tokens_left : tokens' ≡ joined (without tokens l.taken) l.put
  pub figures_left : figures' ≡ figures_after (kind_at nodes l.node) figures l.answer

-- what a journal leaves: each line is allowed from what the lines before it left
pub data Leaves (nodes : List Kind) (flows : List Flow) : FlowSet → List ℤ → List Line → FlowSet → List ℤ → Type 0 where
  nothing : {tokens : FlowSet} {figures : List ℤ} → Leaves nodes flows tokens figures [] tokens figures
  line : {tokens tokens₁ tokens₂ : FlowSet} {figures figures₁ figures₂ : List ℤ} {l : Line} {ls : List Line} → Allowed nodes flows tokens figures l tokens₁ figures₁ → Leaves nodes flows tokens₁ figures₁ ls tokens₂ figures₂ → Leaves nodes flows tokens figures (l ∷ ls) tokens₂ figures₂
