-- What the calls of a count that is set up do.
use Rattle.std.specs.Prelude.{◌≡◌, ℕ, ◌-◌, true, cond, not, ◌&&◌, List, replicate, ℤ, pos, Ok, Err, Decides, Result, slice_set}
use Rattle.fault.specs.declared.count.CountFault.{CountFault}
use Rattle.fault.specs.declared.count.CountFault.TheVariants.{FigureNumber, Value}
use Rattle.process.specs.declared.flow.Flow.{Flow}
use Rattle.process.specs.declared.node.Kind.{Kind}
use Rattle.process.specs.Processes.{is_figure, is_value}
use Rattle.process.specs.Sets.{has}
use Rattle.model.specs.Rules.{kind_at, is_start}
use Rattle.paths.specs.Paths.{IsFlow, source}
use Rattle.engine.specs.declared.counts.SetUp.{SetUp}
use Rattle.engine.specs.declared.counts.Begun.{Begun}
use Rattle.engine.specs.Counts.{model_of, nodes_in, flows_in, tokens_of}

-- all figures of a new count
abbrev pub new_figures : List ℤ
new_figures = replicate 16 (pos 0)

-- figure x becomes c; a number or a value out of its range changes nothing
abbrev pub set_figure : List ℤ → ℕ → ℤ → List ℤ
set_figure figures x c = cond (is_figure x && is_value c) (slice_set figures (x - 1) c) figures

-- the number of the figure is checked first, then the value
abbrev pub set_verdict : ℕ → ℕ → ℤ → Result (Unit {0}) CountFault
set_verdict instance x c = cond (not (is_figure x)) (Err (FigureNumber x instance)) (cond (not (is_value c)) (Err (Value instance)) (Ok tt))

pub record SetTo (s : SetUp) (x : ℕ) (c : ℤ) (r : Result (Unit {0}) CountFault) (s' : SetUp) : Type 0 where
  pub reply : r ≡ set_verdict s.instance x c
  pub figures : s'.figures ≡ set_figure s.figures x c
  pub routing : s'.routing ≡ s.routing
  pub instance : s'.instance ≡ s.instance

-- flow f leaves the start
abbrev pub LeavesStart : List Kind → List Flow → ℕ → Type 0
LeavesStart nodes flows f = IsFlow flows f × (is_start (kind_at nodes (source flows f)) ≡ true)

-- a token stands on the start's outgoing flow, and nothing else changes
pub record Begins (s : SetUp) (b : Begun) : Type 0 where
  pub tokens : (f : ℕ) → Decides (has (tokens_of b) f) (LeavesStart (nodes_in (model_of s)) (flows_in (model_of s)) f)
  pub figures : b.figures ≡ s.figures
  pub written : b.written ≡ 0
  pub routing : b.marking.routing ≡ s.routing
  pub instance : b.instance ≡ s.instance
