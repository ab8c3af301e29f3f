-- The tables of a model, which depend on its flows alone.
use Rattle.std.specs.Prelude.{◌≡◌, ℕ, zero, suc, ◌≤◌, true, List, Decides, slice_index_or}
use Rattle.process.specs.declared.flow.Flow.{Flow}
use Rattle.process.specs.declared.sets.FlowSet.{FlowSet}
use Rattle.process.specs.Sets.{has}
use Rattle.paths.specs.Paths.{target, IsFlow, Reaches}
use Rattle.paths.specs.Links.{entering, leaving}

-- the set at a place of a table
abbrev pub at_place : List FlowSet → ℕ → FlowSet
at_place table i = slice_index_or table i (record { bits = 0 })

-- the set of flow n, or of node n, which stands at place n - 1
abbrev pub row : List FlowSet → ℕ → FlowSet
row table zero = record { bits = 0 }
row table (suc k) = at_place table k

-- The set of each flow e has the flows from which some path ends in e that avoids the node that e enters.
abbrev pub Sources : List Flow → List FlowSet → Type 0
Sources flows table = (e f : ℕ) → IsFlow flows e → Decides (has (row table e) f) (Reaches flows (target flows e) f e)

-- The set of each number is what `links` gives.
abbrev pub ByNode : (ℕ → FlowSet) → List FlowSet → Type 0
ByNode links table = (n : ℕ) → row table n ≡ links n

-- All tables are right for the flows.
pub record Tables (flows : List Flow) (sources inbound outgoing : List FlowSet) : Type 0 where
  pub reach : Sources flows sources
  pub enter : ByNode (entering flows) inbound
  pub leave : ByNode (leaving flows) outgoing

-- The set of some flow of `ends` up to n has f.
abbrev pub LeadsTo : List FlowSet → FlowSet → ℕ → ℕ → Type 0
LeadsTo table ends n f = (e : ℕ) × (1 ≤ e) × (e ≤ n) × (has ends e ≡ true) × (has (row table e) f ≡ true)
