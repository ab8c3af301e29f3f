-- How far a flow is from another along paths that avoid a gateway, by sets of flows. It is a step of the proof of `why`, whose promise does not cite it.
use Rattle.std.specs.Prelude.{◌≡◌, ℕ, zero, suc, ◌<◌, Bool, true, false, not, List, length}
use Rattle.process.specs.declared.flow.Flow.{Flow}
use Rattle.process.specs.declared.sets.FlowSet.{FlowSet}
use Rattle.process.specs.Sets.{has, just, joined, shared, is_none}
use Rattle.paths.specs.Links.{chosen, leaders}
use Rattle.paths.specs.Tables.{at_place}

-- flow n may come right after some flow of s
unfoldable pub comes_after : List Flow → ℕ → FlowSet → ℕ → Bool
comes_after flows g s n = not (is_none (shared (leaders flows g n) s))

-- s with the flows that may come right after one of it
unfoldable pub grown : List Flow → ℕ → FlowSet → FlowSet
grown flows g s = joined s (chosen (comes_after flows g s) (length flows))

-- the flows that f reaches by paths of at most k + 1 flows that avoid g
unfoldable pub level : List Flow → ℕ → ℕ → ℕ → FlowSet
level flows g f zero = just f
level flows g f (suc k) = let s : FlowSet = level flows g f k in grown flows g s

-- The sets are the levels around f, from the first to the one before the first that has e.
pub record LevelsBelow (flows : List Flow) (g f e : ℕ) (sets : List FlowSet) : Type 0 where
  pub few : length sets < 64
  pub each : (k : ℕ) → k < length sets → at_place sets k ≡ level flows g f k
  pub found : has (level flows g f (length sets)) e ≡ true
  pub first : (k : ℕ) → k < length sets → has (level flows g f k) e ≡ false
