-- What can be reached in a graph, and what a search answers. A graph is a function from a place to the list of the places next to it.
use Rattle.std.specs.Prelude.{◌≡◌, ℕ, ◌+◌, ◌≤◌, ◌⊎◌, List, [], ◌∷◌, length, take, drop}

-- The place stands in the list.
abbrev pub Holds : {P : Type 0} → List P → P → Type 0
Holds [] p = ⊥
Holds (q ∷ qs) p = (q ≡ p) ⊎ Holds qs p

-- No place stands twice in the list.
abbrev pub Distinct : {P : Type 0} → List P → Type 0
Distinct [] = Unit {0}
Distinct (p ∷ ps) = (Holds ps p → ⊥) × Distinct ps

-- A place can be reached if it is one of the places to start from, or next to a place that can be reached.
pub data Reached {P : Type 0} (next : P → List P) (from : List P) : P → Type 0 where
  start : {p : P} → Holds from p → Reached next from p
  step : {p q : P} → Reached next from p → Holds (next p) q → Reached next from q

-- The list has each place that can be reached, once, and no other.
pub record AllReached {P : Type 0} (next : P → List P) (from : List P) (places : List P) : Type 0 where
  pub distinct : Distinct places
  pub sound : (p : P) → Holds places p → Reached next from p
  pub complete : (p : P) → Reached next from p → Holds places p

-- More than `limit` places can be reached: there is a list of one more than that, all different.
pub record MoreThan {P : Type 0} (next : P → List P) (from : List P) (limit : ℕ) : Type 0 where
  pub places : List P
  pub number : length places ≡ limit + 1
  pub distinct : Distinct places
  pub sound : (p : P) → Holds places p → Reached next from p

-- A search that is not refused: no more than `limit` places can be reached, the list `after` it begins with all of them,
-- `number` in all, and the list behind them is as `before`.
pub record Found {P : Type 0} (next : P → List P) (from : List P) (limit : ℕ) (before after : List P) (number : ℕ) : Type 0 where
  pub within : number ≤ limit
  pub reached : AllReached next from (take number after)
  pub rest : drop number after ≡ drop number before
  pub enough : MoreThan next from limit → ⊥
