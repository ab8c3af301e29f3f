-- What a sound model is, and with which fault an unsound one is refused.
use Rattle.std.specs.Prelude.{◌≡◌, ℕ, suc, ◌<◌, ◌≤◌, Bool, true, false, cond, ◌||◌, ◌⊎◌, List, [], ◌∷◌, length, Ok, Err, Result, ◌==◌}
use Rattle.fault.specs.declared.model.ModelFault.{ModelFault}
use Rattle.fault.specs.declared.model.ModelFault.TheVariants.{NotReached}
use Rattle.graph.specs.Reach.{Reached}
use Rattle.process.specs.declared.flow.Flow.{Flow}
use Rattle.process.specs.declared.node.Kind.{Kind}
use Rattle.model.specs.Rules.{how_many, is_start, is_end, count_rule, loop_rule, guard_rule, default_rule, rules_check}

-- the nodes that the flows which leave node n enter
abbrev pub successors : List Flow → ℕ → List ℕ
successors [] n = []
successors (f ∷ fs) n = cond (f.from == n) (f.to ∷ successors fs n) (successors fs n)

-- the number of the start
abbrev pub start_of : List Kind → ℕ
start_of [] = 1
start_of (k ∷ ks) = cond (is_start k) 1 (suc (start_of ks))

-- a chain of flows leads from the start to node n
abbrev pub CanBeReached : List Kind → List Flow → ℕ → Type 0
CanBeReached nodes flows n = Reached (successors flows) (start_of nodes ∷ []) n

-- every model that can exist keeps these rules
pub record Sound (nodes : List Kind) (flows : List Flow) : Type 0 where
  pub one_start : how_many is_start nodes ≡ 1
  pub some_end : 1 ≤ how_many is_end nodes
  pub counts : (n : ℕ) → 1 ≤ n → n ≤ length nodes → count_rule nodes flows n ≡ true
  pub loops : (n : ℕ) → 1 ≤ n → n ≤ length flows → loop_rule flows n ≡ true
  pub guards : (n : ℕ) → 1 ≤ n → n ≤ length flows → guard_rule nodes flows n ≡ true
  pub defaults : (n : ℕ) → 1 ≤ n → n ≤ length flows → default_rule flows n ≡ true
  pub reached : (n : ℕ) → 1 ≤ n → n ≤ length nodes → CanBeReached nodes flows n

-- n is the lowest node that cannot be reached
pub record FirstUnreached (nodes : List Kind) (flows : List Flow) (n : ℕ) : Type 0 where
  pub low : 1 ≤ n
  pub high : n ≤ length nodes
  pub missed : CanBeReached nodes flows n → ⊥
  pub lower : (k : ℕ) → 1 ≤ k → k < n → CanBeReached nodes flows k

-- each node can be reached, or the lowest that cannot is the fault
abbrev pub ReachedVerdict : List Kind → List Flow → Result (Unit {0}) ModelFault → Type 0
ReachedVerdict nodes flows (Ok u) = (n : ℕ) → 1 ≤ n → n ≤ length nodes → CanBeReached nodes flows n
ReachedVerdict nodes flows (Err fault) = (n : ℕ) × (fault ≡ NotReached n) × FirstUnreached nodes flows n

-- the fault of a process: the first of the other rules that is broken, or else the lowest node that cannot be reached
abbrev pub Unsound : List Kind → List Flow → ModelFault → Type 0
Unsound nodes flows fault = (rules_check nodes flows ≡ Err fault) ⊎ ((rules_check nodes flows ≡ Ok tt) × ReachedVerdict nodes flows (Err fault))

-- the fault, and no other
pub record TheFault (nodes : List Kind) (flows : List Flow) (fault : ModelFault) : Type 0 where
  pub broken : Unsound nodes flows fault
  pub only : (other : ModelFault) → Unsound nodes flows other → other ≡ fault

abbrev pub member : List ℕ → ℕ → Bool
member [] n = false
member (x ∷ xs) n = x == n || member xs n
