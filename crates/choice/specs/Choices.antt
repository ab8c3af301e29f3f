-- Which outgoing flows of a node get a token when it steps.
use Rattle.std.specs.Prelude.{◌≡◌, ℕ, ◌<◌, Bool, true, false, ◌⊎◌, List, ℤ, Decides}
use Rattle.process.specs.declared.flow.Flow.{Flow}
use Rattle.process.specs.declared.flow.Guard.TheVariants as guards
use Rattle.process.specs.declared.node.Kind.{Kind}
use Rattle.process.specs.declared.node.Kind.TheVariants as kinds
use Rattle.process.specs.declared.sets.FlowSet.{FlowSet}
use Rattle.process.specs.Sets.{has}
use Rattle.model.specs.Rules.{kind_at, flow_at, outgoing, chooses}
use Rattle.paths.specs.Paths.{Outgoing}
use Rattle.choice.specs.Conditions.{GuardHolds}

-- node n is an exclusive or inclusive gateway with two or more outgoing flows
abbrev pub choosing : List Kind → List Flow → ℕ → Bool
choosing nodes flows n = chooses (kind_at nodes n) (outgoing flows n)

-- flow f leaves node n, and its condition holds
abbrev pub Open : List Flow → List ℤ → ℕ → ℕ → Type 0
Open flows figures n f = Outgoing flows n f × GuardHolds figures (flow_at flows f).guard

-- no condition of a flow that leaves node n holds
abbrev pub NoneOpen : List Flow → List ℤ → ℕ → Type 0
NoneOpen flows figures n = (f : ℕ) → Open flows figures n f → ⊥

-- flow f is the first, by number, whose condition holds
abbrev pub FirstOpen : List Flow → List ℤ → ℕ → ℕ → Type 0
FirstOpen flows figures n f = Open flows figures n f × ((k : ℕ) → k < f → Open flows figures n k → ⊥)

-- flow f is the default of node n
abbrev pub IsDefault : List Flow → ℕ → ℕ → Type 0
IsDefault flows n f = Outgoing flows n f × ((flow_at flows f).guard ≡ guards.Default)

-- the default counts only where no condition holds
abbrev pub Fallback : List Flow → List ℤ → ℕ → ℕ → Type 0
Fallback flows figures n f = IsDefault flows n f × NoneOpen flows figures n

-- what a gateway that chooses puts a token on: an exclusive one on the first flow whose condition holds, an inclusive one on every such flow
abbrev pub Chosen : Kind → List Flow → List ℤ → ℕ → ℕ → Type 0
Chosen kinds.Start flows figures n f = ⊥
Chosen kinds.End flows figures n f = ⊥
Chosen (kinds.Task x) flows figures n f = ⊥
Chosen kinds.Exclusive flows figures n f = FirstOpen flows figures n f ⊎ Fallback flows figures n f
Chosen kinds.Parallel flows figures n f = ⊥
Chosen kinds.Inclusive flows figures n f = Open flows figures n f ⊎ Fallback flows figures n f

abbrev pub GetsBy : Bool → Kind → List Flow → List ℤ → ℕ → ℕ → Type 0
GetsBy true kind flows figures n f = Chosen kind flows figures n f
GetsBy false kind flows figures n f = Outgoing flows n f

-- Flow f gets a token when node n steps: a node that does not choose puts one on each outgoing flow, of which only a parallel gateway has several.
abbrev pub Gets : List Kind → List Flow → List ℤ → ℕ → ℕ → Type 0
Gets nodes flows figures n f = GetsBy (choosing nodes flows n) (kind_at nodes n) flows figures n f

-- the node has to choose, no condition holds and there is no default
pub record NoWayOn (nodes : List Kind) (flows : List Flow) (figures : List ℤ) (n : ℕ) : Type 0 where
  pub chooses_one : choosing nodes flows n ≡ true
  pub none_open : NoneOpen flows figures n
  pub no_default : (f : ℕ) → IsDefault flows n f → ⊥

-- the node can put tokens, and puts them on the flows of the set
pub record SomeWay (nodes : List Kind) (flows : List Flow) (figures : List ℤ) (n : ℕ) (put : FlowSet) : Type 0 where
  pub way : NoWayOn nodes flows figures n → ⊥
  pub gets : (f : ℕ) → Decides (has put f) (Gets nodes flows figures n f)
