-- When a node is ready, and which tokens it takes.
use Rattle.std.specs.Prelude.{◌≡◌, ℕ, ◌<◌, true, List}
use Rattle.process.specs.declared.flow.Flow.{Flow}
use Rattle.process.specs.declared.node.Kind.{Kind}
use Rattle.process.specs.declared.node.Kind.TheVariants as kinds
use Rattle.process.specs.declared.sets.FlowSet.{FlowSet}
use Rattle.process.specs.Sets.{has}
use Rattle.model.specs.Rules.{kind_at}
use Rattle.paths.specs.Paths.{Inbound, TokenInbound, PathRule}

-- The start is never ready. A task, an end and an exclusive gateway are ready when some inbound flow has a token (a task and an end have one inbound flow),
-- a parallel gateway when every inbound flow has one, and an inclusive gateway when the path rule holds.
abbrev pub ReadyAs : Kind → List Flow → FlowSet → ℕ → Type 0
ReadyAs kinds.Start flows tokens n = ⊥
ReadyAs kinds.End flows tokens n = TokenInbound flows tokens n
ReadyAs (kinds.Task x) flows tokens n = TokenInbound flows tokens n
ReadyAs kinds.Exclusive flows tokens n = TokenInbound flows tokens n
ReadyAs kinds.Parallel flows tokens n = (e : ℕ) → Inbound flows n e → has tokens e ≡ true
ReadyAs kinds.Inclusive flows tokens n = PathRule flows tokens n

abbrev pub Ready : List Kind → List Flow → FlowSet → ℕ → Type 0
Ready nodes flows tokens n = ReadyAs (kind_at nodes n) flows tokens n

-- the inbound flow f of node n carries a token
abbrev pub ComesIn : List Flow → FlowSet → ℕ → ℕ → Type 0
ComesIn flows tokens n f = Inbound flows n f × (has tokens f ≡ true)

-- An exclusive gateway takes the lowest-numbered inbound token, every other node each inbound token.
abbrev pub TakesAs : Kind → List Flow → FlowSet → ℕ → ℕ → Type 0
TakesAs kinds.Start flows tokens n f = ComesIn flows tokens n f
TakesAs kinds.End flows tokens n f = ComesIn flows tokens n f
TakesAs (kinds.Task x) flows tokens n f = ComesIn flows tokens n f
TakesAs kinds.Exclusive flows tokens n f = ComesIn flows tokens n f × ((e : ℕ) → e < f → ComesIn flows tokens n e → ⊥)
TakesAs kinds.Parallel flows tokens n f = ComesIn flows tokens n f
TakesAs kinds.Inclusive flows tokens n f = ComesIn flows tokens n f

-- node n takes the token of flow f when it steps
abbrev pub Takes : List Kind → List Flow → FlowSet → ℕ → ℕ → Type 0
Takes nodes flows tokens n f = TakesAs (kind_at nodes n) flows tokens n f
