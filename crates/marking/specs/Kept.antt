-- The holding numbers that are kept beside the tokens.
use Rattle.std.specs.Prelude.{◌≡◌, ℕ, zero, suc, List, slice_index}
use Rattle.process.specs.declared.flow.Flow.{Flow}
use Rattle.process.specs.declared.node.Kind.{Kind}
use Rattle.process.specs.declared.node.Kind.TheVariants as kinds
use Rattle.process.specs.declared.sets.FlowSet.{FlowSet}
use Rattle.model.specs.Rules.{kind_at}
use Rattle.paths.specs.Paths.{HoldingNumber}

-- the number of node n stands at place n - 1
abbrev pub number_at : List ℕ → ℕ → ℕ
number_at numbers zero = 0
number_at numbers (suc k) = slice_index numbers k

-- exactly r flows hold the inclusive gateway n back; of any other node nothing is counted
abbrev pub CountedAs : Kind → List Flow → FlowSet → ℕ → ℕ → Type 0
CountedAs kinds.Start flows tokens n r = r ≡ 0
CountedAs kinds.End flows tokens n r = r ≡ 0
CountedAs (kinds.Task x) flows tokens n r = r ≡ 0
CountedAs kinds.Exclusive flows tokens n r = r ≡ 0
CountedAs kinds.Parallel flows tokens n r = r ≡ 0
CountedAs kinds.Inclusive flows tokens n r = HoldingNumber flows tokens n r

abbrev pub Counted : List Kind → List Flow → FlowSet → ℕ → ℕ → Type 0
Counted nodes flows tokens n r = CountedAs (kind_at nodes n) flows tokens n r

-- the number of every node is right
abbrev pub Kept : List Kind → List Flow → FlowSet → List ℕ → Type 0
Kept nodes flows tokens numbers = (n : ℕ) → Counted nodes flows tokens n (number_at numbers n)
