-- When a condition holds.
use Rattle.std.specs.Prelude.{◌≡◌, ℕ, zero, suc, List, ℤ, pos, ◌≤ℤ◌, ◌<ℤ◌, slice_index_or}
use Rattle.process.specs.declared.flow.Condition.{Condition}
use Rattle.process.specs.declared.flow.Guard.{Guard}
use Rattle.process.specs.declared.flow.Guard.TheVariants as guards
use Rattle.process.specs.declared.flow.Operator.{Operator}
use Rattle.process.specs.declared.flow.Operator.TheVariants as operators

-- the left number compares with the right one as the operator says
abbrev pub Compares : Operator → ℤ → ℤ → Type 0
Compares operators.Less a b = a <ℤ b
Compares operators.AtMost a b = a ≤ℤ b
Compares operators.Equal a b = a ≡ b
Compares operators.NotEqual a b = a ≡ b → ⊥
Compares operators.AtLeast a b = b ≤ℤ a
Compares operators.Greater a b = b <ℤ a

-- figure x stands at place x - 1
abbrev pub figure : List ℤ → ℕ → ℤ
figure figures zero = pos 0
figure figures (suc k) = slice_index_or figures k (pos 0)

abbrev pub ConditionHolds : List ℤ → Condition → Type 0
ConditionHolds figures c = Compares c.operator (figure figures c.figure) c.value

-- a flow has a condition, and it holds
abbrev pub GuardHolds : List ℤ → Guard → Type 0
GuardHolds figures guards.Plain = ⊥
GuardHolds figures guards.Default = ⊥
GuardHolds figures (guards.If c) = ConditionHolds figures c
