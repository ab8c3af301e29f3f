use Rattle.std.proofs.Common.{sym, ◌∙◌}
use Rattle.process.proofs.Membership.{one_bit, no-bit}
use Rattle.process.proofs.sets.FlowSet.single.Goals as goal

pub returns-then-not-in_range : goal.returns-then-not-in_range
returns-then-not-in_range c = c.empty.ensures ∙ no-bit c.args.flow (sym c.in_range.ensures ∙ c.if-not-in_range.true)

pub returns : goal.returns
returns c = let b = one_bit c.args.flow (sym c.in_range.ensures ∙ c.if-not-in_range.false) in λ i. record { bits = b i }
