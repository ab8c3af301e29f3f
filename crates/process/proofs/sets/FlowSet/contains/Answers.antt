use Rattle.std.proofs.Common.{sym, ◌∙◌, rules}
use Rattle.process.proofs.Membership.{range-parts, none-outside, digit-test}
use Rattle.process.proofs.sets.FlowSet.contains.Goals as goal

pub returns-then-not-in_range : goal.returns-then-not-in_range
returns-then-not-in_range c = sym (none-outside c.args.self c.args.flow (search rules) (sym c.in_range.ensures ∙ c.if-not-in_range.true))

pub returns : goal.returns
returns c = digit-test c.args.self c.args.flow (range-parts c.args.flow (sym c.in_range.ensures ∙ c.if-not-in_range.false)).0
