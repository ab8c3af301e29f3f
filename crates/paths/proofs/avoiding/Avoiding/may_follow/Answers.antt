use Rattle.std.proofs.Common.{not, ap, ◌∙◌}
use Rattle.process.specs.declared.sets.FlowSet.{FlowSet}
use Rattle.process.specs.Sets.{shared, is_none}
use Rattle.paths.specs.Levels.{comes_after}
use Rattle.paths.proofs.avoiding.Avoiding.may_follow.Goals as goal

pub returns : goal.returns
unfolding comes_after
returns c = ap not (c.is_empty.ensures ∙ ap is_none (c.intersection.ensures ∙ ap (λ (s : FlowSet). shared s c.args.near) c.leaders.ensures))
