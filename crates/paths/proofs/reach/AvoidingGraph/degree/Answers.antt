use Rattle.std.proofs.Common.{length, sym, ap, ◌∙◌}
use Rattle.process.specs.declared.sets.FlowSet.{FlowSet}
use Rattle.process.specs.Sets.{above}
use Rattle.process.proofs.Ordered.{above-length}
use Rattle.paths.proofs.reach.AvoidingGraph.degree.Goals as goal

pub returns : goal.returns
returns c = c.len.ensures ∙ sym (above-length c.leaders.result) ∙ ap (λ (s : FlowSet). length (above s 0)) c.leaders.ensures
