use Rattle.std.proofs.Common.{rules}
use Rattle.process.proofs.Membership.{ones-tally}
use Rattle.process.proofs.sets.FlowSet.len.Goals as goal

pub returns : goal.returns
returns c = ones-tally 64 c.args.self.bits (search rules)
