use Rattle.engine.proofs.Exclusive.{one-verdict}
use Rattle.engine.proofs.verdicts.one_verdict_holds.Goals as goal

pub returns : goal.returns
returns c = one-verdict
