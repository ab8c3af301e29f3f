use Rattle.process.proofs.Ordered.{set-laws}
use Rattle.process.proofs.sets.set_laws_hold.Goals as goal

pub returns : goal.returns
returns c = set-laws
