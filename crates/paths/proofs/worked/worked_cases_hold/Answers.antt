use Rattle.paths.proofs.Cases.{worked-cases}
use Rattle.paths.proofs.worked.worked_cases_hold.Goals as goal

pub returns : goal.returns
returns c = worked-cases
