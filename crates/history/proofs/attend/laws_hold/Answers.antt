-- The theorem stands in proofs/Holds.antt.
use Rattle.history.proofs.Holds.{laws-hold}
use Rattle.history.proofs.attend.laws_hold.Goals as goal

pub returns : goal.returns
returns c = laws-hold
