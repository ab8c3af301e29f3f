use Rattle.listing.proofs.Pieces.{wrote-byte}
use Rattle.listing.proofs.writing.write_digit.Goals as goal

pub returns : goal.returns
returns c = wrote-byte _ _ _ c.requires.room
