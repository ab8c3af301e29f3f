use Rattle.listing.proofs.Pieces.{then, same_number}
use Rattle.listing.proofs.writing.write_after_comma.Goals as goal

pub returns : goal.returns
returns c = then c.write_text-digits.ensures (same_number c.from.ensures c.write_digits.ensures)
