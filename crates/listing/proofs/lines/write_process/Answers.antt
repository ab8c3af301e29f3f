use Rattle.std.proofs.Common.{rules}
use Rattle.listing.proofs.Pieces.{then, same_number}
use Rattle.listing.proofs.lines.write_process.Goals as goal

pub returns : goal.returns
returns c =
    record { wrote = then c.write_text-end.ensures (then (same_number c.from.ensures c.write_number-end.ensures.text) c.write_text.ensures); most = search rules }
