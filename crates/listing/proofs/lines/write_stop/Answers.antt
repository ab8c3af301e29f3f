use Rattle.std.proofs.Common.{rules}
use Rattle.listing.proofs.Pieces.{then, same_text, same_number}
use Rattle.listing.proofs.lines.write_stop.Goals as goal

pub returns : goal.returns
returns c =
    let name = same_text c.stop_name.ensures c.write_text-end.ensures in
    let steps = same_number c.from.ensures c.write_number-end.ensures.text in
    record { wrote = then name (then c.write_text-end-2.ensures (then steps c.write_text.ensures)); most = search rules }
