use Rattle.std.proofs.Common.{rules}
use Rattle.listing.proofs.Pieces.{then, same_number}
use Rattle.listing.proofs.lines.write_refusal.Goals as goal

pub returns : goal.returns
returns c =
    let number = same_number c.from.ensures c.write_number-end.ensures.text in
    let layer = same_number c.from-2.ensures c.write_number-end-2.ensures.text in
    let place = c.write_number-end-3.ensures.text in
    record { wrote = then c.write_text-end.ensures (then number (then c.write_text-end-2.ensures (then layer (then c.write_text-end-3.ensures (then place c.write_text.ensures))))); most = search rules }
