use Rattle.std.proofs.Common.{rules}
use Rattle.listing.proofs.Pieces.{then, same_number}
use Rattle.listing.proofs.lines.write_gateway.Goals as goal

pub returns : goal.returns
returns c =
    let gateway = same_number c.from.ensures c.write_number-end.ensures.text in
    let holder = same_number c.from-2.ensures c.write_number-end-2.ensures.text in
    let path = c.write_path-end.ensures.text in
    record { wrote = then c.write_text-end.ensures (then gateway (then c.write_text-end-2.ensures (then holder (then c.write_text-end-3.ensures (then path c.write_text.ensures))))); most = search rules }
