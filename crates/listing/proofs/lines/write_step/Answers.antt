use Rattle.std.proofs.Common.{rules}
use Rattle.listing.proofs.Pieces.{then, same_number}
use Rattle.listing.proofs.lines.write_step.Goals as goal

pub returns : goal.returns
returns c =
    let step = same_number c.from.ensures c.write_number-end.ensures.text in
    let node = same_number c.from-2.ensures c.write_number-end-2.ensures.text in
    let takes = c.write_set-end.ensures.text in
    let puts = c.write_set-end-2.ensures.text in
    let answer = c.write_answer_part-end.ensures.text in
    record { wrote = then c.write_text-end.ensures (then step (then c.write_text-end-2.ensures (then node (then c.write_text-end-3.ensures (then takes (then c.write_text-end-4.ensures (then puts (then answer c.write_text.ensures)))))))); most = search rules }
