use Rattle.std.proofs.Common.{◌<◌, length, sym, ap, rules}
use Rattle.std.proofs.lemmas.List.{take_rest}
use Rattle.listing.specs.Lines.{after_commas}
use Rattle.listing.proofs.Lists.{listed-some}
use Rattle.listing.proofs.Pieces.{then, same_text, same_number}
use Rattle.listing.proofs.writing.write_list.Goals as goal

pub returns-in-len1-up : goal.returns-in-len1-up
returns-in-len1-up c =
    let flows = c.args.flows.now in
    let some : 0 < length flows = search rules in
    same_text (sym (listed-some flows some)) (then (same_number c.from.ensures c.write_digits-end.ensures) (same_text (ap after_commas (take_rest flows 1)) c.write_rest.ensures))
