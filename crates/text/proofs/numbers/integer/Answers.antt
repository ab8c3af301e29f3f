use Rattle.std.proofs.Common.{◌≡◌, get_or, rules}
use Rattle.std.proofs.lemmas.List.{take_rest}
use Rattle.text.proofs.Writings.{signed-read}
use Rattle.text.proofs.numbers.integer.Goals as goal

pub returns-in-45 : goal.returns-in-45
returns-in-45 c =
    let sign : get_or c.args.word.now 0 0 ≡ 45 = search rules in
    signed-read c.negative.result c.args.word.now sign (rw take_rest at c.negative.ensures)
