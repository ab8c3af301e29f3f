use Rattle.std.proofs.Common.{sym, arith, rules}
use Rattle.std.proofs.lemmas.Fmt.{decimal_digit, decimal_step}
use Rattle.listing.proofs.Numbers.{one-digit, one_more}
use Rattle.listing.proofs.Pieces.{then, same_text}
use Rattle.listing.proofs.writing.+write_digits.Goals as goal

pub write_digit-requires : goal.write_digit-requires
write_digit-requires t c = record { small = omega arith; room = omega (arith, one-digit c.args.number (omega arith)) }

pub returns-then-number-lt10 : goal.returns-then-number-lt10
returns-then-number-lt10 t c = same_text (sym (decimal_digit c.args.number (omega arith))) c.write_digit.ensures

pub write_digits-last-requires : goal.write_digits-last-requires
write_digits-last-requires t c = (search rules, omega (arith, one_more c.args.number (omega arith) (search rules)))

pub write_digit-requires-2 : goal.write_digit-requires-2
write_digit-requires-2 t c =
    let w = c.write_digits-last.ensures in
    record { small = search rules; room = omega (arith, w.ends, one_more c.args.number (omega arith) (search rules)) }

pub returns : goal.returns
returns t c = same_text (sym (decimal_step c.args.number (omega arith) (search rules))) (then c.write_digits-last.ensures c.write_digit-2.ensures)
