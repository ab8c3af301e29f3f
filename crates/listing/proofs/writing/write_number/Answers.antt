use Rattle.std.proofs.Common.{arith, rules}
use Rattle.listing.proofs.Numbers.{twenty-digits}
use Rattle.listing.proofs.writing.write_number.Goals as goal

pub write_digits-requires : goal.write_digits-requires
write_digits-requires c = omega (arith, twenty-digits c.args.number (search rules))

pub returns : goal.returns
returns c =
    let w = c.write_digits.ensures in
    record { text = w; most = omega (arith, w.ends, twenty-digits c.args.number (search rules)) }
