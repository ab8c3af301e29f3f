use Rattle.std.proofs.Common.{arith}
use Rattle.listing.proofs.Lists.{listed-front}
use Rattle.listing.proofs.lines.write_path.Goals as goal

pub write_list-requires : goal.write_list-requires
write_list-requires c = omega (arith, listed-front c.args.list.now c.fits-list (omega (arith, c.told-list)) c.min-shown.result)

pub returns-clause-most : goal.returns-clause-most
returns-clause-most c = omega (arith, listed-front c.args.list.now c.fits-list (omega (arith, c.told-list)) c.min-shown.result, c.write_list.ensures.ends)
