use Rattle.std.proofs.Common.{length, ap, ◌∙◌, arith}
use Rattle.listing.specs.Lines.{listed}
use Rattle.listing.proofs.Lists.{listed-set}
use Rattle.listing.proofs.writing.write_set.Goals as goal

pub write_list-requires : goal.write_list-requires
write_list-requires c = let same = ap (λ fs. length (listed fs)) (c.as_slice.ensures.value ∙ c.list_of.ensures) in omega (arith, listed-set c.args.set)

pub returns-clause-most : goal.returns-clause-most
returns-clause-most c = let same = ap (λ fs. length (listed fs)) (c.as_slice.ensures.value ∙ c.list_of.ensures) in omega (arith, listed-set c.args.set, c.write_list.ensures.ends)
