use Rattle.std.proofs.Common.{refl, arith}
use borrow.Author.Tests.{lt-true, le-false}
use Rattle.std.proofs.lemmas.List.{length-take-le, take_more_set}
use Rattle.process.specs.Rows.{items}
use Rattle.process.proofs.row.Row.push.Goals as goal

pub returns-then-self : goal.returns-then-self
returns-then-self g c =
    let row = c.args.self.now in
    let count = length-take-le row.count row.memory (omega (arith, row.fits, row.whole)) in
    record { told = le-false _ _ (omega (arith, count, c.if-self.true)); after = refl {a = items row} }

pub returns : goal.returns
returns g c =
    let row = c.args.self.now in
    let count = length-take-le row.count row.memory (omega (arith, row.fits, row.whole)) in
    record {
      told = lt-true _ _ (omega (arith, count, c.if-self.false));
      after = take_more_set row.memory row.count c.args.item (omega (arith, c.if-self.false, row.whole));
    }
