use Rattle.std.proofs.Common.{arith}
use Rattle.process.proofs.Gaps.{gap-closed}
use Rattle.process.proofs.row.Row.remove.Goals as goal

pub returns-clause-after : goal.returns-clause-after
returns-clause-after g c =
    let row = c.args.self.now in
    gap-closed row.memory c.copy_within.new.self c.args.index row.count (omega (arith, c.if-index-self.false)) (omega (arith, row.fits, row.whole)) c.copy_within.ensures.after
