use Rattle.std.proofs.Common.{arith}
use Rattle.engine.specs.Runs.Runs.{still, again}
use Rattle.engine.proofs.counts.Begun.run.Goals as goal

pub loop-stop-init : goal.loop-stop-init
loop-stop-init g c = (omega arith, still)

pub next-requires : goal.next-requires
next-requires g c = c.loop-stop.invariant.0

pub returns-in-Err : goal.returns-in-Err
returns-in-Err g c = record { steps = c.loop-stop.invariant.1; stops_for = c.in-Err.ensures }

pub loop-stop-smaller : goal.loop-stop-smaller
loop-stop-smaller g c = let n = c.in-Ok.ensures in omega (arith, n.goes.budgeted)

pub loop-stop-preserved : goal.loop-stop-preserved
loop-stop-preserved g c =
    let n = c.in-Ok.ensures in
    (omega (arith, n.goes.budgeted), again c.loop-stop.invariant.1 n.goes c.carry_out.ensures)
