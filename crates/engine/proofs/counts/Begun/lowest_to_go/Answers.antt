use Rattle.std.proofs.Common.{◌+◌, ◌≤◌, length, subst, sym, arith}
use Rattle.std.proofs.lemmas.Bool.{both_ways}
use Rattle.engine.specs.Counts.{nodes_of}
use Rattle.engine.proofs.Turns.{Looked, looked-none, looked-hindered, looked-unready, looked-found, looked-all}
use Rattle.engine.proofs.counts.Begun.lowest_to_go.Goals as goal
use Rattle.engine.proofs.counts.Begun.lowest_to_go.Goals.{then-is_ready+in_default, else-is_ready}

pub loop-node-init : goal.loop-node-init
loop-node-init g c = looked-none c.args.self.now (g.S.Service.waits c.args.service.now)

pub returns-in-Ok : goal.returns-in-Ok
returns-in-Ok g c =
    let b = c.args.self.now in
    let clear = c.in-Ok.ensures in
    record {
      lowest = looked-found b (g.S.Service.waits c.args.service.now) c.loop-node.node c.loop-node.stop c.loop-node.auto.node (omega (arith, c.last_node-last.ensures, c.loop-node-test.true)) c.loop-node.invariant c.in-Ok.movement
          (c.is_ready.ensures.0 c.if-is_ready.true) clear;
      clear = clear;
    }

pub loop-node-preserved : goal.loop-node-preserved
loop-node-preserved g c =
    let b = c.args.self.now in
    let w = g.S.Service.waits c.args.service.now in
    let n = c.loop-node.node in
    let low = c.loop-node.auto.node in
    let high : n ≤ length (nodes_of b) = omega (arith, c.last_node-last.ensures, c.loop-node-test.true) in
    elim c.if-is_ready.branch [
      | then-is_ready+in_default v ↦
          subst (Looked b w (n + 1)) (sym v.stop-is) (looked-hindered b w n c.loop-node.stop low high c.loop-node.invariant v.in_default.field-0 (c.is_ready.ensures.0 v.if-is_ready.true) v.in_default.ensures)
      | else-is_ready v ↦
          subst (Looked b w (n + 1)) (sym v.stop-is) (looked-unready b w n c.loop-node.stop low high c.loop-node.invariant (λ r. both_ways _ v.if-is_ready.false (c.is_ready.ensures.1 r)))
    ]

pub returns : goal.returns
returns g c =
    let b = c.args.self.now in
    looked-all b (g.S.Service.waits c.args.service.now) c.loop-node.node c.loop-node.stop (omega (arith, c.last_node-last.ensures, c.loop-node-test.false)) c.loop-node.invariant
