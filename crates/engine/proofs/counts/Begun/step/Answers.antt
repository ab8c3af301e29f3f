use Rattle.std.proofs.Common.{ℕ, refl, subst}
use Rattle.std.proofs.lemmas.Result.{err_from_is_err_and}
use Rattle.std.proofs.lemmas.Bool.{both_ways}
use Rattle.engine.specs.Counts.{IsReady}
use Rattle.engine.specs.Steps.{Hinders}
use Rattle.engine.specs.Steps.Refuses.{no_node, not_ready, no_room, hindered}
use Rattle.engine.proofs.counts.Begun.step.Goals as goal

pub returns-in_err-number : goal.returns-in_err-number
returns-in_err-number g c =
    let p = err_from_is_err_and c.from_residual.result c.from_residual.ensures.1 in
    let e = c.in_err-number.ensures in
    rw (p.1, p.2, e.1) (record { because = no_node e.0; same = record { count = refl; journal_is = refl; waits_are = refl } })

pub returns-then-not-is_ready : goal.returns-then-not-is_ready
returns-then-not-is_ready g c =
    let e = c.in_ok-number.ensures in
    let b = c.args.self.now in
    let unready = subst (λ (k : ℕ). IsReady b k → ⊥) e.1 (λ r. both_ways _ c.if-not-is_ready.true (c.is_ready.ensures.1 r)) in
    record { because = not_ready e.0 unready; same = record { count = refl; journal_is = refl; waits_are = refl } }

pub returns-then-not-has_room : goal.returns-then-not-has_room
returns-then-not-has_room g c =
    let e = c.in_ok-number.ensures in
    let b = c.args.self.now in
    record {
      because = no_room e.0 (subst (IsReady b) e.1 (c.is_ready.ensures.0 c.if-not-is_ready.false)) (λ r. both_ways _ c.if-not-has_room.true (c.has_room.ensures.1 r));
      same = record { count = refl; journal_is = refl; waits_are = refl };
    }

pub returns-in_err-movement : goal.returns-in_err-movement
returns-in_err-movement g c =
    let p = err_from_is_err_and c.from_residual-in_err-movement.result c.from_residual-in_err-movement.ensures.1 in
    let e = c.in_ok-number.ensures in
    let b = c.args.self.now in
    let w = g.S.Service.waits c.args.service.now in
    let h = c.in_err-movement.ensures in
    rw (p.1, p.2) (record {
      because = hindered e.0 (subst (IsReady b) e.1 (c.is_ready.ensures.0 c.if-not-is_ready.false)) (c.has_room.ensures.0 c.if-not-has_room.false) (subst (λ (k : ℕ). Hinders b w k c.in_err-movement.field-0.0) e.1 h);
      same = record { count = refl; journal_is = refl; waits_are = refl };
    })
