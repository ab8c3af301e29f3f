use Rattle.std.proofs.Common.{◌≡◌, true, sym, ap, ◌∙◌, arith}
use Rattle.std.proofs.lemmas.Result.{err_from_is_err_and}
use Rattle.std.proofs.lemmas.Bool.{both_ways}
use Rattle.process.specs.Sets.{is_none}
use Rattle.process.proofs.Membership.{none-in-zero}
use Rattle.engine.specs.Counts.{tokens_of}
use Rattle.engine.specs.Runs.Stops.{finished, spent, full}
use Rattle.engine.proofs.Turns.{token-there, idle-stops}
use Rattle.engine.proofs.counts.Begun.next.Goals as goal

pub returns-then-is_empty : goal.returns-then-is_empty
returns-then-is_empty g c =
    let none : is_none (tokens_of c.args.self.now) ≡ true = ap is_none (sym c.tokens.ensures) ∙ sym c.if-is_empty.ensures in
    finished (none-in-zero (tokens_of c.args.self.now) none)

pub returns-in_err-turn : goal.returns-in_err-turn
returns-in_err-turn g c =
    let p = err_from_is_err_and c.from_residual.result c.from_residual.ensures.1 in
    let some = token-there c.args.self.now c.tokens.result c.tokens.ensures (sym c.if-is_empty.ensures) in
    rw (p.1, p.2) (idle-stops c.args.self.now c.args.places _ c.args.budget c.args.steps some c.in_err-turn.ensures)

pub returns-then-steps-budget : goal.returns-then-steps-budget
returns-then-steps-budget g c =
    let t = c.in_ok-turn.ensures in
    let some = token-there c.args.self.now c.tokens.result c.tokens.ensures (sym c.if-is_empty.ensures) in
    spent some (c.in_ok-turn.turn.node, t.lowest.goes) (omega (arith, c.requires, c.if-steps-budget.true))

pub returns-then-not-has_room : goal.returns-then-not-has_room
returns-then-not-has_room g c =
    let t = c.in_ok-turn.ensures in
    let some = token-there c.args.self.now c.tokens.result c.tokens.ensures (sym c.if-is_empty.ensures) in
    full some (c.in_ok-turn.turn.node, t.lowest.goes) (omega (arith, c.if-steps-budget.false)) (λ r. both_ways _ c.if-not-has_room.true (c.has_room.ensures.1 r))

pub returns : goal.returns
returns g c =
    let t = c.in_ok-turn.ensures in
    record {
      goes = record {
        token = token-there c.args.self.now c.tokens.result c.tokens.ensures (sym c.if-is_empty.ensures);
        lowest = t.lowest;
        budgeted = omega (arith, c.if-steps-budget.false);
        room = c.has_room.ensures.0 c.if-not-has_room.false;
      };
      clear = t.clear;
    }
