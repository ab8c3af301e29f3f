use Rattle.std.proofs.Common.{◌≡◌, ◌+◌, [], ◌∷◌, ◌++◌, length, drop, Ok, Err, sym, refl, ap, ◌∙◌, arith, rules, tests}
use Rattle.std.proofs.lemmas.List.{length_push}
use Rattle.std.proofs.lemmas.Result.{err_from_is_err_and}
use Rattle.process.specs.Rows.{items}
use Rattle.text.specs.Pieces.{pieces}
use Rattle.text.specs.Words.{words_of}
use Rattle.text.proofs.Joins.{weight, weight-pieces}
use Rattle.reading.specs.Fields.{and_then}
use Rattle.reading.specs.Orders.{order_line, order_lines}
use Rattle.reading.proofs.Room.{line-put}
use Rattle.reading.proofs.Turns.{turn-at, none-left}
use Rattle.reading.proofs.order.order_lines.Goals as goal

pub loop-index-init : goal.loop-index-init
loop-index-init c = (refl {a = order_lines 1 (items c.args.lines.now) (pieces 10 c.args.text.now)}, omega (arith, weight-pieces 10 c.args.text.now, c.requires))

pub loop-index-preserved : goal.loop-index-preserved
loop-index-preserved c =
    let text = c.args.text.now in
    let i = length c.loop-index.yielded in
    let l = c.in-Some.bytes.now in
    let t = turn-at _ _ _ text (cc) (cc) (cc) (λ x b q k. search (rules, tests)) (cc) c.loop-index.yielded _ c.loop-index.yielded_by _ _ c.in-Some.index c.in-Some.bytes c.in-Some.is c.next.ensures.steps in
    let read = items c.loop-index.lines in
    let more = drop (i + 1) (pieces 10 text) in
    let inv = c.loop-index.invariant in
    let at : c.new.result.line ≡ i + 1 = c.new.ensures.line ∙ ap (λ n. n + 1) t.number in
    let ok : order_line (i + 1) (words_of l) ≡ Ok c.in_ok-order.order = (λ j. order_line (sym at j) (sym c.new.ensures.words j)) ∙ sym c.in_ok-order.ensures in
    let put = line-put (i + 1) read (items c.push.new.self) l more c.in_ok-order.order c.push.result ok (omega (arith, ap weight t.left, inv.1)) c.push.ensures.told c.push.ensures.after in
    rw length_push (put.same ∙ ap (order_lines (i + 1) read) (sym t.left) ∙ inv.0, put.room)

pub returns-in_err-order : goal.returns-in_err-order
returns-in_err-order c =
    let text = c.args.text.now in
    let i = length c.loop-index.yielded in
    let l = c.in-Some.bytes.now in
    let t = turn-at _ _ _ text (cc) (cc) (cc) (λ x b q k. search (rules, tests)) (cc) c.loop-index.yielded _ c.loop-index.yielded_by _ _ c.in-Some.index c.in-Some.bytes c.in-Some.is c.next.ensures.steps in
    let read = items c.loop-index.lines in
    let fault = c.in_err-order.field-0.0 in
    let at : c.new.result.line ≡ i + 1 = c.new.ensures.line ∙ ap (λ n. n + 1) t.number in
    let err : order_line (i + 1) (words_of l) ≡ Err fault = (λ j. order_line (sym at j) (sym c.new.ensures.words j)) ∙ sym c.in_err-order.ensures in
    let p = err_from_is_err_and c.from_residual.result c.from_residual.ensures.1 in
    rw (p.1, p.2) (sym c.loop-index.invariant.0 ∙ ap (order_lines (i + 1) read) t.left ∙ ap (λ r. and_then r (λ o. order_lines (i + 1 + 1) (read ++ o ∷ []) (drop (i + 1) (pieces 10 text)))) err)

pub returns : goal.returns
returns c =
    let text = c.args.text.now in
    let none = none-left _ _ _ text (cc) (cc) (cc) (λ x b q k. search (rules, tests)) (cc) c.loop-index.yielded _ c.loop-index.yielded_by _ _ c.in-None.is c.next.ensures.steps in
    let i = length c.loop-index.yielded in
    sym c.loop-index.invariant.0 ∙ ap (order_lines (i + 1) (items c.loop-index.lines)) none
