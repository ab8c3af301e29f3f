use Rattle.std.proofs.Common.{◌≡◌, get_or, pos, ap, ◌∙◌, subst, w32, SFits, to_z, of_z, rules}
use Rattle.std.proofs.lemmas.Int.{to_z-of_z}
use Rattle.reading.specs.Orders.{order}
use Rattle.service.specs.Answers.{answer}
use Rattle.service.specs.Piles.{waits_in}
use Rattle.service.specs.Waits.{put_verdict, Put}
use Rattle.service.proofs.Filling.{filled_more}
use Rattle.service.proofs.order_file.pile_of.Goals as goal

pub loop-line-preserved : goal.loop-line-preserved
loop-line-preserved c =
    let os = c.args.lines.now in
    let i = c.loop-line.line-index in
    let old = c.loop-line.pile in
    let new = c.put.new.self in
    let o = get_or os i (order 0 (pos 0)) in
    let fits : SFits w32 o.value = search rules in
    let same : to_z w32 (of_z w32 o.value) ≡ o.value = to_z-of_z w32 o.value fits in
    filled_more os c.requires.in_range c.requires.few i (order 0 (pos 0)) c.loop-line-test.true old new c.put.result c.loop-line.invariant
    (c.put.ensures.reply ∙ ap (λ z. put_verdict 1489 (waits_in old) o.node (answer z)) same)
    (subst (λ z. Put waits_in old o.node (answer z) c.put.result new) same c.put.ensures.after)
