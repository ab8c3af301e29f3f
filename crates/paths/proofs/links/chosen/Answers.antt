use Rattle.std.proofs.Common.{◌<◌, length, sym, ◌∙◌, arith}
use Rattle.paths.proofs.Chosen.{chosen_none, chosen-take, chosen-skip}
use Rattle.paths.proofs.links.chosen.Goals as goal
use Rattle.paths.proofs.links.chosen.Goals.{then-test, else-test}

pub loop-place-init : goal.loop-place-init
loop-place-init g c = λ p _. c.empty-found.ensures ∙ chosen_none p

pub loop-place-preserved : goal.loop-place-preserved
loop-place-preserved g c = λ p is.
    let i = c.loop-place.place in
    let within : i < length c.args.items.now = omega arith in
    let told = is i _ c.test.result within c.index-items-place.is c.test.ensures in
    let before = c.loop-place.invariant p is in
    elim c.if-test.branch [
      | then-test w ↦ w.found-is ∙ w.insert-found.ensures ∙ chosen-take p i c.loop-place.found (sym told ∙ w.if-test.true) before
      | else-test w ↦ w.found-is ∙ chosen-skip p i c.loop-place.found (sym told ∙ w.if-test.false) before
    ]
