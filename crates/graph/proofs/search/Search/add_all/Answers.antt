use Rattle.std.proofs.Common.{refl, ◌∙◌, arith}
use Rattle.std.proofs.lemmas.Result.{err_from_is_err_and}
use Rattle.graph.proofs.Growing.{grown-nothing, grown-more, overfull-more}
use Rattle.graph.proofs.search.Search.add_all.Goals as goal

pub loop-place-init : goal.loop-place-init
loop-place-init g c = (refl, grown-nothing c.args.self.now, omega arith, refl)

pub loop-place-preserved : goal.loop-place-preserved
loop-place-preserved g c = (
  c.add.ensures.reference ∙ c.loop-place.invariant.0,
  grown-more c.args.places.now c.loop-place.place-index c.args.self.now c.loop-place.self c.loop-place.invariant.1 c.place-item.result c.loop-place-test.true c.place-item.is c.add.new.self c.in_ok-add.ensures.cases,
  omega arith,
  c.add.ensures.room ∙ c.loop-place.invariant.3,
)

pub returns-in_err-add-clause-cases : goal.returns-in_err-add-clause-cases
returns-in_err-add-clause-cases g c =
    let p = err_from_is_err_and c.from_residual.result c.from_residual.ensures.1 in
    let e = c.in_err-add.ensures.cases in
    rw (p.1, p.2) (e.0, overfull-more c.args.places.now c.loop-place.place-index c.args.self.now c.loop-place.self c.loop-place.invariant.1 c.place-item.result c.loop-place-test.true c.place-item.is e.1)

pub returns-in_err-add-clause-room : goal.returns-in_err-add-clause-room
returns-in_err-add-clause-room g c = c.add.ensures.room ∙ c.loop-place.invariant.3

pub returns-clause-room : goal.returns-clause-room
returns-clause-room g c = c.loop-place.invariant.3
