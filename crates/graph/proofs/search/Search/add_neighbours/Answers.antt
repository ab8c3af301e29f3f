use Rattle.std.proofs.Common.{◌≡◌, ◌<◌, length, get_or, refl, ◌∙◌, arith}
use Rattle.std.proofs.lemmas.Result.{err_from_is_err_and}
use Rattle.std.proofs.lemmas.Option.{slice_get-get_or}
use Rattle.graph.proofs.Growing.{grown-nothing, grown-more, overfull-more}
use Rattle.graph.proofs.search.Search.add_neighbours.Goals as goal

pub loop-index-init : goal.loop-index-init
loop-index-init g c = (refl, grown-nothing c.args.self.now, refl)

pub unreachable-requires : goal.unreachable-requires
unreachable-requires g c =
    let near = g.G.Graph.next c.args.graph.now c.args.place in
    let inside : c.loop-index.index < length near = omega (arith, c.loop-index-test.true, c.degree-index-end.ensures) in
    c.in_default.not-Some (get_or near c.loop-index.index c.args.place) (c.neighbour.ensures ∙ slice_get-get_or near c.loop-index.index c.args.place inside)

pub loop-index-preserved : goal.loop-index-preserved
loop-index-preserved g c =
    let near = g.G.Graph.next c.args.graph.now c.args.place in
    let other = c.in-Some.other in
    let inside : c.loop-index.index < length near = omega (arith, c.loop-index-test.true, c.degree-index-end.ensures) in
    let read : other ≡ get_or near c.loop-index.index other = let e = slice_get-get_or near c.loop-index.index other inside in let f = c.in-Some.ensures in cc in
    (c.add.ensures.reference ∙ c.loop-index.invariant.0, grown-more near c.loop-index.index c.args.self.now c.loop-index.self c.loop-index.invariant.1 other inside read c.add.new.self c.in_ok-add.ensures.cases, c.add.ensures.room ∙ c.loop-index.invariant.2)

pub returns-in_err-add-clause-cases : goal.returns-in_err-add-clause-cases
returns-in_err-add-clause-cases g c =
    let near = g.G.Graph.next c.args.graph.now c.args.place in
    let other = c.in-Some.other in
    let inside : c.loop-index.index < length near = omega (arith, c.loop-index-test.true, c.degree-index-end.ensures) in
    let read : other ≡ get_or near c.loop-index.index other = let e = slice_get-get_or near c.loop-index.index other inside in let f = c.in-Some.ensures in cc in
    let p = err_from_is_err_and c.from_residual.result c.from_residual.ensures.1 in
    let e = c.in_err-add.ensures.cases in
    rw (p.1, p.2) (e.0, overfull-more near c.loop-index.index c.args.self.now c.loop-index.self c.loop-index.invariant.1 other inside read e.1)

pub returns-in_err-add-clause-room : goal.returns-in_err-add-clause-room
returns-in_err-add-clause-room g c = c.add.ensures.room ∙ c.loop-index.invariant.2

pub returns-clause-room : goal.returns-clause-room
returns-clause-room g c = c.loop-index.invariant.2
