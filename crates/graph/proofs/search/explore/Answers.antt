use Rattle.std.proofs.Common.{◌≤◌, length, take, refl, ap, ◌∙◌, rules, arith}
use Rattle.std.proofs.lemmas.List.{length-take-le}
use Rattle.std.proofs.lemmas.Result.{err_from_is_err_and}
use Rattle.graph.proofs.Holding.{not_more}
use Rattle.graph.proofs.Adding.{ready-none, search-start, search-taken, search-step, search-end, search-rest, search-fault, start-fault}
use Rattle.graph.proofs.Growing.{step-at, fault-at, found-at}
use Rattle.graph.proofs.search.explore.Goals as goal

pub invariant_of-search : goal.invariant_of-search
invariant_of-search g c = record {
  fits = c.requires.fits;
  within = omega arith;
  waits = omega (arith, ap length c.requires.empty);
  room = c.requires.room;
  distinct = tt;
}

pub returns-in_err-add_all : goal.returns-in_err-add_all
returns-in_err-add_all g c =
    let p = err_from_is_err_and c.from_residual.result c.from_residual.ensures.1 in
    let e = c.in_err-add_all.ensures.cases in
    rw (p.1, p.2) (e.0, start-fault {before = c.args.found.now} e.1)

pub loop-place-init : goal.loop-place-init
loop-place-init g c =
    let e = c.in_ok-add_all.ensures.cases in
    (refl, search-start c.requires.empty (ready-none c.requires.fits c.requires.empty) e.0, e.1, omega arith)

pub loop-place-preserved : goal.loop-place-preserved
loop-place-preserved g c =
    let v = c.loop-place.invariant in
    let k = c.take.ensures.kept in
    let a = step-at (k.2 ∙ v.2) c.in_ok-add_neighbours.ensures.cases.0 in (
      c.add_neighbours.ensures.reference ∙ c.take.ensures.reference ∙ v.0,
      search-step (search-taken k.0 k.1 c.in-Some.ensures.cases v.1) a,
      c.in_ok-add_neighbours.ensures.cases.1 ∙ k.2 ∙ v.2,
      omega (arith, v.3, k.1, a.number),
    )

pub returns-in_err-add_neighbours : goal.returns-in_err-add_neighbours
returns-in_err-add_neighbours g c =
    let v = c.loop-place.invariant in
    let k = c.take.ensures.kept in
    let p = err_from_is_err_and c.from_residual-in_err-add_neighbours.result c.from_residual-in_err-add_neighbours.ensures.1 in
    let e = c.in_err-add_neighbours.ensures.cases in
    rw (p.1, p.2) (e.0, search-fault (search-taken k.0 k.1 c.in-Some.ensures.cases v.1) (fault-at (k.2 ∙ v.2) e.1))

pub returns : goal.returns
returns g c =
    let v = c.loop-place.invariant in
    let k = c.take.ensures.kept in
    let found = c.take.new.self.found.now in
    let count = c.take.new.self.count in
    let s = search-taken k.0 k.1 c.in_default.ensures.cases v.1 in
    let all = search-end s in
    let inside : count ≤ length found = omega (arith, s.ready.within, s.ready.fits) in
    let short : length (take count found) ≤ c.args.limit = omega (arith, s.ready.within, length-take-le count found inside) in
    let same = c.take.ensures.reference ∙ v.0 ∙ c.add_all.ensures.reference in
    found-at _ found (search rules) (record {
      within = s.ready.within;
      reached = all;
      rest = search-rest c.in_ok-add_all.ensures.cases.0 (omega (arith, v.3, k.1)) s;
      enough = not_more (take count found) c.args.limit all.complete short;
    })
