use Rattle.std.proofs.Common.{◌+◌, ◌-◌, ◌<◌, length, sym, refl, ◌∙◌, subst, arith, length-set}
use Rattle.std.proofs.lemmas.List.{drop-set-lt}
use Rattle.model.specs.Models.{flows_of}
use Rattle.paths.specs.Levels.{LevelsBelow}
use Rattle.paths.proofs.Nodes.{flows-few}
use Rattle.paths.proofs.Trails.{traced-first, traced-before, traced-more, traced-whole}
use Rattle.paths.proofs.avoiding.Avoiding.write_path.Goals as goal

pub loop-place-init : goal.loop-place-init
loop-place-init c =
    let m = c.args.self.now.model.now in
    let g = c.args.self.now.gateway in
    let levels = c.as_slice-levels.result.now in
    let below = subst (LevelsBelow (flows_of m) g c.args.from c.args.end) (sym c.as_slice-levels.ensures.value) c.levels_below-row.ensures in
    record {
      long = simp length-set c.told-list;
      trail = traced-first (flows_of m) (flows-few m) g c.args.from c.args.end c.requires levels below c.args.list.now c.told-list;
      rest = refl;
    }

pub flow_before-flow-requires : goal.flow_before-flow-requires
flow_before-flow-requires c =
    let m = c.args.self.now.model.now in
    let g = c.args.self.now.gateway in
    let levels = c.as_slice-levels.result.now in
    let below = subst (LevelsBelow (flows_of m) g c.args.from c.args.end) (sym c.as_slice-levels.ensures.value) c.levels_below-row.ensures in
    traced-before (flows_of m) (flows-few m) g c.args.from c.args.end c.requires levels below c.loop-place.list c.loop-place.place c.loop-place.flow
    c.loop-place-test.true c.loop-place.auto.place c.loop-place.invariant.trail

pub loop-place-preserved : goal.loop-place-preserved
loop-place-preserved c =
    let m = c.args.self.now.model.now in
    let g = c.args.self.now.gateway in
    let levels = c.as_slice-levels.result.now in
    let at = c.loop-place.place in
    let list = c.loop-place.list in
    let below = subst (LevelsBelow (flows_of m) g c.args.from c.args.end) (sym c.as_slice-levels.ensures.value) c.levels_below-row.ensures in
    let before : at - 1 < length levels + 1 = omega arith in
    record {
      long = simp length-set c.loop-place.invariant.long;
      trail =
          traced-more (flows_of m) (flows-few m) g c.args.from c.args.end c.requires levels below list at c.loop-place.flow c.flow_before-flow.result
          c.loop-place.invariant.long c.loop-place-test.true c.loop-place.auto.place c.loop-place.invariant.trail c.flow_before-flow.ensures;
      rest = drop-set-lt (length levels + 1) list (at - 1) c.flow_before-flow.result before ∙ c.loop-place.invariant.rest;
    }

pub returns : goal.returns
returns c =
    let m = c.args.self.now.model.now in
    let g = c.args.self.now.gateway in
    let levels = c.as_slice-levels.result.now in
    let below = subst (LevelsBelow (flows_of m) g c.args.from c.args.end) (sym c.as_slice-levels.ensures.value) c.levels_below-row.ensures in
    let before : length levels < length levels + 1 = omega arith in
    record {
      few = omega (arith, below.few);
      levels = (levels, below, refl);
      route =
          traced-whole (flows_of m) (flows-few m) g c.args.from c.args.end c.requires levels below c.loop-place.list c.loop-place.place c.loop-place.flow
          c.loop-place-test.false c.loop-place.invariant.trail;
      rest = c.loop-place.invariant.rest ∙ drop-set-lt (length levels + 1) c.args.list.now (length levels) c.args.end before;
    }
