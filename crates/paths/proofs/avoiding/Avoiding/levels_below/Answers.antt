use Rattle.std.proofs.Common.{◌≡◌, [], ◌∷◌, ◌++◌, Bool, cond, sym, ap, ◌∙◌}
use Rattle.std.proofs.lemmas.Bool.{lt-ltb}
use Rattle.process.specs.Rows.{items}
use Rattle.model.specs.Models.{flows_of}
use Rattle.paths.proofs.Distance.{climb-start, climb-more}
use Rattle.paths.proofs.Nodes.{flows-few}
use Rattle.paths.proofs.avoiding.Avoiding.levels_below.Goals as goal

pub loop-level-init : goal.loop-level-init
loop-level-init c =
    let m = c.args.self.now.model.now in
    climb-start (flows_of m) (flows-few m) c.args.self.now.gateway c.args.from c.args.end c.requires (items c.new-levels.result) c.single-level.result c.new-levels.ensures c.single-level.ensures

-- there is room for one level more
pushed : (c : goal.After-grow-level) → items c.push.new.self ≡ items c.loop-level.levels ++ c.loop-level.level ∷ []
pushed c = c.push.ensures.after ∙ ap (λ (b : Bool). cond b (items c.loop-level.levels ++ c.loop-level.level ∷ []) (items c.loop-level.levels)) (c.push.ensures.told ∙ lt-ltb _ _ c.loop-level.invariant.few)

pub loop-level-preserved : goal.loop-level-preserved
loop-level-preserved c =
    let m = c.args.self.now.model.now in
    climb-more (flows_of m) (flows-few m) c.args.self.now.gateway c.args.from c.args.end c.requires (items c.loop-level.levels) (items c.push.new.self) c.loop-level.level c.grow-level.result
    c.loop-level.invariant (sym c.loop-level-test.ensures) (pushed c) c.grow-level.ensures
