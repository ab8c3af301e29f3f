use Rattle.std.proofs.Common.{List, length, ap, ◌∙◌, rules}
use Rattle.process.specs.declared.flow.Flow.{Flow}
use Rattle.process.specs.Sets.{joined}
use Rattle.model.specs.Models.{flows_of}
use Rattle.paths.specs.Links.{chosen}
use Rattle.paths.specs.Levels.{comes_after, grown}
use Rattle.paths.proofs.avoiding.Avoiding.grow.Goals as goal

pub returns : goal.returns
unfolding grown
returns c =
    let p = comes_after (flows_of c.args.self.now.model.now) c.args.self.now.gateway c.args.near in
    c.union.ensures
    ∙ ap (joined c.args.near)
    (c.chosen.ensures p (λ i x b within at answers. search rules) ∙ ap (λ (fs : List Flow). chosen p (length fs)) c.flows.ensures.value)
