use Rattle.std.proofs.Common.{◌≡◌, ℕ, eqb, List, length, ap, ◌∙◌, rules}
use Rattle.process.specs.declared.flow.Flow.{Flow}
use Rattle.model.specs.Models.{flows_of}
use Rattle.paths.specs.Paths.{target}
use Rattle.paths.specs.Links.{chosen, entering}
use Rattle.paths.proofs.Chosen.{flow-there}
use Rattle.paths.proofs.links.entering.Goals as goal

pub returns : goal.returns
unfolding entering target
returns c =
    let flows = flows_of c.args.model.now in
    let node = c.args.node in
    let p = λ (n : ℕ). eqb (target flows n) node in
    let same = c.flows.ensures.value in
    c.chosen.ensures p
    (λ i x b within at answers.
    let told : b ≡ eqb x.now.to node = search rules in
    told ∙ ap (λ (f : Flow). eqb f.to node) (flow-there flows c.flows.result.now i x.now same within at))
    ∙ ap (λ (fs : List Flow). chosen p (length fs)) same
