use Rattle.std.proofs.Common.{◌≡◌, ℕ, eqb, List, length, ap, ◌∙◌, rules}
use Rattle.process.specs.declared.flow.Flow.{Flow}
use Rattle.model.specs.Models.{flows_of}
use Rattle.paths.specs.Paths.{source}
use Rattle.paths.specs.Links.{chosen, leaving}
use Rattle.paths.proofs.Chosen.{flow-there}
use Rattle.paths.proofs.links.leaving.Goals as goal

pub returns : goal.returns
unfolding leaving source
returns c =
    let flows = flows_of c.args.model.now in
    let node = c.args.node in
    let p = λ (n : ℕ). eqb (source flows n) node in
    let same = c.flows.ensures.value in
    c.chosen.ensures p
    (λ i x b within at answers.
    let told : b ≡ eqb x.now.from node = search rules in
    told ∙ ap (λ (f : Flow). eqb f.from node) (flow-there flows c.flows.result.now i x.now same within at))
    ∙ ap (λ (fs : List Flow). chosen p (length fs)) same
