use Rattle.std.proofs.Common.{◌≡◌, ◌∷◌, sym, ap, ◌∙◌, rules}
use Rattle.process.specs.Sets.{above}
use Rattle.process.proofs.Ordered.{above-some, above-taken}
use Rattle.process.proofs.sets.FlowsIterator.next.Goals as goal

pub returns-clause-steps : goal.returns-clause-steps
returns-clause-steps c =
    let s = c.args.self.now.rest in
    let f = c.in_ok-flow.flow in
    above-some s 0 f c.in_ok-flow.ensures ∙ ap (λ fs. f ∷ fs) (sym (ap (λ t. above t 0) c.remove-self.ensures ∙ above-taken s f c.in_ok-flow.ensures))

pub returns-clause-goes : goal.returns-clause-goes
returns-clause-goes c =
    let s = c.args.self.now.rest in
    let f = c.in_ok-flow.flow in
    let e : above s 0 ≡ f ∷ above c.remove-self.result 0 =
    above-some s 0 f c.in_ok-flow.ensures ∙ ap (λ fs. f ∷ fs) (sym (ap (λ t. above t 0) c.remove-self.ensures ∙ above-taken s f c.in_ok-flow.ensures)) in
    search rules
