use Rattle.std.proofs.Common.{ℕ, List, take, Decides, sym, ap, ◌∙◌, subst}
use Rattle.std.proofs.lemmas.Bool.{both_ways}
use Rattle.process.specs.declared.flow.Flow.{Flow}
use Rattle.process.specs.declared.sets.FlowSet.{FlowSet}
use Rattle.process.specs.Sets.{has}
use Rattle.process.proofs.Membership.{has-no_flows}
use Rattle.model.specs.Models.{flows_of}
use Rattle.paths.specs.Paths.{target, Reaches}
use Rattle.process.specs.Numbered.{numbered}
use Rattle.paths.proofs.Backwards.{searched-few, found-decides}
use Rattle.paths.proofs.Chosen.{numbered-flow, numbered-none}
use Rattle.paths.proofs.Nodes.{flows-few}
use Rattle.paths.proofs.Walks.{reached-flow}
use Rattle.paths.proofs.reach.sources.Goals as goal

pub returns-in_default : goal.returns-in_default
returns-in_default c =
    let flows = flows_of c.args.model.now in
    let end = c.args.end in
    let told = sym c.in_default.is ∙ (c.numbered.ensures ∙ ap (numbered c.flows.result.now) c.from.ensures) ∙ ap (λ (fs : List Flow). numbered fs end) c.flows.ensures.value in
    λ f. (
      λ h. absurd (both_ways _ (has-no_flows f) (ap (λ (s : FlowSet). has s f) (sym c.empty.ensures) ∙ h)),
      λ r. absurd ((numbered-none flows end told).0 (reached-flow flows (target flows end) f end r)),
    )

pub unreachable-requires : goal.unreachable-requires
unreachable-requires c =
    let m = c.args.model.now in
    let told = sym c.in-Some.is ∙ (c.numbered.ensures ∙ ap (numbered c.flows.result.now) c.from.ensures) ∙ ap (λ (fs : List Flow). numbered fs c.args.end) c.flows.ensures.value in
    searched-few (flows_of m) (flows-few m) c.in-Some.flow.to c.args.end (numbered-flow (flows_of m) c.args.end c.in-Some.flow told).0 c.in_default-reach.ensures.1

pub returns : goal.returns
unfolding target
returns c =
    let m = c.args.model.now in
    let flows = flows_of m in
    let end = c.args.end in
    let gateway = c.in-Some.flow.to in
    let there = numbered-flow flows end c.in-Some.flow (sym c.in-Some.is ∙ (c.numbered.ensures ∙ ap (numbered c.flows.result.now) c.from.ensures) ∙ ap (λ (fs : List Flow). numbered fs end) c.flows.ensures.value) in
    λ f.
    subst (λ (g : ℕ). Decides (has c.of.result f) (Reaches flows g f end)) (sym (ap (λ (x : Flow). x.to) there.1))
    (found-decides flows (flows-few m) gateway end there.0 (take c.in-Ok.number c.reach.new.found) c.of.result c.in-Ok.ensures.reached c.of.ensures f)
