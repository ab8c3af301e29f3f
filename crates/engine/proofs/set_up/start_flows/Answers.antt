use Rattle.std.proofs.Common.{◌≡◌, ℕ, ◌+◌, ◌≤◌, List, length, true, false, sym, ap, ◌∙◌, subst, arith, rules}
use Rattle.process.specs.declared.flow.Flow.{Flow}
use Rattle.model.specs.Models.{nodes_of, flows_of}
use Rattle.model.specs.Rules.{kind_at, is_start}
use Rattle.paths.specs.Links.{chosen}
use Rattle.paths.specs.Paths.{source}
use Rattle.paths.proofs.Chosen.{chosen_none, chosen-take, chosen-skip, source-at}
use Rattle.engine.proofs.Starts.{from_start, start-decides}
use Rattle.engine.proofs.set_up.start_flows.Goals as goal
use Rattle.engine.proofs.set_up.start_flows.Goals.{then-eq, else-eq}

pub loop-place-init : goal.loop-place-init
loop-place-init c = c.empty-found.ensures ∙ chosen_none (from_start (nodes_of c.args.model.now) (flows_of c.args.model.now))

pub loop-place-preserved : goal.loop-place-preserved
loop-place-preserved c =
    let m = c.args.model.now in
    let nodes = nodes_of m in
    let items = c.flows-flow-items in
    let i = c.loop-place.place in
    let p = from_start nodes (flows_of m) in
    let here : p (i + 1) ≡ is_start c.kind.result =
    ap (λ (fs : List Flow). is_start (kind_at nodes (source fs (i + 1)))) (sym items.ensures.value) ∙ ap (λ (n : ℕ). is_start (kind_at nodes n)) (source-at items.result.now i) ∙ ap is_start (sym c.kind.ensures) in
    elim c.if-eq.branch [
      | then-eq w ↦ let t : is_start c.kind.result ≡ true = search rules in w.found-is ∙ w.insert-found.ensures ∙ chosen-take p i c.loop-place.found (here ∙ t) c.loop-place.invariant
      | else-eq w ↦ let t : is_start c.kind.result ≡ false = search rules in w.found-is ∙ chosen-skip p i c.loop-place.found (here ∙ t) c.loop-place.invariant
    ]

pub returns : goal.returns
returns c =
    let m = c.args.model.now in
    let items = c.flows-flow-items in
    let all : c.loop-place.place ≡ length (flows_of m) = omega (arith, ap length items.ensures.value) in
    let few = subst (λ (fs : List Flow). length fs ≤ 64) items.ensures.value items.ensures.few in
    start-decides (nodes_of m) (flows_of m) few c.loop-place.found (c.loop-place.invariant ∙ ap (chosen (from_start (nodes_of m) (flows_of m))) all)
