use Rattle.std.proofs.Common.{◌≡◌, ◌+◌, ◌≤◌, eqb, length, take, ap, ◌∙◌, rules, arith}
use Rattle.std.specs.List.{list_any}
use Rattle.std.proofs.lemmas.Bool.{and_parts}
use Rattle.process.specs.Drafts.{nodes_of, flows_of}
use Rattle.process.specs.Processes.{is_number, kinds_in_range, flows_formed}
use Rattle.fault.specs.declared.model.ModelFault.TheVariants.{NotReached}
use Rattle.model.specs.Sound.{start_of, member}
use Rattle.model.proofs.Reaching.{searched-few, reached-verdict, member-any}
use Rattle.model.proofs.reached.check_reached.Goals as goal

pub unreachable-requires : goal.unreachable-requires
unreachable-requires c =
    let d = c.args.draft.now in
    let nodes = nodes_of d in
    let flows = flows_of d in
    let formed = (and_parts (kinds_in_range nodes) (flows_formed nodes flows) (and_parts (is_number d.number) _ d.formed).1).1 in
    let few : length nodes ≤ 40 = omega (arith, ap length c.nodes-nodes.ensures.value, c.nodes-nodes.ensures.few) in
    searched-few nodes flows formed c.requires _ _ _ c.flows-flows.ensures.value (c.start_of-start.ensures ∙ ap start_of c.nodes-nodes.ensures.value) few c.in_default.ensures.1

pub returns : goal.returns
returns c =
    let d = c.args.draft.now in
    let number = c.in-Ok.number in
    let reached = take number c.reach.new.found in
    let told = c.check.ensures (member reached) NotReached (λ i x r lt is p. let e : r ≡ list_any (λ y. eqb y (i + 1)) reached = search rules in e ∙ member-any reached (i + 1)) (λ i f lt p. search rules) in
    reached-verdict (nodes_of d) (flows_of d) _ _ _ _ c.flows-flows.ensures.value (c.start_of-start.ensures ∙ ap start_of c.nodes-nodes.ensures.value) (ap length c.nodes-nodes.ensures.value) c.in-Ok.ensures.reached c.check.result told
