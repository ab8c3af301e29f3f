-- What a draft keeps of its sizes, and of the nodes that its flows join.
use Rattle.std.proofs.Common.{◌≡◌, ℕ, zero, suc, ◌<◌, ◌≤◌, true, ◌&&◌, leb, List, [], ◌∷◌, length, get_or, le_of_suc-le-suc, not-suc-le-zero, arith}
use Rattle.std.proofs.lemmas.List.{length-take-le}
use Rattle.std.proofs.lemmas.Bool.{and_parts, leb-true}
use Rattle.process.specs.declared.draft.Draft.{Draft}
use Rattle.process.specs.declared.flow.Flow.{Flow}
use Rattle.process.specs.declared.node.Kind.{Kind}
use Rattle.process.specs.declared.row.Row.{Row}
use Rattle.process.specs.Drafts.{nodes_of, flows_of}
use Rattle.process.specs.Processes.{is_number, is_node, guard_in_range, flow_formed, kinds_in_range, flows_formed}
use Rattle.process.specs.Rows.{items}

items-few : {X : Type 0} {n : ℕ} (r : Row X n) → length (items r) ≤ n
items-few r = let e = length-take-le r.count r.memory (omega (arith, r.fits, r.whole)) in omega (arith, e, r.fits)

pub few_nodes : (d : Draft) → length (nodes_of d) ≤ 40
few_nodes d = items-few d.nodes

pub few_flows : (d : Draft) → length (flows_of d) ≤ 64
few_flows d = items-few d.flows

-- the nodes that a flow leaves and enters are there
formed-at : (nodes : List Kind) (fs : List Flow) (k : ℕ) (d : Flow) → flows_formed nodes fs ≡ true → k < length fs → flow_formed nodes (get_or fs k d) ≡ true
formed-at nodes [] k d h l = absurd (not-suc-le-zero l)
formed-at nodes (f ∷ fs) zero d h l = (and_parts (flow_formed nodes f) (flows_formed nodes fs) h).0
formed-at nodes (f ∷ fs) (suc k) d h l = formed-at nodes fs k d (and_parts (flow_formed nodes f) (flows_formed nodes fs) h).1 (le_of_suc-le-suc l)

node-parts : (nodes : List Kind) (n : ℕ) → is_node nodes n ≡ true → (1 ≤ n) × (n ≤ length nodes)
node-parts nodes n h = let p = and_parts (leb 1 n) (leb n (length nodes)) h in (leb-true 1 n p.0, leb-true n (length nodes) p.1)

pub joined-nodes : (d : Draft) (k : ℕ) (f : Flow) → k < length (flows_of d) → let flow = get_or (flows_of d) k f in ((1 ≤ flow.from) × (flow.from ≤ 40)) × ((1 ≤ flow.to) × (flow.to ≤ 40))
joined-nodes d k f l =
    let nodes = nodes_of d in
    let flow = get_or (flows_of d) k f in
    let formed = (and_parts (kinds_in_range nodes) (flows_formed nodes (flows_of d)) (and_parts (is_number d.number) (kinds_in_range nodes && flows_formed nodes (flows_of d)) d.formed).1).1 in
    let p = and_parts (is_node nodes flow.from) (is_node nodes flow.to && guard_in_range flow.guard) (formed-at nodes (flows_of d) k f formed l) in
    let q = and_parts (is_node nodes flow.to) (guard_in_range flow.guard) p.1 in
    let from = node-parts nodes flow.from p.0 in
    let to = node-parts nodes flow.to q.0 in
    let few = few_nodes d in
    ((from.0, omega (arith, from.1)), (to.0, omega (arith, to.1)))
