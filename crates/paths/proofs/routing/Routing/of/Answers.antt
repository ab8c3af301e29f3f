use Rattle.std.proofs.Common.{◌≤◌, arith, rules}
use Rattle.paths.proofs.Nodes.{flows-few, entering-everywhere, leaving-everywhere}
use Rattle.paths.proofs.routing.Routing.of.Goals as goal

pub invariant_of-result : goal.invariant_of-result
invariant_of-result c =
    let m = c.args.model in
    let inbound = c.table-inbound in
    let outgoing = c.table-outgoing in
    record {
      right = ∣ record {
        reach = λ e f i. let high : e ≤ 64 = omega (arith, i.1, flows-few m) in let told = c.table-sources.ensures.value e i.0 high in search rules;
        enter = entering-everywhere m inbound.result inbound.ensures.long (λ n low high. let told = inbound.ensures.value n low high in search rules);
        leave = leaving-everywhere m outgoing.result outgoing.ensures.long (λ n low high. let told = outgoing.ensures.value n low high in search rules);
      } ∣₁;
    }
