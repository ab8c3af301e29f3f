use Rattle.std.proofs.Common.{◌^◌, ◌<◌, eqb, cond, sym, ◌∙◌, arith, rules, tests}
use Rattle.std.specs.List.{count_by}
use Rattle.std.proofs.lemmas.Iterator.{YieldsList-from_slice, YieldsList-from_map}
use Rattle.std.proofs.lemmas.Iterator.Consumers.{sum_by_from_yields_List, fits_by_from_yields_list}
use Rattle.std.proofs.lemmas.List.Sums.{count_by-le-length}
use Rattle.model.proofs.Chains.{how_many-count_by}
use Rattle.model.proofs.rules.outgoing.Goals as goal

pub sum-requires-clause-fits : goal.sum-requires-clause-fits
sum-requires-clause-fits c =
    let fs = c.args.flows.now in
    let few : count_by (λ f. eqb f.from c.args.node) fs < 2 ^ 64 = omega (arith, count_by-le-length (λ f. eqb f.from c.args.node) fs) in
    fits_by_from_yields_list (λ f. cond (eqb f.from c.args.node) 1 0) fs c.map.result (2 ^ 64) (YieldsList-from_map _ (λ f. cond (eqb f.from c.args.node) 1 0) (YieldsList-from_slice fs cc) c.map.ensures.closure (λ x r q k. search (rules, tests))) few

pub returns : goal.returns
returns c =
    let fs = c.args.flows.now in
    sum_by_from_yields_List (λ f. cond (eqb f.from c.args.node) 1 0) fs c.map.result c.sum.result c.sum.ensures.ran (YieldsList-from_map _ (λ f. cond (eqb f.from c.args.node) 1 0) (YieldsList-from_slice fs cc) c.map.ensures.closure (λ x r q k. search (rules, tests)))
    ∙ sym (how_many-count_by (λ f. eqb f.from c.args.node) fs)
