use Rattle.std.proofs.Common.{◌^◌, ◌<◌, eqb, cond, arith, rules, tests}
use Rattle.std.specs.List.{count_by}
use Rattle.std.proofs.lemmas.Iterator.{YieldsList-from_slice, YieldsList-from_map}
use Rattle.std.proofs.lemmas.Iterator.Consumers.{sum_by_from_yields_List, fits_by_from_yields_list}
use Rattle.std.proofs.lemmas.List.Sums.{count_by-le-length}
use Rattle.service.proofs.waiting.count_for.Goals as goal

pub sum-requires-clause-fits : goal.sum-requires-clause-fits
sum-requires-clause-fits c =
    let es = c.args.entries.now in
    let few : count_by (λ e. eqb e.node c.args.node) es < 2 ^ 64 = omega (arith, count_by-le-length (λ e. eqb e.node c.args.node) es) in
    fits_by_from_yields_list (λ e. cond (eqb e.node c.args.node) 1 0) es c.map.result (2 ^ 64) (YieldsList-from_map _ (λ e. cond (eqb e.node c.args.node) 1 0) (YieldsList-from_slice es cc) c.map.ensures.closure (λ x r q k. search (rules, tests))) few

pub returns : goal.returns
returns c =
    sum_by_from_yields_List (λ e. cond (eqb e.node c.args.node) 1 0) c.args.entries.now c.map.result c.sum.result c.sum.ensures.ran
    (YieldsList-from_map _ (λ e. cond (eqb e.node c.args.node) 1 0) (YieldsList-from_slice c.args.entries.now cc) c.map.ensures.closure (λ x r q k. search (rules, tests)))
