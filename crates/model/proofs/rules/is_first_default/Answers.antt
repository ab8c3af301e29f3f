use Rattle.std.proofs.Common.{◌-◌, ◌&&◌, not, eqb, take, ap, ◌∙◌, rules, tests, arith}
use Rattle.std.proofs.lemmas.Iterator.{YieldsList-from_slice, YieldsList-from_take}
use Rattle.std.proofs.lemmas.Iterator.Search.{any_from_yields_List}
use Rattle.model.specs.Rules.{is_default}
use Rattle.model.proofs.Chains.{how_many-none}
use Rattle.model.proofs.rules.is_first_default.Goals as goal

pub returns : goal.returns
returns c =
    let fs = c.args.flows.now in
    let lower = c.args.flow - 1 in
    let e = any_from_yields_List (λ f. eqb f.from c.args.node && is_default f.guard) _ _ c.any.result c.any.ensures.ran (YieldsList-from_take lower (YieldsList-from_slice fs cc) (omega arith)) (λ x b q k. search (rules, tests)) in
    ap not e ∙ how_many-none (λ f. eqb f.from c.args.node && is_default f.guard) (take lower fs)
