use Rattle.std.proofs.Common.{not, rules, tests, ap, ◌+◌, ◌∙◌}
use Rattle.std.proofs.lemmas.Iterator.{YieldsList-from_slice}
use Rattle.std.proofs.lemmas.Iterator.Consumers.{count_from_yields_List}
use Rattle.std.proofs.lemmas.Iterator.Search.{YieldsList-from_take_while}
use Rattle.std.proofs.lemmas.List.Folds.{length-prefix_len}
use Rattle.model.specs.Rules.{is_start}
use Rattle.model.proofs.Chains.{start_of-before}
use Rattle.model.proofs.reached.start_of.Goals as goal

pub returns : goal.returns
returns c =
    let ks = c.args.nodes.now in
    let e = count_from_yields_List c.take_while.result c.count.result c.count.ensures.ran
    (YieldsList-from_take_while _ (λ k. not (is_start k)) (YieldsList-from_slice ks cc) c.take_while.ensures.closure c.take_while.ensures.done (λ x b q k. search (rules, tests))) in
    ap (λ n. n + 1) (e ∙ length-prefix_len (λ k. not (is_start k)) ks) ∙ start_of-before ks
