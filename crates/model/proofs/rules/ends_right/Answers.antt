use Rattle.std.proofs.Common.{◌≡◌, ◌∙◌, rules, tests}
use Rattle.std.specs.List.{count_by}
use Rattle.std.proofs.lemmas.Iterator.{YieldsList-from_slice}
use Rattle.std.proofs.lemmas.Iterator.Search.{any_from_yields_List}
use Rattle.model.specs.Rules.{is_start, is_end}
use Rattle.model.proofs.Chains.{how_many-count_by, how_many-any}
use Rattle.model.proofs.rules.ends_right.Goals as goal

pub returns-then-starts-eq1 : goal.returns-then-starts-eq1
returns-then-starts-eq1 c =
    let ns = c.args.nodes.now in
    let n : c.count-starts.result ≡ count_by is_start ns = search rules in
    let a = how_many-count_by is_start ns in
    let e = any_from_yields_List is_end _ _ c.any.result c.any.ensures.ran (YieldsList-from_slice ns cc) (λ x b q k. search (rules, tests)) in
    let some = e ∙ how_many-any is_end ns in
    search rules

pub returns-else-starts-eq1 : goal.returns-else-starts-eq1
returns-else-starts-eq1 c =
    let ns = c.args.nodes.now in
    let n : c.count-starts.result ≡ count_by is_start ns = search rules in
    let a = how_many-count_by is_start ns in
    search rules
