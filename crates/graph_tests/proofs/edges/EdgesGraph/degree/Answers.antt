use Rattle.std.proofs.Common.{◌≡◌, eqb, length, filter, sym, ap, ◌∙◌, rules, tests}
use Rattle.std.proofs.lemmas.Iterator.{YieldsList-from_slice}
use Rattle.std.proofs.lemmas.Iterator.Consumers.{count_from_yields_List, YieldsList-from_filter}
use Rattle.std.proofs.lemmas.List.{length-map}
use Rattle.graph_tests.proofs.Targets.{targets-map}
use Rattle.graph_tests.proofs.edges.EdgesGraph.degree.Goals as goal

pub returns : goal.returns
returns c =
    let es = c.args.self.now.edges.now in
    let p = c.args.place in
    let left = filter (λ e. eqb e.0 p) es in
    let n : c.count.result ≡ length left = count_from_yields_List c.filter.result c.count.result c.count.ensures.ran
    (YieldsList-from_filter _ (λ e. eqb e.0 p) (YieldsList-from_slice es cc) c.filter.ensures.closure (λ x b q k. search (rules, tests))) in
    n ∙ sym (length-map left (λ e. e.1)) ∙ ap length (sym (targets-map es p))
