use Rattle.std.proofs.Common.{◌≡◌, ◌∙◌, sym, ap, eqb, filter, rules, tests}
use Rattle.std.specs.List.{slice_get}
use Rattle.std.specs.Option.{option_map}
use Rattle.std.proofs.lemmas.Iterator.{YieldsList-from_slice}
use Rattle.std.proofs.lemmas.Iterator.Consumers.{nth_from_yields_List, YieldsList-from_filter}
use Rattle.std.proofs.lemmas.Option.{slice_get-map}
use Rattle.graph_tests.proofs.Targets.{targets-map}
use Rattle.graph_tests.proofs.edges.EdgesGraph.neighbour.Goals as goal

pub returns : goal.returns
returns c =
    let es = c.args.self.now.edges.now in
    let p = c.args.place in
    let left = filter (λ e. eqb e.0 p) es in
    let e = nth_from_yields_List c.nth.result c.nth.new.self c.args.index c.nth.ensures.ran
    (YieldsList-from_filter _ (λ e. eqb e.0 p) (YieldsList-from_slice es cc) c.filter.ensures.closure (λ x b q k. search (rules, tests))) in
    let m : c.map.result ≡ option_map (λ e. e.1) (slice_get left c.args.index) = search rules in
    m ∙ sym (slice_get-map (λ e. e.1) left c.args.index) ∙ ap (λ ps. slice_get ps c.args.index) (sym (targets-map es p))
