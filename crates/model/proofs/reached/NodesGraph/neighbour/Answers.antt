use Rattle.std.proofs.Common.{◌≡◌, ◌∙◌, sym, ap, eqb, filter, rules, tests}
use Rattle.std.specs.List.{slice_get}
use Rattle.std.specs.Option.{option_map}
use Rattle.std.proofs.lemmas.Iterator.{YieldsList-from_slice}
use Rattle.std.proofs.lemmas.Iterator.Consumers.{nth_from_yields_List, YieldsList-from_filter}
use Rattle.std.proofs.lemmas.Option.{slice_get-map}
use Rattle.model.proofs.Chains.{successors-map}
use Rattle.model.proofs.reached.NodesGraph.neighbour.Goals as goal

pub returns : goal.returns
returns c =
    let fs = c.args.self.now.flows.now in
    let left = filter (λ f. eqb f.from c.args.node) fs in
    let e = nth_from_yields_List c.nth.result c.nth.new.self c.args.index c.nth.ensures.ran
    (YieldsList-from_filter _ (λ f. eqb f.from c.args.node) (YieldsList-from_slice fs cc) c.filter.ensures.closure (λ x b q k. search (rules, tests))) in
    let m : c.map.result ≡ option_map (λ f. f.to) (slice_get left c.args.index) = search rules in
    m ∙ sym (slice_get-map (λ f. f.to) left c.args.index) ∙ ap (λ ns. slice_get ns c.args.index) (sym (successors-map fs c.args.node))
