use Rattle.std.proofs.Common.{ℕ, List, sym, ap, ◌∙◌, ◌++◌}
use Rattle.graph.specs.Ring.{entries}
use Rattle.process.specs.Left.{left}
use Rattle.process.specs.Sets.{above}
use Rattle.process.proofs.Ordered.{above-few}
use Rattle.marking.proofs.Pairs.{pairs, lined-more}
use Rattle.marking.proofs.recount.line_up.Goals as goal

pub loop-flow-preserved : goal.loop-flow-preserved
loop-flow-preserved c =
    let g = c.args.gateway in
    let waiting = entries c.loop-flow.work in
    let s = c.args.tokens in (
      lined-more g c.in-Some.flow (left c.next.new.self) (above s 0) (above-few s) c.loop-flow.work
          (ap (λ (fs : List ℕ). waiting ++ pairs g fs) (sym c.in-Some.ensures.steps) ∙ c.loop-flow.invariant.0) c.put.new.self c.put.result c.loop-flow.invariant.1 c.put.ensures.cases,
      c.put.ensures.places ∙ c.loop-flow.invariant.1,
    )
