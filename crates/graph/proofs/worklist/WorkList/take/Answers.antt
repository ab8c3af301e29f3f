use Rattle.std.proofs.Common.{◌≡◌, ◌<◌, length, sym, ap, ◌∙◌, arith}
use Rattle.graph.specs.Ring.{ring}
use Rattle.graph.proofs.Rings.{take-first, wrapped}
use Rattle.graph.proofs.worklist.WorkList.take.Goals as goal
use Rattle.graph.proofs.worklist.WorkList.take.Goals.{then-self, else-self}

pub returns-clause-cases : goal.returns-clause-cases
returns-clause-cases g c =
    let w = c.args.self.now in
    let m = w.memory.now in
    let d = c.index-self-at.result in
    let at = c.if-self.at in
    let some : 0 < w.waiting = omega arith in
    let inside : at < length m = elim c.if-self.branch [ then-self v ↦ omega (arith, v.at-is) | else-self v ↦ omega (arith, v.at-is) ] in
    let start : ring m w.first w.waiting ≡ ring m at w.waiting =
    elim c.if-self.branch [
      | then-self v ↦ ap (λ i. ring m i w.waiting) (sym v.at-is)
      | else-self v ↦ let end : w.first ≡ length m = omega (arith, v.if-self.false, w.inside.0) in
          wrapped m w.first w.waiting end ∙ ap (λ i. ring m i w.waiting) (sym v.at-is)
    ] in
    start ∙ take-first m at w.waiting d inside some w.inside.1
