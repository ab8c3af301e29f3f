use Rattle.std.proofs.Common.{◌≡◌, ◌+◌, ◌<◌, [], ◌∷◌, ◌++◌, length, set, ap, ◌∙◌, arith}
use Rattle.graph.specs.Ring.{ring}
use Rattle.graph.proofs.Rings.{ring-length, put-behind, put-before}
use Rattle.graph.proofs.worklist.WorkList.put.Goals as goal
use Rattle.graph.proofs.worklist.WorkList.put.Goals.{then-self-behind, else-self-behind}

pub returns-clause-cases : goal.returns-clause-cases
returns-clause-cases g c =
    let w = c.args.self.now in
    let m = w.memory.now in
    let x = c.args.entry in
    let at = c.if-self-behind.at in
    let e = ring-length m w.first w.inside.0 w.waiting w.inside.1 in
    let free : w.waiting < length m = omega arith in
    let put : ring (set m at x) w.first (w.waiting + 1) ≡ ring m w.first w.waiting ++ x ∷ [] =
    elim c.if-self-behind.branch [
      | then-self-behind v ↦ ap (λ i. ring (set m i x) w.first (w.waiting + 1)) v.at-is ∙ put-behind m w.first w.inside.0 w.waiting x v.if-self-behind.true
      | else-self-behind v ↦ ap (λ i. ring (set m i x) w.first (w.waiting + 1)) v.at-is ∙ put-before m w.first w.inside.0 w.waiting x free v.if-self-behind.false
    ] in
    (omega (arith, e), put)
