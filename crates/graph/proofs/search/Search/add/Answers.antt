use Rattle.std.proofs.Common.{◌<◌, length, refl, arith}
use Rattle.graph.specs.Ring.{entries, capacity}
use Rattle.graph.proofs.Adding.{added-old, added_new, overflows-one, ready-after}
use Rattle.graph.proofs.Holding.{no-from-false}
use Rattle.graph.proofs.Growing.{put-goes, ready-of}
use Rattle.graph.proofs.search.Search.add.Goals as goal

pub returns-then-has-clause-cases : goal.returns-then-has-clause-cases
returns-then-has-clause-cases g c = (added-old c.args.place (ready-of c.args.self.now) (c.has.ensures.0 c.if-has.true), refl)

pub returns-then-self-clause-cases : goal.returns-then-self-clause-cases
returns-then-self-clause-cases g c =
    (refl, overflows-one c.args.place (ready-of c.args.self.now) c.if-self.true (no-from-false c.has.ensures c.if-has.false))

pub invariant_of-self : goal.invariant_of-self
invariant_of-self g c =
    let s = c.args.self.now in
    let free : length (entries s.waiting.now) < capacity s.waiting.now = omega (arith, s.waits, s.room) in
    let put = put-goes s.waiting.now c.put.new.self c.args.place c.put.result c.put.ensures.cases free in
    let r = ready-after (ready-of s) (added_new c.args.place _ (ready-of s) c.if-self.false (no-from-false c.has.ensures c.if-has.false) put.1) in
    record { fits = r.fits; within = r.within; waits = r.waits; room = omega (arith, s.room, c.put.ensures.places); distinct = r.distinct }

pub returns-clause-cases : goal.returns-clause-cases
returns-clause-cases g c =
    let s = c.args.self.now in
    let free : length (entries s.waiting.now) < capacity s.waiting.now = omega (arith, s.waits, s.room) in
    let put = put-goes s.waiting.now c.put.new.self c.args.place c.put.result c.put.ensures.cases free in
    rw put.0 (added_new c.args.place _ (ready-of s) c.if-self.false (no-from-false c.has.ensures c.if-has.false) put.1, refl)
