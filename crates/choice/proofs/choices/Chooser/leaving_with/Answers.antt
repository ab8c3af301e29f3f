use Rattle.std.proofs.Common.{◌+◌, sym, ◌∙◌, subst, arith}
use Rattle.choice.proofs.Collected.{Tested, tested-none, tested-take, tested-elsewhere, tested-fails}
use Rattle.choice.proofs.choices.Chooser.leaving_with.Given as given
use Rattle.choice.proofs.choices.Chooser.leaving_with.Goals as goal
use Rattle.choice.proofs.choices.Chooser.leaving_with.Goals.{then-flow-self+then-test, else-flow-self, else-flow-self-via-then-flow-self+else-test, else-flow-self-via-else-flow-self}

pub loop-place-init : goal.loop-place-init
loop-place-init g c = tested-none c.args.self.now.flows.now c.args.self.now.node (given.F-post g c.args.test) c.empty-found.result c.empty-found.ensures

pub loop-place-preserved : goal.loop-place-preserved
loop-place-preserved g c =
    let flows = c.args.self.now.flows.now in
    let node = c.args.self.now.node in
    let i = c.loop-place.place in
    let told = given.F-post g c.args.test in
    let T = Tested flows node told (i + 1) in
    elim c.if-flow-self.branch [
      | then-flow-self+then-test w ↦
          subst T (sym (w.found-is ∙ w.insert-found.ensures))
          (tested-take flows node told i c.loop-place.found c.loop-place.invariant (omega (arith, c.args.self.now.few)) w.if-flow-self.true w.if-test.ensures)
      | else-flow-self w ↦
          subst T (sym w.found-is)
          (elim w.else-flow-self.branch [
            | else-flow-self-via-then-flow-self+else-test v ↦ tested-fails flows node told i c.loop-place.found c.loop-place.invariant v.if-test.ensures
            | else-flow-self-via-else-flow-self v ↦ tested-elsewhere flows node told i c.loop-place.found c.loop-place.invariant v.if-flow-self.false
          ])
    ]

pub returns-clause-leave : goal.returns-clause-leave
returns-clause-leave g c = λ f h. let p = c.loop-place.invariant.leave f h in ((p.0, omega (arith, p.1)), p.2)

pub returns-clause-tested : goal.returns-clause-tested
returns-clause-tested g c = λ f o. c.loop-place.invariant.told f o.0.0 (omega (arith, o.0.1)) o.1
