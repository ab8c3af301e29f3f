use Rattle.std.proofs.Common.{◌≡◌, ℕ, Ok, Err, Result, ap, subst, arith, length-take, w32, to_z, of_z}
use Rattle.std.proofs.lemmas.Int.{to_z-of_z}
use Rattle.fault.specs.declared.service.ServiceFault.{ServiceFault}
use Rattle.process.specs.Rows.{items}
use Rattle.service.specs.declared.answer.Answer.{Answer}
use Rattle.service.specs.declared.pile.Pile.{Pile}
use Rattle.service.specs.Answers.{answer}
use Rattle.service.specs.Piles.{waits_in, waits_on}
use Rattle.service.specs.Waits.{Put}
use Rattle.service.proofs.Entries.{waiting-entries}
use Rattle.service.proofs.tray.Tray.put.Goals as goal

-- what happens to the pile happens to the tray
put_on : (p p' : Pile 64) (n : ℕ) (a : Answer) (r : Result (Unit {0}) ServiceFault) → Put waits_in p n a r p' → Put waits_on (record { pile = p }) n a r (record { pile = p' })
put_on p p' n a (Ok u) h = h
put_on p p' n a (Err fault) h = ap (λ x. record { pile = x }) h

pub returns-clause-after : goal.returns-clause-after
returns-clause-after c =
    let old = c.args.self.now.pile in
    let new = c.put.new.self in
    let same : to_z w32 (of_z w32 c.args.value) ≡ c.args.value = to_z-of_z w32 c.args.value c.ranges.value in
    put_on old new c.args.node (answer c.args.value) c.put.result (subst (λ z. Put waits_in old c.args.node (answer z) c.put.result new) same c.put.ensures.after)

pub returns-clause-few : goal.returns-clause-few
returns-clause-few c =
    let new = c.put.new.self in
    omega (arith, waiting-entries (items new.entries) new.sound, length-take new.entries.count new.entries.memory, new.entries.fits)
