use Rattle.std.proofs.Common.{w32, SFits, rules}
use Rattle.std.proofs.lemmas.Int.{to_z-of_z}
use Rattle.history.specs.Histories.{Performed}
use Rattle.history.proofs.Performs.{as_call, rest-set-up}
use Rattle.history.proofs.attend.perform_set_up.Goals as goal

pub returns-in-Set : goal.returns-in-Set
returns-in-Set c = λ journal waits.
    let fits : SFits w32 c.in-Set.value = search rules in
    as_call c.in-Set.is (Performed.sets (simp to_z-of_z at c.«set-reply».ensures))

pub returns-in-Begin : goal.returns-in-Begin
returns-in-Begin c = λ journal waits. as_call c.in-Begin.is (Performed.begins c.begin.ensures)

pub returns-in_default : goal.returns-in_default
returns-in_default c = λ journal waits. Performed.passes_over (rest-set-up c.args.count c.args.call c.in_default.not-Set c.in_default.not-Begin)
