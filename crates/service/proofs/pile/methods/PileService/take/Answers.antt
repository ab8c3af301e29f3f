use Rattle.std.proofs.Common.{◌≡◌, ◌==◌, Some, None, Err, Option, sym, ap, ◌∙◌}
use Rattle.std.specs.List.{position}
use Rattle.std.specs.Option.{ok_or}
use Rattle.std.proofs.lemmas.Result.{err_from_is_err_and}
use Rattle.fault.specs.declared.service.ServiceFault.{ServiceFault}
use Rattle.fault.specs.declared.service.ServiceFault.TheVariants.{NoAnswer}
use Rattle.process.specs.Rows.{items}
use Rattle.service.specs.Entries.{all_sound}
use Rattle.service.specs.Waits.{oldest}
use Rattle.service.proofs.Entries.{taken_out, sound-removed, placed, not_placed}
use Rattle.service.proofs.pile.methods.PileService.take.Goals as goal

-- the fault that stands in for a missing value
same-fault : {X : Type 0} (o : Option X) (f g : ServiceFault) → Err f ≡ ok_or o g → o ≡ None → f ≡ g
same-fault None f g e none = cc
same-fault (Some x) f g e none = cc

pub returns-in_err-place-clause-reply : goal.returns-in_err-place-clause-reply
returns-in_err-place-clause-reply g c =
    let n = c.args.node in
    let e = c.in_err-place.ensures in
    let p = err_from_is_err_and c.from_residual.result c.from_residual.ensures.1 in
    let none = not_placed (items c.args.self.now.entries) n (sym e.ok_part ∙ c.place_for.ensures ∙ ap (position (λ e. e.node == n)) c.as_slice.ensures.value) in
    p.1 ∙ ap Err (p.2 ∙ same-fault c.place_for.result _ _ e.value e.ok_part) ∙ sym (ap (λ l. oldest l n) none)

pub invariant_of-self : goal.invariant_of-self
invariant_of-self g c =
    let p = c.args.self.now in
    record { sound = ap all_sound c.remove.ensures.after ∙ sound-removed (items p.entries) c.in_ok-place.place p.sound }

pub returns-in_err-entry : goal.returns-in_err-entry
returns-in_err-entry g c =
    let es = items c.args.self.now.entries in
    let n = c.args.node in
    let i = c.in_ok-place.place in
    let e = c.in_err-entry.ensures in
    let p = err_from_is_err_and c.from_residual-in_err-entry.result c.from_residual-in_err-entry.ensures.1 in
    let at = placed es n i (sym c.in_ok-place.ensures.ok_part ∙ c.place_for.ensures ∙ ap (position (λ e. e.node == n)) c.as_slice.ensures.value) in
    let out = taken_out es (items c.remove.new.self) n i None at (sym e.ok_part ∙ c.remove.ensures.told) c.remove.ensures.after in
    let told : c.from_residual-in_err-entry.result ≡ Err (NoAnswer n) = p.1 ∙ ap Err (p.2 ∙ same-fault c.remove.result _ _ e.value e.ok_part) in
    rw told (record { reply = out.reply; after = out.after })

pub returns : goal.returns
returns g c =
    let es = items c.args.self.now.entries in
    let n = c.args.node in
    let i = c.in_ok-place.place in
    let at = placed es n i (sym c.in_ok-place.ensures.ok_part ∙ c.place_for.ensures ∙ ap (position (λ e. e.node == n)) c.as_slice.ensures.value) in
    let out = taken_out es (items c.remove.new.self) n i (Some c.in_ok-entry.entry) at (sym c.in_ok-entry.ensures.ok_part ∙ c.remove.ensures.told) c.remove.ensures.after in
    record { reply = out.reply; after = out.after }
