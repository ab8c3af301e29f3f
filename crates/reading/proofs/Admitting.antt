-- A text is accepted exactly if it is the writing of a sound process.
use Rattle.std.proofs.Common.{◌≡◌, ℕ, List, is_ok, Ok, Err, Decides, Result, sym, refl, ap, ◌∙◌, subst, ⊎_elim}
use mathlib.Core.HLevel.{⊥_prop}
use mathlib.Core.Logic.{∥∥₁_elim, ∥∥₁_map}
use Rattle.std.proofs.lemmas.Bool.{false≢true}
use Rattle.fault.specs.declared.line.LineFault.{LineFault}
use Rattle.fault.specs.declared.model.ModelFault.{ModelFault}
use Rattle.fault.specs.declared.model.ModelFault.TheVariants.{Line}
use Rattle.model.specs.declared.model.Model.{Model}
use Rattle.model.specs.Models.{draft_of}
use Rattle.model.specs.Sound.{Sound, Unsound}
use Rattle.model.proofs.Judging.{unsound-not, the-fault}
use Rattle.reading.specs.Lines.{Process}
use Rattle.reading.specs.Readings.{process_of, Refused, TheFaultOf, ModelFilled, ModelRead, Admitted}
use Rattle.reading.proofs.Canonical.{describes, describes-nothing}
use Rattle.reading.proofs.Forms.{err-not-ok, ok_same}

-- a text has one fault
the-fault_of : (text : List ℕ) (fault : ModelFault) → Refused text fault → TheFaultOf text fault
the-fault_of text fault r = record {
  refused = r;
  only = λ other q. ⊎_elim
      (λ line. ⊎_elim
      (λ also. also.1 ∙ ap Line (same-err also.0 line.0 (sym also.2 ∙ line.2)) ∙ sym line.1)
      (λ sound. absurd (err-not-ok line.0 sound.0 (sym line.2 ∙ sound.1)))
      q)
      (λ unsound. ⊎_elim
      (λ line. absurd (err-not-ok line.0 unsound.0 (sym line.2 ∙ unsound.1)))
      (λ also.
      let same = ok_same also.0 unsound.0 (sym also.1 ∙ unsound.1) in
      (the-fault unsound.0.nodes unsound.0.flows fault unsound.2).only other (subst (λ (p : Process). Unsound p.nodes p.flows other) same also.2))
      q)
      r;
}
  where
    same-err : (f g : LineFault) → ◌≡◌ {A = Result Process LineFault} (Err f) (Err g) → f ≡ g
    same-err f g e = cc

pub model-read : (text : List ℕ) (old new : Model) (r : Result (Unit {0}) ModelFault) → ModelFilled text old r new → ModelRead text old r new
model-read text old new (Ok u) e = describes text (process_of (draft_of new)) e
model-read text old new (Err fault) e = (the-fault_of text fault e.0, e.1)

-- the process of a refused text is not sound
refused-not : (text : List ℕ) (fault : ModelFault) → Refused text fault → Admitted text → ⊥
refused-not text fault r a =
    let d = a.1 in
    ⊎_elim
    (λ line. describes-nothing text line.0 line.2 a.0 d.formed d.writing)
    (λ unsound.
    let s = describes text unsound.0 unsound.1 in
    let same = s.only a.0 d.formed d.writing in
    unsound-not unsound.0.nodes unsound.0.flows fault unsound.2 ∣ subst (λ (p : Process). Sound p.nodes p.flows) same a.2 ∣₁)
    r

pub model-exact : (text : List ℕ) (old new : Model) (r : Result (Unit {0}) ModelFault) → ModelFilled text old r new → Decides (is_ok r) (∥ Admitted text ∥₁)
model-exact text old new (Ok u) e =
    (λ t. ∥∥₁_map new.sound (λ s. (process_of (draft_of new), describes text (process_of (draft_of new)) e, s)), λ a. refl)
model-exact text old new (Err fault) e =
    (λ t. absurd (false≢true t), λ a. absurd (∥∥₁_elim a ⊥_prop (refused-not text fault e.0)))
