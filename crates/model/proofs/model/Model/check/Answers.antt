use Rattle.std.proofs.Common.{◌≡◌, Ok, Err, sym, inl, inr}
use Rattle.std.proofs.lemmas.Result.{err_from_is_err_and}
use Rattle.std.proofs.lemmas.Bool.{false≢true}
use Rattle.process.specs.Drafts.{nodes_of, flows_of}
use Rattle.model.specs.Rules.{rules_check}
use Rattle.model.specs.Sound.{Unsound}
use Rattle.model.proofs.Judging.{rules-start, sound-made, unsound-not}
use Rattle.model.proofs.model.Model.check.Goals as goal

pub returns-in_err-check_rules-clause-exact : goal.returns-in_err-check_rules-clause-exact
returns-in_err-check_rules-clause-exact c =
    let p = err_from_is_err_and c.from_residual.result c.from_residual.ensures.1 in
    let d = c.args.process in
    let told : rules_check (nodes_of d) (flows_of d) ≡ Err c.in_err-check_rules.field-0.0 = sym c.in_err-check_rules.ensures in
    let bad : Unsound (nodes_of d) (flows_of d) c.in_err-check_rules.field-0.0 = inl told in
    rw p.1 (λ e. absurd (false≢true e), λ s. absurd (unsound-not (nodes_of d) (flows_of d) _ bad s))

pub check_reached-requires : goal.check_reached-requires
check_reached-requires c =
    let d = c.args.process in
    rules-start (nodes_of d) (flows_of d) (sym c.in_ok-check_rules.ensures)

pub returns-in_err-check_reached-clause-exact : goal.returns-in_err-check_reached-clause-exact
returns-in_err-check_reached-clause-exact c =
    let p = err_from_is_err_and c.from_residual-in_err-check_reached.result c.from_residual-in_err-check_reached.ensures.1 in
    let d = c.args.process in
    let told : rules_check (nodes_of d) (flows_of d) ≡ Ok tt = sym c.in_ok-check_rules.ensures in
    let bad : Unsound (nodes_of d) (flows_of d) c.in_err-check_reached.field-0.0 = inr (told, c.in_err-check_reached.ensures) in
    rw p.1 (λ e. absurd (false≢true e), λ s. absurd (unsound-not (nodes_of d) (flows_of d) _ bad s))

pub invariant_of-result : goal.invariant_of-result
invariant_of-result c =
    let d = c.args.process in
    let told : rules_check (nodes_of d) (flows_of d) ≡ Ok tt = sym c.in_ok-check_rules.ensures in
    record { sound = ∣ sound-made (nodes_of d) (flows_of d) told c.in_ok-check_reached.ensures ∣₁ }
