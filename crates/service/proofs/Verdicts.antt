-- Whether an answer may be put.
use Rattle.std.proofs.Common.{◌≡◌, ℕ, ◌<◌, ◌≤◌, true, not, leb, Ok, Err, sym, ◌∙◌}
use Rattle.std.proofs.lemmas.Bool.{cond-false, cond-true, le-leb, lt-leb, not_from_true}
use Rattle.fault.specs.declared.service.ServiceFault.TheVariants.{NodeNumber, Value, Full}
use Rattle.process.specs.Processes.{is_node_number}
use Rattle.service.specs.declared.answer.Answer.{Answer}
use Rattle.service.specs.Answers.{in_range}
use Rattle.service.specs.Waits.{Waits, waiting_in_all, put_verdict}

module _ (most : ℕ) (waits : Waits) (n : ℕ) (a : Answer) (node : true ≡ is_node_number n) (range : true ≡ in_range a) where
  pub verdict-full : most ≤ waiting_in_all waits → Err (Full n) ≡ put_verdict most waits n a
  verdict-full full =
      sym
      (cond-false (not (is_node_number n)) (Err (NodeNumber n)) _ (not_from_true _ (sym node))
      ∙ cond-false (not (in_range a)) (Err Value) _ (not_from_true _ (sym range))
      ∙ cond-true (leb most (waiting_in_all waits)) (Err (Full n)) (Ok tt) (le-leb most (waiting_in_all waits) full))

  pub verdict-room : waiting_in_all waits < most → Ok tt ≡ put_verdict most waits n a
  verdict-room room =
      sym
      (cond-false (not (is_node_number n)) (Err (NodeNumber n)) _ (not_from_true _ (sym node))
      ∙ cond-false (not (in_range a)) (Err Value) _ (not_from_true _ (sym range))
      ∙ cond-false (leb most (waiting_in_all waits)) (Err (Full n)) (Ok tt) (lt-leb most (waiting_in_all waits) room))
