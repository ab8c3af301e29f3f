-- Every call has one answer: of the reasons to refuse a step, to stop a run or to tell no reason, no two apply at once.
use Rattle.std.specs.Prelude.{◌≡◌, ℕ}
use Rattle.fault.specs.declared.count.CountFault.{CountFault}
use Rattle.service.specs.Waits.{Waits}
use Rattle.engine.specs.declared.counts.Begun.{Begun}
use Rattle.engine.specs.declared.run.Stop.{Stop}
use Rattle.engine.specs.Questions.{NoReason}
use Rattle.engine.specs.Runs.{CanGo, GoesOn, Stops}
use Rattle.engine.specs.Steps.{Room, Refuses}

pub record OneVerdict : Type 0 where
  -- a step is refused with one fault, and not at all where the node can go and the journal has room
  pub one_fault : (b : Begun) (places : ℕ) (waits : Waits) (n : ℕ) (fault other : CountFault) → Refuses b places waits n fault → Refuses b places waits n other → fault ≡ other
  pub no_fault : (b : Begun) (places : ℕ) (waits : Waits) (n : ℕ) (fault : CountFault) → CanGo b waits n → Room b places → Refuses b places waits n fault → ⊥
  -- a run stops for one reason or goes on with one node, and not both
  pub one_stop : (b : Begun) (places : ℕ) (waits : Waits) (budget k : ℕ) (stop other : Stop) → Stops b places waits budget k stop → Stops b places waits budget k other → stop ≡ other
  pub one_node : (b : Begun) (places : ℕ) (waits : Waits) (budget k n m : ℕ) → GoesOn b places waits budget k n → GoesOn b places waits budget k m → n ≡ m
  pub no_stop : (b : Begun) (places : ℕ) (waits : Waits) (budget k n : ℕ) (stop : Stop) → GoesOn b places waits budget k n → Stops b places waits budget k stop → ⊥
  -- that there is no reason to tell is told by one fault
  pub one_refusal : (b : Begun) (n : ℕ) (fault other : CountFault) → NoReason b n fault → NoReason b n other → fault ≡ other
