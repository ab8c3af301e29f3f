use Rattle.marking.proofs.marking.Marking.change.Goals as goal

pub invariant_of-self : goal.invariant_of-self
invariant_of-self c = record { right = ∣ c.recount-holding.ensures ∣₁ }
