use Rattle.marking.proofs.marking.Marking.of.Goals as goal

pub invariant_of-result : goal.invariant_of-result
invariant_of-result c = record { right = ∣ c.recount-holding.ensures ∣₁ }
