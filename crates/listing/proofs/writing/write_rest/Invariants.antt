use Rattle.std.proofs.Common.{take}
use Rattle.listing.specs.Lines.{after_commas}
use Rattle.listing.specs.Writing.{Wrote}
use Rattle.listing.proofs.writing.write_rest.Given as goal

abbrev pub invariant-loop-flow : goal.invariant-loop-flow
invariant-loop-flow l = Wrote l.initial.out l.place (after_commas (take l.flow-index l.flows)) l.out l.end
