use Rattle.std.proofs.Common.{◌≡◌, drop}
use Rattle.process.specs.Sets.{joined, these}
use Rattle.process.proofs.sets.FlowSet.of.Given as goal

abbrev pub invariant-loop-flow : goal.invariant-loop-flow
invariant-loop-flow l = joined l.found (these (drop l.flow-index l.flows)) ≡ these l.flows
