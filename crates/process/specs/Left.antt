-- The flows that are still to come when one goes over a set.
use Rattle.std.specs.Prelude.{ℕ, List}
use Rattle.process.specs.declared.sets.Flows.{Flows}
use Rattle.process.specs.Sets.{above}

abbrev pub left : Flows → List ℕ
left f = above f.rest 0
