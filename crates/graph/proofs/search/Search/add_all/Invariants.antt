use Rattle.std.proofs.Common.{◌≡◌, ◌≤◌, length, take}
use Rattle.graph.specs.Ring.{capacity}
use Rattle.graph.specs.Searches.{Grown}
use Rattle.graph.proofs.search.Search.add_all.Given as goal

abbrev pub invariant-loop-place : goal.invariant-loop-place
invariant-loop-place g l =
    (l.self.found.ghost_name ≡ l.initial.self.found.ghost_name) × Grown (take l.place-index l.places) l.initial.self l.self × (l.place-index ≤ length l.places)
    × (capacity l.self.waiting.now ≡ capacity l.initial.self.waiting.now)
