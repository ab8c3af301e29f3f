use Rattle.std.proofs.Common.{◌≡◌, take}
use Rattle.graph.specs.Ring.{capacity}
use Rattle.graph.specs.Searches.{Grown}
use Rattle.graph.proofs.search.Search.add_neighbours.Given as goal

abbrev pub invariant-loop-index : goal.invariant-loop-index
invariant-loop-index g l =
    (l.self.found.ghost_name ≡ l.initial.self.found.ghost_name) × Grown (take l.index (g.G.Graph.next l.graph l.place)) l.initial.self l.self
    × (capacity l.self.waiting.now ≡ capacity l.initial.self.waiting.now)
