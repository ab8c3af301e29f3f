use Rattle.std.proofs.Common.{◌≡◌, ◌+◌, ◌-◌, ◌≤◌, length}
use Rattle.graph.specs.Searches.{Searching}
use Rattle.graph.specs.Ring.{entries}
use Rattle.graph.proofs.search.explore.Given as goal

abbrev pub invariant-loop-place : goal.invariant-loop-place
invariant-loop-place g l =
    (l.search.found.ghost_name ≡ l.initial.search.found.ghost_name)
    × Searching (g.G.Graph.next l.graph) l.from l.limit l.initial.search.found.now l.search.found.now l.search.count (entries l.search.waiting.now)
    × (l.search.limit ≡ l.limit) × (l.initial.search.count ≤ l.search.count)

abbrev pub decreases-loop-place : goal.decreases-loop-place
decreases-loop-place g l = (l.limit + length (entries l.search.waiting.now)) - l.search.count
