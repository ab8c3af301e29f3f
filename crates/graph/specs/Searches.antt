-- Steps of the search's proof. Nothing here is part of what the search promises: its private functions say by these records what they do.
-- Throughout, the first `count` of `found` are the places found so far, and `queue` those of them whose neighbours were not looked at yet.
use Rattle.std.specs.Prelude.{◌≡◌, ℕ, ◌+◌, ◌≤◌, ◌⊎◌, List, ◌++◌, length, take, slice_index_or}
use Rattle.graph.specs.Reach.{Holds, Distinct, Reached}
use Rattle.graph.specs.Ring.{entries}
use Rattle.graph.specs.declared.search.Search.{Search}

-- A place can be added: what was found fits, no place was found twice, and no more places wait than were found.
pub record Ready {P : Type 0} (limit : ℕ) (found : List P) (count : ℕ) (queue : List P) : Type 0 where
  pub fits : limit ≤ length found
  pub within : count ≤ limit
  pub waits : length queue ≤ count
  pub distinct : Distinct (take count found)

-- Those of the `asked` places that were not found yet are added once each, to the places found and to the queue.
pub record Added {P : Type 0} (limit : ℕ) (asked : List P) (found : List P) (count : ℕ) (queue : List P) (found' : List P) (count' : ℕ) (queue' : List P) : Type 0 where
  pub new : List P
  pub front : take count' found' ≡ take count found ++ new
  pub number : count' ≡ count + length new
  pub long : length found' ≡ length found
  pub rest : (k : ℕ) (d : P) → count' ≤ k → slice_index_or found' k d ≡ slice_index_or found k d
  pub behind : queue' ≡ queue ++ new
  pub distinct : Distinct (take count found ++ new)
  pub only : (p : P) → Holds new p → Holds asked p
  pub all : (p : P) → Holds asked p → Holds (take count found ++ new) p
  pub within : count' ≤ limit

-- The `asked` places cannot all be added: some of them and the places found so far are one more than the limit.
pub record Overflows {P : Type 0} (limit : ℕ) (asked : List P) (found : List P) (count : ℕ) : Type 0 where
  pub new : List P
  pub number : count + length new ≡ limit + 1
  pub distinct : Distinct (take count found ++ new)
  pub only : (p : P) → Holds new p → Holds asked p

-- A search under way, over what `found` held `before`: each place found can be reached, each place to start from was found,
-- and so was each place next to a place that no longer waits. Behind the places found, `found` is as before.
pub record Searching {P : Type 0} (next : P → List P) (from : List P) (limit : ℕ) (before found : List P) (count : ℕ) (queue : List P) : Type 0 where
  pub ready : Ready limit found count queue
  pub sound : (p : P) → Holds (take count found) p → Reached next from p
  pub queued : (p : P) → Holds queue p → Reached next from p
  pub starts : (p : P) → Holds from p → Holds (take count found) p
  pub closed : (p : P) → Holds (take count found) p → Holds queue p ⊎ ((q : P) → Holds (next p) q → Holds (take count found) q)
  pub long : length found ≡ length before
  pub rest : (k : ℕ) (d : P) → count ≤ k → slice_index_or found k d ≡ slice_index_or before k d

-- the asked places were added: the search `t` is what `s` became, over the same memory
abbrev pub Grown : {P : Type 0} → List P → Search P → Search P → Type 0
Grown asked s t = Added s.limit asked s.found.now s.count (entries s.waiting.now) t.found.now t.count (entries t.waiting.now) × (t.limit ≡ s.limit)

-- they cannot all be added
abbrev pub Overfull : {P : Type 0} → List P → Search P → Type 0
Overfull asked s = Overflows s.limit asked s.found.now s.count
