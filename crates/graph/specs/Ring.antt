-- What a work list holds.
use Rattle.std.specs.Prelude.{ℕ, List, ◌++◌, length, take, drop}
use Rattle.graph.specs.declared.worklist.WorkList.{WorkList}

-- `count` places of the memory, from `first` on, where its start comes after its end
abbrev pub ring : {X : Type 0} → List X → ℕ → ℕ → List X
ring memory first count = take count (drop first memory ++ take first memory)

-- the entries that wait, oldest first
abbrev pub entries : {X : Type 0} → WorkList X → List X
entries w = ring w.memory.now w.first w.waiting

-- how many entries can wait at once
abbrev pub capacity : {X : Type 0} → WorkList X → ℕ
capacity w = length w.memory.now
