-- The items of a list over fixed memory.
use Rattle.std.specs.Prelude.{ℕ, List, take}
use Rattle.process.specs.declared.row.Row.{Row}

abbrev pub items : {X : Type 0} {n : ℕ} → Row X n → List X
items r = take r.count r.memory
