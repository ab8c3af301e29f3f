-- What waits in a pile is in range, and for nodes 1 to 40: the two laws of every service, for the tray and the order file.
use Rattle.std.specs.Prelude.{ℕ, ◌<◌, ◌≤◌, length}
use Rattle.process.specs.Rows.{items}
use Rattle.service.specs.declared.pile.Pile.{Pile}
use Rattle.service.specs.EntriesLemmas.{sound-ranged, sound-numbered}
use Rattle.service.specs.Piles.{waits_in}
use Rattle.service.specs.Waits.{Ranged}

pub ranged-in : {most : ℕ} (p : Pile most) (n : ℕ) → Ranged (waits_in p n)
ranged-in p n = sound-ranged (items p.entries) n p.sound

pub numbered-in : {most : ℕ} (p : Pile most) (n : ℕ) → 0 < length (waits_in p n) → (1 ≤ n) × (n ≤ 40)
numbered-in p n some = sound-numbered (items p.entries) n p.sound some
