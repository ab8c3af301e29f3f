-- What waits in a pile, and in a tray.
use Rattle.std.specs.Prelude.{ℕ}
use Rattle.process.specs.Rows.{items}
use Rattle.service.specs.declared.pile.Pile.{Pile}
use Rattle.service.specs.declared.tray.Tray.{Tray}
use Rattle.service.specs.Entries.{answers_for}
use Rattle.service.specs.Waits.{Waits}

abbrev pub waits_in : {most : ℕ} → Pile most → Waits
waits_in p = answers_for (items p.entries)

abbrev pub waits_on : Tray → Waits
waits_on t = waits_in t.pile
