-- That a list has no place twice can be shown in one way only.
use Rattle.std.specs.Prelude.{List, [], ◌∷◌}
use Rattle.std.specs.Coded.{×_prop, →_prop, Unit-prop}
use mathlib.Core.HLevel.{⊥_prop}
use Rattle.graph.specs.Reach.{Distinct}

pub Distinct-prop : {P : Type 0} (ps : List P) → IsProp (Distinct ps)
Distinct-prop [] = Unit-prop
Distinct-prop (p ∷ ps) = ×_prop (→_prop ⊥_prop) (Distinct-prop ps)
