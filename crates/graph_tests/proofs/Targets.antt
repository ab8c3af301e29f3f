-- Where the edges that start at a place lead, as a chain of iterators gives it.
use Rattle.std.proofs.Common.{◌≡◌, ℕ, true, false, cond, eqb, List, [], ◌∷◌, map, filter, refl, ap}
use Rattle.graph_tests.specs.Targets.{targets}

pub targets-map : (es : List (ℕ × ℕ)) (p : ℕ) → targets es p ≡ map (λ e. e.1) (filter (λ e. eqb e.0 p) es)
targets-map [] p = refl
targets-map (e ∷ es) p =
    elim (eqb e.0 p) as (λ b. cond b (e.1 ∷ targets es p) (targets es p) ≡ map (λ e'. e'.1) (cond b (e ∷ filter (λ e'. eqb e'.0 p) es) (filter (λ e'. eqb e'.0 p) es)))
    [ true ↦ ap (λ ps. e.1 ∷ ps) (targets-map es p) | false ↦ targets-map es p ]
