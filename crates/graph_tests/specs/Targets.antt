-- Where edges lead.
use Rattle.std.specs.Prelude.{ℕ, cond, List, [], ◌∷◌, ◌==◌}

-- where the edges that start at a place lead
abbrev pub targets : List (ℕ × ℕ) → ℕ → List ℕ
targets [] p = []
targets (e ∷ es) p = cond (e.0 == p) (e.1 ∷ targets es p) (targets es p)
