-- Worked cases of the path rule.
use Rattle.std.specs.Prelude.{ℕ, List, [], ◌∷◌}
use Rattle.process.specs.declared.flow.Flow.{Flow}
use Rattle.process.specs.declared.flow.Guard.TheVariants.{Plain}
use Rattle.process.specs.Sets.{these}
use Rattle.paths.specs.Paths.{IsPath, Avoids, PathRule, HoldingNumber, Why}

-- No path depends on a guard, so these flows have none.
abbrev pub flow : ℕ → ℕ → Flow
flow m n = record { from = m; to = n; guard = Plain }

-- Node 3 splits three ways, and the inclusive gateway 6 joins them.
unfoldable pub process_7 : List Flow
process_7 = flow 1 2 ∷ flow 2 3 ∷ flow 3 4 ∷ flow 3 5 ∷ flow 3 6 ∷ flow 4 6 ∷ flow 5 6 ∷ flow 6 7 ∷ []

-- A loop leads back to the inclusive gateway 2.
unfoldable pub process_8 : List Flow
process_8 = flow 1 2 ∷ flow 2 3 ∷ flow 3 4 ∷ flow 3 2 ∷ []

pub record WorkedCases : Type 0 where
  pub only_6 : PathRule process_7 (these (6 ∷ [])) 6
  pub at_4_6 : HoldingNumber process_7 (these (4 ∷ 6 ∷ [])) 6 1
  pub at_2_6 : PathRule process_7 (these (2 ∷ 6 ∷ [])) 6
  pub path_2_3_6 : IsPath process_7 2 6 (2 ∷ 3 ∷ 6 ∷ []) × Avoids process_7 6 (2 ∷ 3 ∷ 6 ∷ [])
  pub only_2 : HoldingNumber process_7 (these (2 ∷ [])) 6 1
  pub at_3_4_5 : HoldingNumber process_7 (these (3 ∷ 4 ∷ 5 ∷ [])) 6 2
  pub why_3_4_5 : Why process_7 (these (3 ∷ 4 ∷ 5 ∷ [])) 6 3 6 (3 ∷ 6 ∷ [])
  pub loop_1 : PathRule process_8 (these (1 ∷ [])) 2
  pub loop_1_2 : HoldingNumber process_8 (these (1 ∷ 2 ∷ [])) 2 1
  pub why_1_2 : Why process_8 (these (1 ∷ 2 ∷ [])) 2 2 4 (2 ∷ 4 ∷ [])
