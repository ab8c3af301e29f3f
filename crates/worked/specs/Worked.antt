-- Worked cases: what the rules say of two processes with certain tokens.
use Rattle.std.specs.Prelude.{◌≡◌, ℕ, List, [], ◌∷◌, pos}
use Rattle.fault.specs.declared.count.CountFault.TheVariants.{Occupied, NoToken}
use Rattle.process.specs.declared.flow.Flow.{Flow}
use Rattle.process.specs.declared.flow.Guard.{Guard}
use Rattle.process.specs.declared.flow.Guard.TheVariants.{Plain, Default, If}
use Rattle.process.specs.declared.flow.Operator.{Operator}
use Rattle.process.specs.declared.flow.Operator.TheVariants.{AtLeast, Greater}
use Rattle.process.specs.declared.node.Kind.{Kind}
use Rattle.process.specs.declared.node.Kind.TheVariants.{Start, End, Task, Exclusive, Inclusive}
use Rattle.process.specs.Sets.{these}
use Rattle.paths.specs.Paths.{IsPath, Avoids, HoldingNumber, Why}
use Rattle.service.specs.Waits.{Waits}
use Rattle.engine.specs.declared.counts.Begun.{Begun}
use Rattle.engine.specs.Counts.{nodes_of, flows_of, tokens_of, IsReady}
use Rattle.engine.specs.Questions.{NoReason}
use Rattle.engine.specs.Steps.{Room, Refuses}

abbrev pub flow : ℕ → ℕ → Guard → Flow
flow m n g = record { from = m; to = n; guard = g }

-- a condition on v1
abbrev pub v1 : Operator → ℕ → Guard
v1 op n = If (record { figure = 1; operator = op; value = pos n })

-- Node 3 splits three ways, and the inclusive gateway 6 joins them.
unfoldable pub nodes_7 : List Kind
nodes_7 = Start ∷ Task 1 ∷ Inclusive ∷ Task 2 ∷ Task 3 ∷ Inclusive ∷ End ∷ []

unfoldable pub flows_7 : List Flow
flows_7 = flow 1 2 Plain ∷ flow 2 3 Plain ∷ flow 3 4 (v1 AtLeast 1) ∷ flow 3 5 (v1 AtLeast 2) ∷ flow 3 6 Default ∷ flow 4 6 Plain ∷ flow 5 6 Plain ∷ flow 6 7 Plain ∷ []

-- A loop leads back to the inclusive gateway 2.
unfoldable pub nodes_8 : List Kind
nodes_8 = Start ∷ Inclusive ∷ Exclusive ∷ End ∷ []

unfoldable pub flows_8 : List Flow
flows_8 = flow 1 2 Plain ∷ flow 2 3 Plain ∷ flow 3 4 Default ∷ flow 3 2 (v1 Greater 0) ∷ []

-- b is a begun count of this process, with tokens on just these flows
pub record Stands (nodes : List Kind) (flows : List Flow) (on : List ℕ) (b : Begun) : Type 0 where
  pub nodes_are : nodes_of b ≡ nodes
  pub flows_are : flows_of b ≡ flows
  pub tokens_are : tokens_of b ≡ these on

-- r flows hold gateway n back
abbrev pub HeldBy : Begun → ℕ → ℕ → Type 0
HeldBy b n r = HoldingNumber (flows_of b) (tokens_of b) n r

-- gateway n waits for flow f, by a path to flow e
abbrev pub WaitsBy : Begun → ℕ → ℕ → ℕ → List ℕ → Type 0
WaitsBy b n f e p = Why (flows_of b) (tokens_of b) n f e p

pub record WorkedCases : Type 0 where
  -- process 7, gateway 6
  pub only_6 : (b : Begun) → Stands nodes_7 flows_7 (6 ∷ []) b → IsReady b 6
  pub at_4_6 : (b : Begun) → Stands nodes_7 flows_7 (4 ∷ 6 ∷ []) b → HeldBy b 6 1
  pub at_2_6 : (b : Begun) → Stands nodes_7 flows_7 (2 ∷ 6 ∷ []) b → IsReady b 6
  pub path_2_3_6 : IsPath flows_7 2 6 (2 ∷ 3 ∷ 6 ∷ []) × Avoids flows_7 6 (2 ∷ 3 ∷ 6 ∷ [])
  pub only_2 : (b : Begun) → Stands nodes_7 flows_7 (2 ∷ []) b → HeldBy b 6 1
  pub only_2_why : (b : Begun) → Stands nodes_7 flows_7 (2 ∷ []) b → NoReason b 6 (NoToken 6 b.instance)
  pub at_3_4_5 : (b : Begun) → Stands nodes_7 flows_7 (3 ∷ 4 ∷ 5 ∷ []) b → HeldBy b 6 2
  pub why_3_4_5 : (b : Begun) → Stands nodes_7 flows_7 (3 ∷ 4 ∷ 5 ∷ []) b → WaitsBy b 6 3 6 (3 ∷ 6 ∷ [])
  pub at_6_8 : (b : Begun) (places : ℕ) (waits : Waits) → Stands nodes_7 flows_7 (6 ∷ 8 ∷ []) b → Room b places → Refuses b places waits 6 (Occupied 8 b.instance)
  -- process 8, gateway 2
  pub loop_1 : (b : Begun) → Stands nodes_8 flows_8 (1 ∷ []) b → IsReady b 2
  pub loop_1_2 : (b : Begun) → Stands nodes_8 flows_8 (1 ∷ 2 ∷ []) b → HeldBy b 2 1
  pub why_1_2 : (b : Begun) → Stands nodes_8 flows_8 (1 ∷ 2 ∷ []) b → WaitsBy b 2 2 4 (2 ∷ 4 ∷ [])
