-- Which flows enter and leave a node, and which may come right before a flow, as sets.
use Rattle.std.specs.Prelude.{◌≡◌, ℕ, zero, suc, ◌+◌, ◌<◌, Bool, cond, List, length, ◌==◌, ◌≢◌, nat_eq, slice_index_or}
use Rattle.std.specs.Borrow.{Bor}
use Rattle.process.specs.declared.flow.Flow.{Flow}
use Rattle.process.specs.declared.sets.FlowSet.{FlowSet}
use Rattle.process.specs.Sets.{no_flows, just, joined}
use Rattle.paths.specs.Paths.{source, target, IsFlow}

-- the flows from 1 to n that pass the test p
unfoldable pub chosen : (ℕ → Bool) → ℕ → FlowSet
chosen p zero = no_flows
chosen p (suc n) = let s : FlowSet = chosen p n in cond (p (suc n)) (joined s (just (suc n))) s

-- Where `answers` says what a test may answer of an item and its number, it answers p of the numbers of these items.
abbrev pub TestIs : {X : Type 0} → (Bor X → ℕ → Bool → Type 0) → List X → (ℕ → Bool) → Type 0
TestIs answers xs p = (i : ℕ) (x : _) (b : Bool) → i < length xs → x.now ≡ slice_index_or xs i x.now → answers x (i + 1) b → b ≡ p (i + 1)

-- the flows that enter the node g, and those that leave it
unfoldable pub entering : List Flow → ℕ → FlowSet
entering flows g = chosen (λ n. nat_eq (target flows n) g) (length flows)

unfoldable pub leaving : List Flow → ℕ → FlowSet
leaving flows g = chosen (λ n. nat_eq (source flows n) g) (length flows)

-- Flow m may come right before flow n on a path that avoids g.
abbrev pub Step : List Flow → ℕ → ℕ → ℕ → Type 0
Step flows g m n = IsFlow flows m × (target flows m ≢ g) × (target flows m ≡ source flows n)

-- the flows that may come right before flow n on a path that avoids g
unfoldable pub leaders : List Flow → ℕ → ℕ → FlowSet
leaders flows g n = cond (source flows n == g) no_flows (entering flows (source flows n))
