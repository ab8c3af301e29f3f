-- The path rule of inclusive gateways. Flow n stands at place n - 1 of the list of flows.
use Rattle.std.specs.Prelude.{◌≡◌, ℕ, suc, ◌<◌, ◌≤◌, true, false, ◌⊎◌, List, [], ◌∷◌, length, ◌≢◌}
use Rattle.process.specs.declared.flow.Flow.{Flow}
use Rattle.process.specs.declared.sets.FlowSet.{FlowSet}
use Rattle.process.specs.Sets.{has}
use Rattle.model.specs.Rules.{flow_at}

-- the node that flow n leaves, and the node that it enters
unfoldable pub source : List Flow → ℕ → ℕ
source flows n = (flow_at flows n).from

unfoldable pub target : List Flow → ℕ → ℕ
target flows n = (flow_at flows n).to

abbrev pub IsFlow : List Flow → ℕ → Type 0
IsFlow flows n = (1 ≤ n) × (n ≤ length flows)

-- flow e is an inbound flow of the node g
abbrev pub Inbound : List Flow → ℕ → ℕ → Type 0
Inbound flows g e = IsFlow flows e × (target flows e ≡ g)

-- flow f is an outgoing flow of the node g
abbrev pub Outgoing : List Flow → ℕ → ℕ → Type 0
Outgoing flows g f = IsFlow flows f × (source flows f ≡ g)

-- IsPath flows f e p: the list p of flows is a path from f that ends in e.
-- The flow f stands first, and each next flow leaves the node that the one before enters.
pub data IsPath (flows : List Flow) : ℕ → ℕ → List ℕ → Type 0 where
  alone : {f : ℕ} → IsFlow flows f → IsPath flows f f (f ∷ [])
  then : {f n e : ℕ} {p : List ℕ} → IsFlow flows f → target flows f ≡ source flows n → IsPath flows n e p → IsPath flows f e (f ∷ p)

-- None of the flows of p but the last enters g.
abbrev pub Avoids : List Flow → ℕ → List ℕ → Type 0
Avoids flows g [] = Unit {0}
Avoids flows g (f ∷ []) = Unit {0}
Avoids flows g (f ∷ e ∷ p) = (target flows f ≢ g) × Avoids flows g (e ∷ p)

-- Some path from f that avoids g ends in e.
abbrev pub Reaches : List Flow → ℕ → ℕ → ℕ → Type 0
Reaches flows g f e = (p : List ℕ) × IsPath flows f e p × Avoids flows g p

-- The flow f, which carries a token, holds g back.
pub record HoldsBack (flows : List Flow) (tokens : FlowSet) (g f : ℕ) : Type 0 where
  pub carries : has tokens f ≡ true
  pub empty_end : (e : ℕ) × Inbound flows g e × (has tokens e ≡ false) × Reaches flows g f e
  pub no_token_end : (e : ℕ) → Inbound flows g e → has tokens e ≡ true → Reaches flows g f e → ⊥

-- At least one inbound flow of g carries a token.
abbrev pub TokenInbound : List Flow → FlowSet → ℕ → Type 0
TokenInbound flows tokens g = (e : ℕ) × Inbound flows g e × (has tokens e ≡ true)

pub record PathRule (flows : List Flow) (tokens : FlowSet) (g : ℕ) : Type 0 where
  pub some_token : TokenInbound flows tokens g
  pub none_holds : (f : ℕ) → HoldsBack flows tokens g f → ⊥

-- NumberOf P n r: P holds of exactly r of the numbers 1 to n.
pub data NumberOf (P : ℕ → Type 0) : ℕ → ℕ → Type 0 where
  none : NumberOf P 0 0
  one_more : {n r : ℕ} → P (suc n) → NumberOf P n r → NumberOf P (suc n) (suc r)
  no_more : {n r : ℕ} → (P (suc n) → ⊥) → NumberOf P n r → NumberOf P (suc n) r

-- Exactly r flows hold g back.
abbrev pub HoldingNumber : List Flow → FlowSet → ℕ → ℕ → Type 0
HoldingNumber flows tokens g r = NumberOf (HoldsBack flows tokens g) (length flows) r

abbrev pub Among : ℕ → List ℕ → Type 0
Among n [] = ⊥
Among n (m ∷ p) = (n ≡ m) ⊎ Among n p

abbrev pub NoFlowTwice : List ℕ → Type 0
NoFlowTwice [] = Unit {0}
NoFlowTwice (n ∷ p) = (Among n p → ⊥) × NoFlowTwice p

-- The list p is a path from f to e that avoids g and has no flow twice.
pub record Route (flows : List Flow) (g f e : ℕ) (p : List ℕ) : Type 0 where
  pub path : IsPath flows f e p
  pub avoids : Avoids flows g p
  pub once : NoFlowTwice p

-- Why g waits: f is the lowest flow that holds g back, e the lowest empty inbound flow of g that f reaches,
-- and p a path from f to e that avoids g and has no flow twice.
pub record Why (flows : List Flow) (tokens : FlowSet) (g f e : ℕ) (p : List ℕ) : Type 0 where
  pub holder : HoldsBack flows tokens g f
  pub lowest_holder : (k : ℕ) → k < f → HoldsBack flows tokens g k → ⊥
  pub inbound : Inbound flows g e
  pub empty : has tokens e ≡ false
  pub route : Route flows g f e p
  pub lowest_end : (k : ℕ) → k < e → Inbound flows g k → has tokens k ≡ false → Reaches flows g f k → ⊥
