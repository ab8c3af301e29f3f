-- Walks: paths that avoid a gateway, without the list of their flows.
use Rattle.std.proofs.Common.{◌≡◌, ℕ, List, [], ◌∷◌}
use Rattle.process.specs.declared.flow.Flow.{Flow}
use Rattle.paths.specs.Paths.{source, target, IsFlow, IsPath, Avoids, Reaches}
use Rattle.paths.specs.Paths.IsPath.{alone, then}

module _ (flows : List Flow) (g : ℕ) where
  pub data Walk : ℕ → ℕ → Type 0 where
    stop : {f : ℕ} → IsFlow flows f → Walk f f
    go : {f n e : ℕ} → IsFlow flows f → (target flows f ≡ g → ⊥) → target flows f ≡ source flows n → Walk n e → Walk f e

  pub avoids-more : (f : ℕ) (p : List ℕ) → (target flows f ≡ g → ⊥) → Avoids flows g p → Avoids flows g (f ∷ p)
  avoids-more f [] a h = tt
  avoids-more f (e ∷ p) a h = (a, h)

  -- a walk has a list, and a path that avoids g is a walk
  pub listed : {f e : ℕ} → Walk f e → Reaches flows g f e
  listed (stop {f = f} i) = (f ∷ [], alone i, tt)
  listed (go {f = f} i a l w) = let r = listed w in (f ∷ r.0, then i l r.1, avoids-more f r.0 a r.2)

  pub walked : {f e : ℕ} {p : List ℕ} → IsPath flows f e p → Avoids flows g p → Walk f e
  walked (alone i) a = stop i
  walked (then i l (alone j)) a = go i a.0 l (stop j)
  walked (then i l (then j k q)) a = go i a.0 l (walked (then j k q) a.1)

  pub starts : {f e : ℕ} → Walk f e → IsFlow flows f
  starts (stop i) = i
  starts (go i a l w) = i

  -- a walk goes on at its end
  pub onward : {f n e : ℕ} → Walk f n → (target flows n ≡ g → ⊥) → target flows n ≡ source flows e → IsFlow flows e → Walk f e
  onward (stop i) a l j = go i a l (stop j)
  onward (go i b k w) a l j = go i b k (onward w a l j)

  -- who reaches a flow is a flow
  pub reaching-flow : (f e : ℕ) → Reaches flows g f e → IsFlow flows f
  reaching-flow f e r = starts (walked r.1 r.2)

  ends : {f e : ℕ} → Walk f e → IsFlow flows e
  ends (stop i) = i
  ends (go i a l w) = ends w

  -- and what is reached is one
  pub reached-flow : (f e : ℕ) → Reaches flows g f e → IsFlow flows e
  reached-flow f e r = ends (walked r.1 r.2)
