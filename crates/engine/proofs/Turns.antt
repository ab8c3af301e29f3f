-- The lowest node that can go, found one node after another.
use Rattle.std.proofs.Common.{◌≡◌, ℕ, ◌+◌, ◌<◌, ◌≤◌, true, false, leb, ◌⊎◌, length, sym, refl, ap, ◌∙◌, subst, inl, inr, ⊎_elim, arith}
use Rattle.std.proofs.lemmas.Bool.{and_parts, and_from, leb-true, le-leb, cases_eq}
use Rattle.fault.specs.declared.count.CountFault.{CountFault}
use Rattle.process.specs.declared.sets.FlowSet.{FlowSet}
use Rattle.process.specs.Sets.{is_none}
use Rattle.process.proofs.Membership.{some_in}
use Rattle.service.specs.Waits.{Waits}
use Rattle.engine.specs.declared.counts.Begun.{Begun}
use Rattle.engine.specs.declared.movement.Movement.{Movement}
use Rattle.engine.specs.declared.run.Stop.{Stop}
use Rattle.engine.specs.declared.run.Stop.TheVariants as stops
use Rattle.engine.specs.Counts.{nodes_of, tokens_of, has_node, IsReady}
use Rattle.engine.specs.Runs.{CanGo, LowestToGo, SomeToken, SomeReady, Idle, Stops}
use Rattle.engine.specs.Runs.Idle.{rests, waits_on}
use Rattle.engine.specs.Runs.Stops.{resting, held}
use Rattle.engine.specs.Steps.{Hinders, Clear}
use Rattle.engine.specs.Steps.Hinders.{unanswered, no_way, occupied}

-- what hinders a node keeps it from going
pub hinders-blocks : {b : Begun} {waits : Waits} {n : ℕ} {fault : CountFault} → Hinders b waits n fault → CanGo b waits n → ⊥
hinders-blocks (unanswered u) g = g.answered u
hinders-blocks (no_way u w) g = g.passes.way w
hinders-blocks (occupied {f} u w o l) g = g.passes.clear f o

-- none of the nodes below a number can go, and `stop` tells whether one of them is ready
pub record Looked (b : Begun) (waits : Waits) (next : ℕ) (stop : Stop) : Type 0 where
  pub none : (k : ℕ) → k < next → CanGo b waits k → ⊥
  pub told : ((stop ≡ stops.Resting) × ((k : ℕ) → k < next → has_node b k ≡ true → IsReady b k → ⊥)) ⊎ ((stop ≡ stops.Held) × SomeReady b)

module _ (b : Begun) (waits : Waits) where
  node-range : (k : ℕ) → has_node b k ≡ true → (1 ≤ k) × (k ≤ length (nodes_of b))
  node-range k h = let p = and_parts (leb 1 k) (leb k (length (nodes_of b))) h in (leb-true 1 k p.0, leb-true k (length (nodes_of b)) p.1)

  node-here : (n : ℕ) → 1 ≤ n → n ≤ length (nodes_of b) → has_node b n ≡ true
  node-here n low high = and_from _ _ (le-leb 1 n low) (le-leb n (length (nodes_of b)) high)

  pub looked-none : Looked b waits 1 stops.Resting
  looked-none = record {
    none = λ k l g. let r = node-range k g.passes.node in omega (arith, r.0, l);
    told = inl (refl, λ k l n r. let x = node-range k n in omega (arith, x.0, l));
  }

  module _ (n : ℕ) (stop : Stop) (low : 1 ≤ n) (high : n ≤ length (nodes_of b)) (looked : Looked b waits n stop) where
    -- one more: what does not hold below n, and not at n, does not hold below n + 1
    one_more : (P : ℕ → Type 0) → ((k : ℕ) → k < n → P k → ⊥) → (P n → ⊥) → (k : ℕ) → k < n + 1 → P k → ⊥
    one_more P below here k l p = ⊎_elim (λ e. here (subst P e p)) (λ ne. below k (omega (arith, l, ne)) p) (cases_eq k n)

    pub looked-hindered : (fault : CountFault) → IsReady b n → Hinders b waits n fault → Looked b waits (n + 1) stops.Held
    looked-hindered fault ready h = record {
      none = one_more (CanGo b waits) looked.none (hinders-blocks h);
      told = inr (refl, (n, node-here n low high, ready));
    }

    pub looked-unready : (IsReady b n → ⊥) → Looked b waits (n + 1) stop
    looked-unready no-ready = record {
      none = one_more (CanGo b waits) looked.none (λ g. no-ready g.passes.ready);
      told = ⊎_elim (λ r. inl (r.0, λ k l m x. one_more (λ m. (has_node b m ≡ true) × IsReady b m) (λ m lm y. r.1 m lm y.0 y.1) (λ y. no-ready y.1) k l (m, x))) inr looked.told;
    }

    pub looked-found : (m : Movement) → IsReady b n → Clear b waits n m → LowestToGo b waits n
    looked-found m ready clear = record {
      goes = record { passes = record { node = node-here n low high; ready = ready; way = clear.way; clear = clear.free }; answered = clear.answered };
      lowest = looked.none;
    }

  pub looked-all : (n : ℕ) (stop : Stop) → length (nodes_of b) < n → Looked b waits n stop → Idle b waits stop
  looked-all n stop past looked =
      ⊎_elim
      (λ r. subst (Idle b waits) (sym r.0) (rests (λ k m x. r.1 k (omega (arith, (node-range k m).1, past)) m x)))
      (λ r. subst (Idle b waits) (sym r.0) (waits_on r.1 (λ k g. looked.none k (omega (arith, (node-range k g.passes.node).1, past)) g)))
      looked.told

-- a set of tokens that is not empty has one
pub token-there : (b : Begun) (s : FlowSet) → s ≡ tokens_of b → is_none s ≡ false → SomeToken b
token-there b s e z = some_in (tokens_of b) (ap is_none (sym e) ∙ z)

-- where no node can go although a token is there, a run stops as resting or as held
pub idle-stops : (b : Begun) (places : ℕ) (waits : Waits) (budget k : ℕ) → SomeToken b → {stop : Stop} → Idle b waits stop → Stops b places waits budget k stop
idle-stops b places waits budget k token (rests none) = resting token none
idle-stops b places waits budget k token (waits_on some none) = held token some none
