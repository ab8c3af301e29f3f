-- Whether a flow holds a gateway back can be decided. So numbers that are kept, and of which it is known only that they are right, say how many flows do.
use Rattle.std.proofs.Common.{◌≡◌, ℕ, ◌≤◌, Bool, true, false, List, length, Decides, sym, refl, subst, inl, inr, ⊎_elim, arith}
use mathlib.Core.Logic.{∥∥₁_elim, ∥∥₁_prop}
use native.Mathlib.Nat.{ℕ_set}
use Rattle.std.proofs.lemmas.Bool.{cases_Bool, cases_lt, both_ways}
use Rattle.process.specs.declared.flow.Flow.{Flow}
use Rattle.process.specs.declared.node.Kind.{Kind}
use Rattle.process.specs.declared.node.Kind.TheVariants as kinds
use Rattle.process.specs.declared.sets.FlowSet.{FlowSet}
use Rattle.process.specs.Sets.{has}
use Rattle.model.specs.Rules.{kind_at}
use Rattle.paths.specs.Paths.{Inbound, Reaches, HoldsBack, HoldingNumber}
use Rattle.paths.specs.Routings.{model_of}
use Rattle.paths.proofs.Chosen.{entering-decides}
use Rattle.paths.proofs.Distance.{level-decides}
use Rattle.paths.proofs.Nodes.{flows-few}
use Rattle.paths.proofs.Walks.{reaching-flow}
use Rattle.marking.specs.declared.marking.Marking.{Marking}
use Rattle.marking.specs.Markings.{routing_of, tokens_of, nodes_of, flows_of}
use Rattle.marking.specs.Kept.{CountedAs, Kept}
use Rattle.marking.proofs.Counting.{Decided, same_number, the_number, some_or_none}

-- what a test tells
tested : {P : Type 0} (b : Bool) → Decides b P → Decided P
tested b d = ⊎_elim (λ t. inl (d.0 t)) (λ t. inr (λ p. both_ways b t (d.1 p))) (cases_Bool b)

-- two tests agree or do not
same_test : (a b : Bool) → Decided (a ≡ b)
same_test true true = inl refl
same_test true false = inr (λ e. both_ways false refl (sym e))
same_test false true = inr (λ e. both_ways false refl e)
same_test false false = inl refl

module _ (flows : List Flow) (few : length flows ≤ 64) (tokens : FlowSet) (g : ℕ) where
  -- a path leads from f to e or none does
  reach-decided : (f e : ℕ) → Decided (Reaches flows g f e)
  reach-decided f e =
      ⊎_elim (λ below. ⊎_elim (λ over. inr (λ r. omega (arith, (reaching-flow flows g f e r).1))) (λ within. tested _ (level-decides flows few g f (below, within) e)) (cases_lt (length flows) f))
      (λ none. inr (λ r. omega (arith, (reaching-flow flows g f e r).0))) (cases_lt 0 f)

  -- e is an inbound flow that f reaches, with a token or without
  abbrev End : Bool → ℕ → ℕ → Type 0
  End b f e = Inbound flows g e × (has tokens e ≡ b) × Reaches flows g f e

  -- each flow is such an end or is not
  end-decided : (b : Bool) (f e : ℕ) → Decided (End b f e)
  end-decided b f e = both (tested _ (entering-decides flows few g e)) (same_test (has tokens e) b) (reach-decided f e)
    where
      both : Decided (Inbound flows g e) → Decided (has tokens e ≡ b) → Decided (Reaches flows g f e) → Decided (End b f e)
      both (inl i) (inl t) (inl r) = inl (i, t, r)
      both (inl i) (inl t) (inr ne) = inr (λ x. ne x.2)
      both (inl i) (inr ne) r = inr (λ x. ne x.1)
      both (inr ne) t r = inr (λ x. ne x.0)

  -- there is such an end or none
  some_end : (b : Bool) (f : ℕ) → Decided ((e : ℕ) × End b f e)
  some_end b f = ⊎_elim inl (λ none. inr (λ x. none x.0 x.1.0.0.0 x.1.0.0.1 x.1)) (some_or_none (End b f) (end-decided b f) (length flows))

  -- a flow holds the gateway back or does not
  holds-decided : (f : ℕ) → Decided (HoldsBack flows tokens g f)
  holds-decided f = by (same_test (has tokens f) true) (some_end false f) (some_end true f)
    where
      by : Decided (has tokens f ≡ true) → Decided ((e : ℕ) × End false f e) → Decided ((e : ℕ) × End true f e) → Decided (HoldsBack flows tokens g f)
      by (inr ne) x y = inr (λ h. ne h.carries)
      by (inl t) (inr none) y = inr (λ h. let x = h.empty_end in none (x.0, (x.1, x.2, x.3)))
      by (inl t) (inl x) (inl y) = inr (λ h. h.no_token_end y.0 y.1.0 y.1.1 y.1.2)
      by (inl t) (inl x) (inr none) = inl (record { carries = t; empty_end = (x.0, x.1.0, x.1.1, x.1.2); no_token_end = λ e i u r. none (e, (i, u, r)) })

  -- so a number that is known to be right is the right one
  number-known : (r : ℕ) → ∥ HoldingNumber flows tokens g r ∥₁ → HoldingNumber flows tokens g r
  number-known r right =
      let m = the_number (HoldsBack flows tokens g) holds-decided (length flows) in
      subst (HoldingNumber flows tokens g) (∥∥₁_elim right (ℕ_set m.0 r) (λ h. same_number m.1 h)) m.1

  -- the same of what is counted at any node
  counted-known : (k : Kind) (r : ℕ) → ∥ CountedAs k flows tokens g r ∥₁ → CountedAs k flows tokens g r
  counted-known kinds.Start r right = ∥∥₁_elim right (ℕ_set r 0) (λ e. e)
  counted-known kinds.End r right = ∥∥₁_elim right (ℕ_set r 0) (λ e. e)
  counted-known (kinds.Task x) r right = ∥∥₁_elim right (ℕ_set r 0) (λ e. e)
  counted-known kinds.Exclusive r right = ∥∥₁_elim right (ℕ_set r 0) (λ e. e)
  counted-known kinds.Parallel r right = ∥∥₁_elim right (ℕ_set r 0) (λ e. e)
  counted-known kinds.Inclusive r right = number-known r right

-- the same of the numbers of all nodes
kept-known : (nodes : List Kind) (flows : List Flow) → length flows ≤ 64 → (tokens : FlowSet) (numbers : List ℕ) → ∥ Kept nodes flows tokens numbers ∥₁ → Kept nodes flows tokens numbers
kept-known nodes flows few tokens numbers right n = counted-known flows few tokens n (kind_at nodes n) _ (∥∥₁_elim right ∥∥₁_prop (λ kept. ∣ kept n ∣₁))

-- what a marking holds is right
pub kept-right : (m : Marking) → Kept (nodes_of m) (flows_of m) (tokens_of m) m.holding
kept-right m = kept-known (nodes_of m) (flows_of m) (flows-few (model_of (routing_of m))) (tokens_of m) m.holding m.right
