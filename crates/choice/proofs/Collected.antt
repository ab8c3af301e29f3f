-- The set of the flows that leave a node and pass a test, collected flow by flow.
use Rattle.std.proofs.Common.{◌≡◌, ℕ, ◌+◌, ◌<◌, ◌≤◌, Bool, true, false, ◌||◌, eqb, List, get_or, sym, refl, ap, ◌∙◌, subst, ⊎_elim, add-one, arith}
use Rattle.std.proofs.lemmas.Bool.{eqb-true, eq-eqb, ne_eqb, cases_eq, cases_Bool, both_ways, or_cases, or_right}
use Rattle.process.specs.declared.flow.Flow.{Flow}
use Rattle.process.specs.declared.flow.Guard.{Guard}
use Rattle.process.specs.declared.sets.FlowSet.{FlowSet}
use Rattle.process.specs.Sets.{has, no_flows, just, joined}
use Rattle.process.proofs.Membership.{has-no_flows, has_one, has-joined}
use Rattle.model.specs.Rules.{flow_at, no_flow}
use Rattle.paths.specs.Paths.{source}
use Rattle.paths.proofs.Chosen.{source-at}

-- Of the flows 1 to i, the set s has only such as leave the node, and of each of these the test told whether s has it.
pub record Tested (flows : List Flow) (node : ℕ) (Told : Guard → Bool → Type 0) (i : ℕ) (s : FlowSet) : Type 0 where
  pub leave : (f : ℕ) → has s f ≡ true → (1 ≤ f) × (f ≤ i) × (source flows f ≡ node)
  pub told : (f : ℕ) → 1 ≤ f → f ≤ i → source flows f ≡ node → Told (flow_at flows f).guard (has s f)

-- no flow was looked at
pub tested-none : (flows : List Flow) (node : ℕ) (Told : Guard → Bool → Type 0) (s : FlowSet) → s ≡ no_flows → Tested flows node Told 0 s
tested-none flows node Told s e = record { leave = λ f h. absurd (both_ways _ (ap (λ (t : FlowSet). has t f) e ∙ has-no_flows f) h); told = λ f low high. absurd (omega arith) }

module _ (flows : List Flow) (node : ℕ) (Told : Guard → Bool → Type 0) (i : ℕ) (s : FlowSet) (old : Tested flows node Told i s) where
  -- the guard of the flow at place i
  guard-at : (flow_at flows (i + 1)).guard ≡ (get_or flows i no_flow).guard
  guard-at = ap (λ (n : ℕ). (flow_at flows n).guard) (add-one i)

  -- the set has not the next flow yet
  not-yet : has s (i + 1) ≡ false
  not-yet = ⊎_elim (λ t. let p = old.leave (i + 1) t in absurd (omega (arith, p.1))) (λ z. z) (cases_Bool (has s (i + 1)))

  -- the set with the next flow
  member : i < 64 → (f : ℕ) → has (joined s (just (i + 1))) f ≡ (has s f || eqb f (i + 1))
  member few f = has-joined s (just (i + 1)) f ∙ ap (λ (b : Bool). has s f || b) (has_one (i + 1) f (omega arith) (omega arith))

  or-none : (b : Bool) → (b || false) ≡ b
  or-none true = refl
  or-none false = refl

  others : i < 64 → (f : ℕ) → (f ≡ i + 1 → ⊥) → has (joined s (just (i + 1))) f ≡ has s f
  others few f ne = member few f ∙ ap (λ (b : Bool). has s f || b) (ne_eqb f (i + 1) ne) ∙ or-none (has s f)

  -- the next flow leaves the node and passes
  pub tested-take : i < 64 → (get_or flows i no_flow).from ≡ node → Told (get_or flows i no_flow).guard true → Tested flows node Told (i + 1) (joined s (just (i + 1)))
  tested-take few from passes =
      record {
        leave = λ f h.
            ⊎_elim (λ was. let p = old.leave f was in (p.0, omega (arith, p.1), p.2))
            (λ q. let same = eqb-true f (i + 1) q in (omega arith, omega arith, ap (source flows) same ∙ source-at flows i ∙ from))
            (or_cases (has s f) (eqb f (i + 1)) (sym (member few f) ∙ h));
        told = λ f low high leaves.
            ⊎_elim
            (λ same.
            let here : has (joined s (just (i + 1))) f ≡ true = member few f ∙ or_right _ _ (eq-eqb f (i + 1) same) in
            let guard : (flow_at flows f).guard ≡ (get_or flows i no_flow).guard = ap (λ (n : ℕ). (flow_at flows n).guard) same ∙ guard-at in
            subst (λ (b : Bool). Told (flow_at flows f).guard b) (sym here) (subst (λ (g : Guard). Told g true) (sym guard) passes))
            (λ ne. subst (λ (b : Bool). Told (flow_at flows f).guard b) (sym (others few f ne)) (old.told f low (omega arith) leaves))
            (cases_eq f (i + 1));
      }

  -- the next flow leaves another node
  pub tested-elsewhere : ((get_or flows i no_flow).from ≡ node → ⊥) → Tested flows node Told (i + 1) s
  tested-elsewhere other =
      record {
        leave = λ f h. let p = old.leave f h in (p.0, omega (arith, p.1), p.2);
        told = λ f low high leaves.
            ⊎_elim (λ same. absurd (other (sym (source-at flows i) ∙ ap (source flows) (sym same) ∙ leaves))) (λ ne. old.told f low (omega arith) leaves) (cases_eq f (i + 1));
      }

  -- the next flow leaves the node and does not pass
  pub tested-fails : Told (get_or flows i no_flow).guard false → Tested flows node Told (i + 1) s
  tested-fails fails =
      record {
        leave = λ f h. let p = old.leave f h in (p.0, omega (arith, p.1), p.2);
        told = λ f low high leaves.
            ⊎_elim
            (λ same.
            let none : has s f ≡ false = ap (has s) same ∙ not-yet in
            let guard : (flow_at flows f).guard ≡ (get_or flows i no_flow).guard = ap (λ (n : ℕ). (flow_at flows n).guard) same ∙ guard-at in
            subst (λ (b : Bool). Told (flow_at flows f).guard b) (sym none) (subst (λ (g : Guard). Told g false) (sym guard) fails))
            (λ ne. old.told f low (omega arith) leaves) (cases_eq f (i + 1));
      }
