-- Sets of the flows that pass a test: the flows that enter or leave a node, and those that may come before a flow.
use Rattle.std.proofs.Common.{◌≡◌, ℕ, zero, suc, ◌+◌, ◌<◌, ◌≤◌, Bool, true, false, cond, eqb, List, Some, None, Option, length, get_or, Decides, sym, refl, ap, ◌∙◌, subst, ap₂, ⊎_elim, add-one, arith}
use Rattle.std.specs.Option.{unwrap_or}
use Rattle.std.proofs.lemmas.List.{get_or_read}
use Rattle.std.proofs.lemmas.Option.{get_or_from_slice_get, slice_get-get_or, slice_get_within, unwrap_or-slice_get}
use Rattle.std.proofs.lemmas.Bool.{eqb-true, eqb-false, eq-eqb, ne_eqb, cases_eq, both_ways, and_parts, or_cases, or_left, or_right}
use Rattle.process.specs.declared.flow.Flow.{Flow}
use Rattle.process.specs.declared.sets.FlowSet.{FlowSet}
use Rattle.process.specs.Sets.{in_range, has, no_flows, just, joined}
use Rattle.process.proofs.Membership.{has-no_flows, has-just, has_one, has-joined}
use Rattle.model.specs.Rules.{flow_at, no_flow}
use Rattle.paths.specs.Paths.{source, target, IsFlow, Inbound, Outgoing}
use Rattle.paths.specs.Links.{chosen, entering, leaving, Step, leaders}
use Rattle.process.specs.Numbered.{numbered}

-- ---- what was chosen

nothing-below : {X : Type 0} (e : ℕ) → 1 ≤ e → e ≤ 0 → X
nothing-below e h l = absurd (omega arith)

pub chosen-has : (p : ℕ → Bool) (n e : ℕ) → n ≤ 64 → 1 ≤ e → e ≤ n → p e ≡ true → has (chosen p n) e ≡ true
unfolding chosen
chosen-has p zero e few h l t = nothing-below e h l
chosen-has p (suc n) e few h l t = ⊎_elim here (λ ne. below (p (suc n)) (chosen-has p n e (omega arith) h (omega arith) t)) (cases_eq e (suc n))
  where
    last : has (joined (chosen p n) (just (suc n))) (suc n) ≡ true
    last = has-joined (chosen p n) (just (suc n)) (suc n) ∙ or_right _ _ (has_one (suc n) (suc n) (omega arith) few ∙ eq-eqb (suc n) (suc n) refl)

    here : e ≡ suc n → has (cond (p (suc n)) (joined (chosen p n) (just (suc n))) (chosen p n)) e ≡ true
    here q =
        let t' : p (suc n) ≡ true = ap p (sym q) ∙ t in
        ap₂ (λ (b : Bool) (x : ℕ). has (cond b (joined (chosen p n) (just (suc n))) (chosen p n)) x) t' q ∙ last

    below : (b : Bool) → has (chosen p n) e ≡ true → has (cond b (joined (chosen p n) (just (suc n))) (chosen p n)) e ≡ true
    below true q = has-joined (chosen p n) (just (suc n)) e ∙ or_left _ _ q
    below false q = q

pub has_chosen : (p : ℕ → Bool) (n e : ℕ) → has (chosen p n) e ≡ true → (1 ≤ e) × (e ≤ n) × (p e ≡ true)
unfolding chosen
has_chosen p zero e h = absurd (both_ways (has no_flows e) (has-no_flows e) h)
has_chosen p (suc n) e h = split (p (suc n)) refl (has_chosen p n e) h
  where
    old : ((1 ≤ e) × (e ≤ n) × (p e ≡ true)) → (1 ≤ e) × (e ≤ suc n) × (p e ≡ true)
    old q = (q.0, omega (arith, q.1), q.2)

    split : (b : Bool) → p (suc n) ≡ b → (has (chosen p n) e ≡ true → (1 ≤ e) × (e ≤ n) × (p e ≡ true))
        → has (cond b (joined (chosen p n) (just (suc n))) (chosen p n)) e ≡ true → (1 ≤ e) × (e ≤ suc n) × (p e ≡ true)
    split true t ih q =
        ⊎_elim (λ x. old (ih x))
        (λ x. let same = eqb-true e (suc n) (and_parts (in_range (suc n)) (eqb e (suc n)) (sym (has-just (suc n) e) ∙ x)).1 in (omega arith, omega arith, ap p same ∙ t))
        (or_cases (has (chosen p n) e) (has (just (suc n)) e) (sym (has-joined (chosen p n) (just (suc n)) e) ∙ q))
    split false t ih q = old (ih q)

-- ---- one turn of the loops that choose flows

pub chosen_none : (p : ℕ → Bool) → no_flows ≡ chosen p 0
unfolding chosen
chosen_none p = refl

pub chosen-take : (p : ℕ → Bool) (i : ℕ) (s : FlowSet) → p (i + 1) ≡ true → s ≡ chosen p i → joined s (just (i + 1)) ≡ chosen p (i + 1)
unfolding chosen
chosen-take p i s t e = subst (λ (n : ℕ). p n ≡ true → joined s (just n) ≡ chosen p n) (sym (add-one i)) at_suc t
  where
    at_suc : p (suc i) ≡ true → joined s (just (suc i)) ≡ chosen p (suc i)
    at_suc t = ap (λ (x : FlowSet). joined x (just (suc i))) e ∙ ap (λ (b : Bool). cond b (joined (chosen p i) (just (suc i))) (chosen p i)) (sym t)

pub chosen-skip : (p : ℕ → Bool) (i : ℕ) (s : FlowSet) → p (i + 1) ≡ false → s ≡ chosen p i → s ≡ chosen p (i + 1)
unfolding chosen
chosen-skip p i s t e = subst (λ (n : ℕ). p n ≡ false → s ≡ chosen p n) (sym (add-one i)) at_suc t
  where
    at_suc : p (suc i) ≡ false → s ≡ chosen p (suc i)
    at_suc t = e ∙ ap (λ (b : Bool). cond b (joined (chosen p i) (just (suc i))) (chosen p i)) (sym t)

-- ---- the flow of a number

pub flow-there : (flows fs : List Flow) (i : ℕ) (x : Flow) → fs ≡ flows → i < length fs → x ≡ get_or fs i x → x ≡ flow_at flows (i + 1)
flow-there flows fs i x same within at =
    get_or_read fs i x within at no_flow ∙ ap (λ (xs : List Flow). get_or xs i no_flow) same ∙ ap (flow_at flows) (sym (add-one i))

pub numbered-flow : (flows : List Flow) (n : ℕ) (x : Flow) → Some x ≡ numbered flows n → IsFlow flows n × (flow_at flows n ≡ x)
numbered-flow flows zero x e = cc
numbered-flow flows (suc k) x e =
    let within = slice_get_within flows k x (sym e) in
    ((omega arith, within), get_or_from_slice_get flows k x no_flow (sym e))

pub numbered-none : (flows : List Flow) (n : ℕ) → None ≡ numbered flows n → (IsFlow flows n → ⊥) × (flow_at flows n ≡ no_flow)
numbered-none flows zero e = (λ i. omega (arith, i.0), refl)
numbered-none flows (suc k) e = (
  λ i. let some = slice_get-get_or flows k no_flow i.1 in cc,
  sym (unwrap_or-slice_get flows k no_flow) ∙ ap (λ (o : Option Flow). unwrap_or o no_flow) (sym e),
)

-- the node that the flow at a place leaves
pub source-at : (flows : List Flow) (i : ℕ) → source flows (i + 1) ≡ (get_or flows i no_flow).from
unfolding source
source-at flows i = ap (λ (n : ℕ). (flow_at flows n).from) (add-one i)

-- ---- the flows of a node

module _ (flows : List Flow) (few : length flows ≤ 64) (g : ℕ) where
  pub entering-decides : (e : ℕ) → Decides (has (entering flows g) e) (Inbound flows g e)
  unfolding entering
  entering-decides e =
      let p = λ (n : ℕ). eqb (target flows n) g in (
        λ h. let c = has_chosen p (length flows) e h in ((c.0, c.1), eqb-true _ _ c.2),
        λ h. chosen-has p (length flows) e few h.0.0 h.0.1 (eq-eqb _ _ h.1),
      )

  pub leaving-decides : (f : ℕ) → Decides (has (leaving flows g) f) (Outgoing flows g f)
  unfolding leaving
  leaving-decides f =
      let p = λ (n : ℕ). eqb (source flows n) g in (
        λ h. let c = has_chosen p (length flows) f h in ((c.0, c.1), eqb-true _ _ c.2),
        λ h. chosen-has p (length flows) f few h.0.0 h.0.1 (eq-eqb _ _ h.1),
      )

-- ---- the flows that may come right before a flow

pub leads : (flows : List Flow) (few : length flows ≤ 64) (g m n : ℕ) → has (leaders flows g n) m ≡ true → Step flows g m n
unfolding leaders
leads flows few g m n h = by (eqb (source flows n) g) refl h
  where
    by : (b : Bool) → eqb (source flows n) g ≡ b → has (cond b no_flows (entering flows (source flows n))) m ≡ true → Step flows g m n
    by true t q = absurd (both_ways _ (has-no_flows m) q)
    by false t q = let i = (entering-decides flows few (source flows n) m).0 q in (i.0, λ e. eqb-false (source flows n) g t (sym i.1 ∙ e), i.1)

pub led : (flows : List Flow) (few : length flows ≤ 64) (g m n : ℕ) → Step flows g m n → has (leaders flows g n) m ≡ true
unfolding leaders
led flows few g m n s =
    ap (λ (b : Bool). has (cond b no_flows (entering flows (source flows n))) m) (ne_eqb (source flows n) g (λ e. s.1 (s.2 ∙ e)))
    ∙ (entering-decides flows few (source flows n) m).1 (s.0, s.2)
