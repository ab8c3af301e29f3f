-- Why a gateway waits, from the set of the flows that hold it back and the table of reach.
use Rattle.std.proofs.Common.{◌≡◌, ℕ, ◌<◌, ◌≤◌, false, not, ◌&&◌, List, length, Decides, sym, ap, ◌∙◌, subst, arith}
use Rattle.std.proofs.lemmas.Bool.{both_ways, and_parts, and_from, not-true, not_from_false}
use Rattle.process.specs.declared.flow.Flow.{Flow}
use Rattle.process.specs.declared.sets.FlowSet.{FlowSet}
use Rattle.process.specs.Sets.{has, without, Next}
use Rattle.process.proofs.Membership.{has-without}
use Rattle.paths.specs.Paths.{Inbound, Reaches, HoldsBack, Route, Why}
use Rattle.paths.specs.Links.{chosen}
use Rattle.paths.specs.Tables.{row, Sources}
use Rattle.paths.specs.Reasons.{LowestEnd}
use Rattle.paths.proofs.Chosen.{chosen-has, has_chosen}
use Rattle.paths.proofs.Holding.{holder-is-flow}

-- ---- the lowest of the flows that hold the gateway back

module _ (flows : List Flow) (few : length flows ≤ 64) (tokens : FlowSet) (g : ℕ) (held : FlowSet) (decides : (f : ℕ) → Decides (has held f) (HoldsBack flows tokens g f)) where
  pub none-held : ((m : ℕ) → 0 < m → m ≤ 64 → has held m ≡ false) → (f : ℕ) → HoldsBack flows tokens g f → ⊥
  none-held none f h = let i = holder-is-flow flows tokens g f h in both_ways _ (none f i.0 (omega (arith, i.1))) ((decides f).1 h)

  pub lowest-held : (f : ℕ) → Next held 0 f → (k : ℕ) → k < f → HoldsBack flows tokens g k → ⊥
  lowest-held f n k l h = let i = holder-is-flow flows tokens g k h in both_ways _ (n.first k i.0 l) ((decides k).1 h)

-- ---- the empty inbound flows that a flow reaches

module _ (flows : List Flow) (few : length flows ≤ 64) (sources : List FlowSet) (right : Sources flows sources) (tokens ins : FlowSet) (g : ℕ) (inbound : (e : ℕ) → Decides (has ins e) (Inbound flows g e))
    (empty ends : FlowSet) (f : ℕ) (b : empty ≡ without ins tokens) (is : ends ≡ chosen (λ e. has empty e && has (row sources e) f) 64) where
  -- what is asked of an end
  abbrev End : ℕ → Type 0
  End e = Inbound flows g e × (has tokens e ≡ false) × Reaches flows g f e

  empty-is : (e : ℕ) → has empty e ≡ (has ins e && not (has tokens e))
  empty-is e = ap (λ (s : FlowSet). has s e) b ∙ has-without ins tokens e

  end-decides : (e : ℕ) → Decides (has ends e) (End e)
  end-decides e = (
    λ h.
        let c = has_chosen (λ e. has empty e && has (row sources e) f) 64 e (ap (λ (s : FlowSet). has s e) (sym is) ∙ h) in
        let t = and_parts (has empty e) (has (row sources e) f) c.2 in
        let n = and_parts (has ins e) (not (has tokens e)) (sym (empty-is e) ∙ t.0) in
        let i = (inbound e).0 n.0 in
        (i, not-true _ n.1, subst (λ (n : ℕ). Reaches flows n f e) i.1 ((right e f i.0).0 t.1)),
    λ p.
        let i = p.0 in
        ap (λ (s : FlowSet). has s e) is
        ∙ chosen-has (λ e. has empty e && has (row sources e) f) 64 e (omega arith) i.0.0 (omega (arith, i.0.1))
        (and_from _ _ (empty-is e ∙ and_from _ _ ((inbound e).1 i) (not_from_false _ p.1)) ((right e f i.0).1 (subst (λ (n : ℕ). Reaches flows n f e) (sym i.1) p.2))),
  )

  -- a flow that holds the gateway back reaches one
  pub some_end : HoldsBack flows tokens g f → ((m : ℕ) → 0 < m → m ≤ 64 → has ends m ≡ false) → ⊥
  some_end h none = let x = h.empty_end in both_ways _ (none x.0 x.1.0.0 (omega (arith, x.1.0.1))) ((end-decides x.0).1 (x.1, x.2, x.3))

  pub lowest_end : (e : ℕ) → Next ends 0 e → LowestEnd flows tokens g f e
  lowest_end e n =
      let x = (end-decides e).0 n.member in
      record { inbound = x.0; empty = x.1; reached = x.2; lowest = λ k l i t r. both_ways _ (n.first k i.0.0 l) ((end-decides k).1 (i, t, r)) }

pub why-made : (flows : List Flow) (tokens : FlowSet) (g f e : ℕ) (p : List ℕ)
    → HoldsBack flows tokens g f → ((k : ℕ) → k < f → HoldsBack flows tokens g k → ⊥) → LowestEnd flows tokens g f e → Route flows g f e p → Why flows tokens g f e p
why-made flows tokens g f e p h lowest n route =
    record { holder = h; lowest_holder = lowest; inbound = n.inbound; empty = n.empty; route = route; lowest_end = n.lowest }
