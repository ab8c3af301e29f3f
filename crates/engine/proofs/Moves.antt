-- Flows that are to be put on and still carry a token after the taking, by sets.
use Rattle.std.proofs.Common.{◌≡◌, ℕ, ◌<◌, ◌≤◌, Bool, true, false, not, ◌&&◌, List, length, ℤ, Some, None, Decides, Option, Err, sym, refl, ap, ◌∙◌, subst, inl, inr, ⊎_elim, arith, MatchOption}
use Rattle.std.specs.List.{slice_get}
use Rattle.std.specs.Option.{ok_or}
use Rattle.std.proofs.lemmas.Bool.{cases_Bool, both_ways, and_parts, and_from, not-true, not_from_false}
use Rattle.process.specs.declared.flow.Flow.{Flow}
use Rattle.process.specs.declared.node.Kind.{Kind}
use Rattle.process.specs.declared.node.Kind.TheVariants as kinds
use Rattle.process.specs.declared.sets.FlowSet.{FlowSet}
use Rattle.process.specs.Sets.{has, shared, without, above, Next}
use Rattle.process.proofs.Membership.{has-shared, has-without}
use Rattle.process.proofs.Ordered.{set-laws}
use Rattle.paths.specs.Paths.{IsFlow}
use Rattle.choice.specs.Choices.{choosing, Chosen, GetsBy, Gets}
use Rattle.model.specs.Rules.{kind_at}
use Rattle.engine.specs.Lines.{Occupied, TakenSet, PutSet}

-- what gets a token is a flow
chosen-flow : (kind : Kind) (flows : List Flow) (figures : List ℤ) (n f : ℕ) → Chosen kind flows figures n f → IsFlow flows f
chosen-flow kinds.Start flows figures n f h = absurd h
chosen-flow kinds.End flows figures n f h = absurd h
chosen-flow (kinds.Task x) flows figures n f h = absurd h
chosen-flow kinds.Exclusive flows figures n f (inl h) = h.0.0.0
chosen-flow kinds.Exclusive flows figures n f (inr h) = h.0.0.0
chosen-flow kinds.Parallel flows figures n f h = absurd h
chosen-flow kinds.Inclusive flows figures n f (inl h) = h.0.0
chosen-flow kinds.Inclusive flows figures n f (inr h) = h.0.0.0

gets-flow-by : (b : Bool) (kind : Kind) (flows : List Flow) (figures : List ℤ) (n f : ℕ) → GetsBy b kind flows figures n f → IsFlow flows f
gets-flow-by true kind flows figures n f h = chosen-flow kind flows figures n f h
gets-flow-by false kind flows figures n f h = h.0

pub gets-flow : (nodes : List Kind) (flows : List Flow) (figures : List ℤ) (n f : ℕ) → Gets nodes flows figures n f → IsFlow flows f
gets-flow nodes flows figures n f h = gets-flow-by (choosing nodes flows n) (kind_at nodes n) flows figures n f h

module _ (nodes : List Kind) (flows : List Flow) (few : length flows ≤ 64) (tokens : FlowSet) (figures : List ℤ) (n : ℕ) (taken put : FlowSet) (takes : TakenSet nodes flows tokens n taken) (puts : PutSet nodes flows figures n put) where
  abbrev left : FlowSet
  left = shared (without tokens taken) put

  left-has : (f : ℕ) → has left f ≡ ((has tokens f && not (has taken f)) && has put f)
  left-has f = has-shared (without tokens taken) put f ∙ ap (λ (b : Bool). b && has put f) (has-without tokens taken f)

  -- the tokens that stay on flows to be put on are those that occupy them
  left-decides : (f : ℕ) → Decides (has left f) (Occupied nodes flows tokens figures n f)
  left-decides f = (
    λ h.
        let p = and_parts (has tokens f && not (has taken f)) (has put f) (sym (left-has f) ∙ h) in
        let q = and_parts (has tokens f) (not (has taken f)) p.0 in
        record { gets = (puts f).0 p.1; carries = q.0; stays = λ t. both_ways (has taken f) (not-true _ q.1) ((takes f).1 t) },
    λ o.
        left-has f ∙ and_from _ _ (and_from _ _ o.carries (not_from_false _ (⊎_elim (λ t. absurd (o.stays ((takes f).0 t))) (λ t. t) (cases_Bool (has taken f))))) ((puts f).1 o.gets),
  )

  -- the lowest of them, or none
  pub lowest-left : (occupied : FlowSet) → occupied ≡ left → MatchOption (slice_get (above occupied 0) 0) ((f : ℕ) → Occupied nodes flows tokens figures n f → ⊥) (λ f. Occupied nodes flows tokens figures n f × ((k : ℕ) → k < f → Occupied nodes flows tokens figures n k → ⊥))
  lowest-left occupied e = by (slice_get (above occupied 0) 0) (set-laws.next_has occupied 0)
    where
      decides : (f : ℕ) → Decides (has occupied f) (Occupied nodes flows tokens figures n f)
      decides f = subst (λ (s : FlowSet). Decides (has s f) (Occupied nodes flows tokens figures n f)) (sym e) (left-decides f)

      by : (o : Option ℕ) → MatchOption o ((m : ℕ) → 0 < m → m ≤ 64 → has occupied m ≡ false) (Next occupied 0) → MatchOption o ((f : ℕ) → Occupied nodes flows tokens figures n f → ⊥) (λ f. Occupied nodes flows tokens figures n f × ((k : ℕ) → k < f → Occupied nodes flows tokens figures n k → ⊥))
      by None h = λ f o. let i = gets-flow nodes flows figures n f o.gets in both_ways _ (h f (omega (arith, i.0)) (omega (arith, i.1, few))) ((decides f).1 o)
      by (Some f) h = ((decides f).0 h.member, λ k below o. let i = gets-flow nodes flows figures n k o.gets in both_ways _ (h.first k (omega (arith, i.0)) below) ((decides k).1 o))

-- a refusal that stands for `None`
pub no_way-told : {A E : Type 0} (o : Option A) (e f : E) → Err f ≡ ok_or o e → (o ≡ None) × (f ≡ e)
no_way-told None e f h = (refl, cc)
no_way-told (Some a) e f h = absurd cc
