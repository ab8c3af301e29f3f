-- Which tokens a node takes, from the set of its inbound flows with a token.
use Rattle.std.proofs.Common.{◌≡◌, ℕ, ◌<◌, ◌≤◌, Bool, eqb, ◌⊎◌, List, length, Some, None, Decides, sym, ap, ◌∙◌, subst, ⊎_elim, arith}
use Rattle.std.specs.List.{slice_get}
use Rattle.std.proofs.lemmas.Bool.{cases_order, both_ways, and_parts, and_from, eqb-true, eq-eqb}
use Rattle.process.specs.declared.flow.Flow.{Flow}
use Rattle.process.specs.declared.node.Kind.{Kind}
use Rattle.process.specs.declared.node.Kind.TheVariants as kinds
use Rattle.process.specs.declared.sets.FlowSet.{FlowSet}
use Rattle.process.specs.Sets.{has, just, shared, above, Next}
use Rattle.process.proofs.Membership.{has_one, has-shared}
use Rattle.process.proofs.Ordered.{next-some, next-none}
use Rattle.model.specs.Rules.{kind_at}
use Rattle.paths.specs.Paths.{Inbound}
use Rattle.marking.specs.Nodes.{ComesIn, TakesAs, Takes}

module _ (nodes : List Kind) (flows : List Flow) (few : length flows ≤ 64) (tokens : FlowSet) (n : ℕ) (k : Kind) (kind : k ≡ kind_at nodes n)
    (ins both : FlowSet) (inbound : (e : ℕ) → Decides (has ins e) (Inbound flows n e)) (shares : both ≡ shared ins tokens) where
  -- what holds of a node of its kind holds of the node
  takes-as : (b : Bool) (j : Kind) (f : ℕ) → k ≡ j → Decides b (TakesAs j flows tokens n f) → Decides b (Takes nodes flows tokens n f)
  takes-as b j f e d = subst (λ (i : Kind). Decides b (TakesAs i flows tokens n f)) (sym e ∙ kind) d

  -- the set has the inbound flows with a token
  comes-decides : (f : ℕ) → Decides (has both f) (ComesIn flows tokens n f)
  comes-decides f =
      let is = ap (λ (s : FlowSet). has s f) shares ∙ has-shared ins tokens f in (
        λ h. let p = and_parts (has ins f) (has tokens f) (sym is ∙ h) in ((inbound f).0 p.0, p.1),
        λ c. is ∙ and_from _ _ ((inbound f).1 c.0) c.1,
      )

  -- a node that is no exclusive gateway takes them all
  pub takes_all : (k ≡ kinds.Start) ⊎ ((k ≡ kinds.End) ⊎ (((x : ℕ) × (k ≡ kinds.Task x)) ⊎ ((k ≡ kinds.Parallel) ⊎ (k ≡ kinds.Inclusive)))) → (f : ℕ) → Decides (has both f) (Takes nodes flows tokens n f)
  takes_all ways f =
      let b = has both f in
      let d = comes-decides f in
      ⊎_elim (λ e. takes-as b kinds.Start f e d)
      (⊎_elim (λ e. takes-as b kinds.End f e d)
      (⊎_elim (λ e. takes-as b (kinds.Task e.0) f e.1 d)
      (⊎_elim (λ e. takes-as b kinds.Parallel f e d) (λ e. takes-as b kinds.Inclusive f e d)))) ways

  -- an exclusive gateway takes the lowest
  pub takes-lowest : k ≡ kinds.Exclusive → (lowest : ℕ) (s : FlowSet) → Some lowest ≡ slice_get (above both 0) 0 → s ≡ just lowest → (f : ℕ) → Decides (has s f) (Takes nodes flows tokens n f)
  takes-lowest exclusive lowest s e one f = takes-as (has s f) kinds.Exclusive f exclusive (λ h. only (eqb-true f lowest (sym is ∙ h)), λ t. is ∙ eq-eqb f lowest (same t))
    where
      next : Next both 0 lowest
      next = next-some both 0 lowest e

      is : has s f ≡ eqb f lowest
      is = ap (λ (t : FlowSet). has t f) one ∙ has_one lowest f next.higher next.range

      lower : (m : ℕ) → m < lowest → ComesIn flows tokens n m → ⊥
      lower m l c = both_ways _ (next.first m c.0.0.0 l) ((comes-decides m).1 c)

      here : ComesIn flows tokens n lowest
      here = (comes-decides lowest).0 next.member

      only : f ≡ lowest → TakesAs kinds.Exclusive flows tokens n f
      only q = subst (λ (m : ℕ). TakesAs kinds.Exclusive flows tokens n m) (sym q) (here, lower)

      same : TakesAs kinds.Exclusive flows tokens n f → f ≡ lowest
      same t = ⊎_elim (λ q. q) (⊎_elim (λ l. absurd (lower f l t.0)) (λ l. absurd (t.1 lowest l here))) (cases_order f lowest)

  -- and nothing where there is none
  pub takes_none : k ≡ kinds.Exclusive → None ≡ slice_get (above both 0) 0 → (f : ℕ) → Decides (has both f) (Takes nodes flows tokens n f)
  takes_none exclusive e f = takes-as (has both f) kinds.Exclusive f exclusive (λ h. absurd (nothing ((comes-decides f).0 h)), λ t. absurd (nothing t.0))
    where
      nothing : ComesIn flows tokens n f → ⊥
      nothing c = both_ways _ (next-none both 0 e f c.0.0.0 (omega (arith, c.0.0.1))) ((comes-decides f).1 c)
