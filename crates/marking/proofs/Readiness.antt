-- Whether a node is ready, from the sets of its inbound flows and the number that is kept.
use Rattle.std.proofs.Common.{◌≡◌, ℕ, Bool, true, false, not, ◌&&◌, eqb, ◌⊎◌, List, Decides, sym, ap, ◌∙◌, subst, ⊎_elim}
use Rattle.std.proofs.lemmas.Bool.{cases_Bool, cases_eq, both_ways, and_parts, and_from, not-true, not_from_false, eqb-true, eq-eqb}
use Rattle.process.specs.declared.flow.Flow.{Flow}
use Rattle.process.specs.declared.node.Kind.{Kind}
use Rattle.process.specs.declared.node.Kind.TheVariants as kinds
use Rattle.process.specs.declared.sets.FlowSet.{FlowSet}
use Rattle.process.specs.Sets.{has, shared, without, is_none}
use Rattle.process.proofs.Membership.{has-without, none-in-zero, some_in}
use Rattle.model.specs.Rules.{kind_at}
use Rattle.paths.specs.Paths.{Inbound, TokenInbound, PathRule, HoldingNumber}
use Rattle.paths.proofs.Holding.{no_token-inbound, some_token-inbound, holder-is-flow}
use Rattle.marking.specs.Kept.{CountedAs, Counted}
use Rattle.marking.specs.Nodes.{ReadyAs, Ready}
use Rattle.marking.proofs.Counting.{none-of-zero, some-of-more}

module _ (nodes : List Kind) (flows : List Flow) (tokens : FlowSet) (n : ℕ) (k : Kind) (kind : k ≡ kind_at nodes n) (ins : FlowSet) (inbound : (e : ℕ) → Decides (has ins e) (Inbound flows n e)) where
  -- what holds of a node of its kind holds of the node
  ready-as : (b : Bool) (j : Kind) → k ≡ j → Decides b (ReadyAs j flows tokens n) → Decides b (Ready nodes flows tokens n)
  ready-as b j e d = subst (λ (i : Kind). Decides b (ReadyAs i flows tokens n)) (sym e ∙ kind) d

  -- every inbound flow carries a token exactly if none is missing
  all-decides : (missing : FlowSet) → missing ≡ without ins tokens → Decides (is_none missing) ((e : ℕ) → Inbound flows n e → has tokens e ≡ true)
  all-decides missing m = (
    λ z e i. ⊎_elim (λ t. t) (λ t. absurd (both_ways _ (none-in-zero missing z e) (is e ∙ and_from _ _ ((inbound e).1 i) (not_from_false _ t)))) (cases_Bool (has tokens e)),
    λ all. ⊎_elim (λ z. z) (λ z. absurd (lacks all (some_in missing z))) (cases_Bool (is_none missing)),
  )
    where
      is : (e : ℕ) → has missing e ≡ (has ins e && not (has tokens e))
      is e = ap (λ (s : FlowSet). has s e) m ∙ has-without ins tokens e

      lacks : ((e : ℕ) → Inbound flows n e → has tokens e ≡ true) → ((e : ℕ) × (has missing e ≡ true)) → ⊥
      lacks all x = let p = and_parts (has ins x.0) (not (has tokens x.0)) (sym (is x.0) ∙ x.1) in both_ways _ (not-true _ p.1) (all x.0 ((inbound x.0).0 p.0))

  -- so it is with a parallel gateway
  pub ready-by-all : (b : Bool) (missing : FlowSet) → b ≡ is_none missing → missing ≡ without ins tokens → k ≡ kinds.Parallel → Decides b (Ready nodes flows tokens n)
  ready-by-all b missing is m e = ready-as b kinds.Parallel e (subst (λ (t : Bool). Decides t ((e : ℕ) → Inbound flows n e → has tokens e ≡ true)) (sym is) (all-decides missing m))

  module _ (both : FlowSet) (shares : both ≡ shared ins tokens) where
    -- an inbound flow carries a token exactly if some flow is in both sets
    token-decides : Decides (not (is_none both)) (TokenInbound flows tokens n)
    token-decides = (
      λ t. some_token-inbound flows tokens n ins both inbound shares (not-true _ t),
      λ token. not_from_false _ (⊎_elim (λ z. absurd (no_token-inbound flows tokens n ins both inbound shares z token)) (λ z. z) (cases_Bool (is_none both))),
    )

    -- so it is with an end, a task and an exclusive gateway
    pub ready-by-token : (b : Bool) → b ≡ is_none both → (k ≡ kinds.End) ⊎ (((x : ℕ) × (k ≡ kinds.Task x)) ⊎ (k ≡ kinds.Exclusive)) → Decides (not b) (Ready nodes flows tokens n)
    ready-by-token b is ways =
        let d = subst (λ (t : Bool). Decides (not t) (TokenInbound flows tokens n)) (sym is) token-decides in
        ⊎_elim (λ e. ready-as (not b) kinds.End e d) (⊎_elim (λ e. ready-as (not b) (kinds.Task e.0) e.1 d) (λ e. ready-as (not b) kinds.Exclusive e d)) ways

    -- the path rule holds exactly if no flow is counted
    rule-by-number : (r : ℕ) → is_none both ≡ false → HoldingNumber flows tokens n r → Decides (eqb r 0) (PathRule flows tokens n)
    rule-by-number r some number = (
      λ z. record {
        some_token = some_token-inbound flows tokens n ins both inbound shares some;
        none_holds = λ f h. let i = holder-is-flow flows tokens n f h in none-of-zero number (eqb-true r 0 z) f i.0 i.1 h;
      },
      λ rule. ⊎_elim (eq-eqb r 0) (λ ne. let x = some-of-more number ne in absurd (rule.none_holds x.0 x.1)) (cases_eq r 0),
    )

    -- so it is with an inclusive gateway where an inbound flow carries a token
    pub ready-by-number : (r : ℕ) → k ≡ kinds.Inclusive → is_none both ≡ false → Counted nodes flows tokens n r → Decides (eqb r 0) (Ready nodes flows tokens n)
    ready-by-number r e some number = ready-as (eqb r 0) kinds.Inclusive e (rule-by-number r some (subst (λ (i : Kind). CountedAs i flows tokens n r) (sym kind ∙ e) number))

    -- which is not ready where none does
    pub waits_for-token : (b : Bool) → k ≡ kinds.Inclusive → b ≡ false → is_none both ≡ true → Decides b (Ready nodes flows tokens n)
    waits_for-token b e f none = ready-as b kinds.Inclusive e (λ t. absurd (both_ways b f t), λ rule. absurd (no_token-inbound flows tokens n ins both inbound shares none rule.some_token))
