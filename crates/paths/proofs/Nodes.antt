-- The flows of every number that a node may be asked by: those of a model join its nodes, of which it has at most 40.
use Rattle.std.proofs.Common.{◌≡◌, ℕ, zero, suc, ◌<◌, ◌≤◌, Bool, true, false, cond, eqb, ◌⊎◌, List, Some, None, length, sym, refl, ap, ◌∙◌, inl, inr, ⊎_elim, arith}
use Rattle.std.proofs.lemmas.Bool.{cases_Bool, cases_lt, eq-eqb, ne_eqb}
use Rattle.process.specs.declared.flow.Flow.{Flow}
use Rattle.process.specs.declared.sets.FlowSet.{FlowSet}
use Rattle.process.specs.Sets.{has, no_flows}
use Rattle.process.proofs.Bounds.{few_flows, joined-nodes}
use Rattle.process.proofs.Membership.{has-no_flows, same-sets}
use Rattle.model.specs.declared.model.Model.{Model}
use Rattle.model.specs.Models.{flows_of}
use Rattle.model.specs.Rules.{no_flow}
use Rattle.paths.specs.Paths.{source, target, IsFlow}
use Rattle.paths.specs.Links.{entering, leaving, leaders}
use Rattle.process.specs.Numbered.{numbered}
use Rattle.paths.specs.Tables.{row, ByNode}
use Rattle.paths.proofs.Chosen.{numbered-flow, numbered-none, entering-decides, leaving-decides}
use Rattle.paths.proofs.Lookups.{no_row}

-- a number that no node of any model has
abbrev Outside : ℕ → Type 0
Outside n = (n ≡ 0) ⊎ (40 < n)

-- a set that has nothing
no_member : (s : FlowSet) → ((n : ℕ) → has s n ≡ true → ⊥) → s ≡ no_flows
no_member s none = same-sets s no_flows (λ n. ⊎_elim (λ t. absurd (none n t)) (λ t. t) (cases_Bool (has s n)) ∙ sym (has-no_flows n))

module _ (m : Model) where
  pub flows-few : length (flows_of m) ≤ 64
  flows-few = few_flows m.process

  target-inside : (e : ℕ) → IsFlow (flows_of m) e → (1 ≤ target (flows_of m) e) × (target (flows_of m) e ≤ 40)
  unfolding target
  target-inside zero i = absurd (omega (arith, i.0))
  target-inside (suc k) i = (joined-nodes m.process k no_flow i.1).1

  source-inside : (e : ℕ) → IsFlow (flows_of m) e → (1 ≤ source (flows_of m) e) × (source (flows_of m) e ≤ 40)
  unfolding source
  source-inside zero i = absurd (omega (arith, i.0))
  source-inside (suc k) i = (joined-nodes m.process k no_flow i.1).0

  entering-outside : (n : ℕ) → Outside n → entering (flows_of m) n ≡ no_flows
  entering-outside n out =
      no_member _ (λ e h.
      let i = (entering-decides (flows_of m) flows-few n e).0 h in
      let t = target-inside e i.0 in
      ⊎_elim (λ z. omega (arith, t.0, i.1)) (λ l. omega (arith, t.1, i.1)) out)

  leaving-outside : (n : ℕ) → Outside n → leaving (flows_of m) n ≡ no_flows
  leaving-outside n out =
      no_member _ (λ f h.
      let i = (leaving-decides (flows_of m) flows-few n f).0 h in
      let s = source-inside f i.0 in
      ⊎_elim (λ z. omega (arith, s.0, i.1)) (λ l. omega (arith, s.1, i.1)) out)

  -- ---- the flows that may come right before the flow of a number

  pub leaders-some : (g n : ℕ) (x : Flow) → Some x ≡ numbered (flows_of m) n → (x.from ≡ g → ⊥) → entering (flows_of m) x.from ≡ leaders (flows_of m) g n
  unfolding leaders source
  leaders-some g n x e ne =
      let from = ap (λ (f : Flow). f.from) (numbered-flow (flows_of m) n x e).1 in
      ap (entering (flows_of m)) (sym from)
      ∙ ap (λ (b : Bool). cond b no_flows (entering (flows_of m) (source (flows_of m) n))) (sym (ne_eqb (source (flows_of m) n) g (λ q. ne (sym from ∙ q))))

  pub leaders-gateway : (g n : ℕ) (x : Flow) → Some x ≡ numbered (flows_of m) n → x.from ≡ g → no_flows ≡ leaders (flows_of m) g n
  unfolding leaders source
  leaders-gateway g n x e q =
      let from = ap (λ (f : Flow). f.from) (numbered-flow (flows_of m) n x e).1 in
      ap (λ (b : Bool). cond b no_flows (entering (flows_of m) (source (flows_of m) n))) (sym (eq-eqb (source (flows_of m) n) g (from ∙ q)))

  -- where there is no flow, none comes before it, since no flow enters node 0
  pub leaders-none : (g n : ℕ) → None ≡ numbered (flows_of m) n → no_flows ≡ leaders (flows_of m) g n
  unfolding leaders source
  leaders-none g n e =
      let from : source (flows_of m) n ≡ 0 = ap (λ (f : Flow). f.from) (numbered-none (flows_of m) n e).1 in
      by (eqb (source (flows_of m) n) g) (entering-outside (source (flows_of m) n) (inl from))
    where
      by : (b : Bool) → entering (flows_of m) (source (flows_of m) n) ≡ no_flows → no_flows ≡ cond b no_flows (entering (flows_of m) (source (flows_of m) n))
      by true z = refl
      by false z = sym z

-- a table that is right for the numbers of nodes is right for every number
everywhere : (links : ℕ → FlowSet) (table : List FlowSet) → length table ≡ 40 → ((n : ℕ) → 1 ≤ n → n ≤ 40 → row table n ≡ links n) → ((n : ℕ) → Outside n → links n ≡ no_flows) → ByNode links table
everywhere links table long inside outside n =
    ⊎_elim (λ z. empty (inl (omega arith))) (λ low. ⊎_elim (λ over. empty (inr over)) (λ high. inside n low high) (cases_lt 40 n)) (cases_lt n 1)
  where
    empty : Outside n → row table n ≡ links n
    empty out = sym (no_row table n (⊎_elim inl (λ l. inr (omega (arith, long))) out)) ∙ sym (outside n out)

pub entering-everywhere : (m : Model) (table : List FlowSet) → length table ≡ 40 → ((n : ℕ) → 1 ≤ n → n ≤ 40 → row table n ≡ entering (flows_of m) n) → ByNode (entering (flows_of m)) table
entering-everywhere m table long inside = everywhere (entering (flows_of m)) table long inside (entering-outside m)

pub leaving-everywhere : (m : Model) (table : List FlowSet) → length table ≡ 40 → ((n : ℕ) → 1 ≤ n → n ≤ 40 → row table n ≡ leaving (flows_of m) n) → ByNode (leaving (flows_of m)) table
leaving-everywhere m table long inside = everywhere (leaving (flows_of m)) table long inside (leaving-outside m)
