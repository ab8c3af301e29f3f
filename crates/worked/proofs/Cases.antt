-- The worked cases, from the rule: the levels around each flow compute the table of reach, and the table who holds a gateway back.
use Rattle.std.proofs.Common.{◌≡◌, ℕ, zero, suc, ◌+◌, ◌<◌, ◌≤◌, Bool, true, false, cond, not, ◌&&◌, List, [], ◌∷◌, map, length, Ok, Err, Decides, Result, sym, refl, ap, subst, add-one, arith, lit≤}
use Rattle.std.specs.List.{range_with_len}
use Rattle.std.proofs.lemmas.List.FromFn.{get_or-map-range_with_len}
use Rattle.std.proofs.lemmas.Bool.{both_ways, and_from, not_from_false, false≢true}
use Rattle.fault.specs.declared.count.CountFault.{CountFault}
use Rattle.fault.specs.declared.count.CountFault.TheVariants.{NodeNumber, NotInclusive}
use Rattle.process.specs.declared.flow.Flow.{Flow}
use Rattle.process.specs.declared.sets.FlowSet.{FlowSet}
use Rattle.process.specs.Processes.{is_node}
use Rattle.process.specs.Sets.{has, no_flows, just, joined, shared, without, these, is_none, tally}
use Rattle.process.specs.declared.node.Kind.{Kind}
use Rattle.model.specs.Rules.{kind_at}
use Rattle.paths.specs.Paths.{source, target, Inbound, TokenInbound, IsPath, Avoids, Reaches, HoldsBack, PathRule, HoldingNumber, NoFlowTwice, Why}
use Rattle.paths.specs.Paths.IsPath.{alone, then}
use Rattle.paths.specs.Links.{chosen, entering, leaving, leaders}
use Rattle.paths.specs.Tables.{at_place, row, Sources, LeadsTo}
use Rattle.paths.specs.Levels.{comes_after, grown, level}
use Rattle.paths.proofs.Chosen.{chosen-has, has_chosen, entering-decides, leaving-decides}
use Rattle.paths.proofs.Counts.{none-from-tally}
use Rattle.paths.proofs.Distance.{level-decides}
use Rattle.paths.proofs.Holding.{no_token-inbound, lead-none, lead-take, lead-skip, holders-decide, number-held, rule-decides}
use Rattle.paths.proofs.Walks.{reaching-flow}
use Rattle.choice.specs.Choices.{NoWayOn}
use Rattle.marking.specs.Nodes.{Ready}
use Rattle.engine.specs.declared.counts.Begun.{Begun}
use Rattle.engine.specs.Counts.{nodes_of, flows_of, tokens_of, figures_of}
use Rattle.engine.specs.Lines as rules
use Rattle.engine.specs.Questions.{is_inclusive}
use Rattle.engine.specs.Questions.NoReason.{no_token}
use Rattle.engine.specs.Steps.{UnansweredAs}
use Rattle.engine.specs.Steps.Hinders.{occupied}
use Rattle.engine.specs.Steps.Refuses.{hindered}
use Rattle.worked.specs.Worked.{nodes_7, flows_7, nodes_8, flows_8, Stands, WorkedCases}

-- ---- the table, computed

-- flow f reaches flow e
unfoldable far : List Flow → ℕ → ℕ → Bool
far flows e f = has (level flows (target flows e) f (length flows)) e

unfoldable table_of : List Flow → List FlowSet
table_of flows = map (λ e. chosen (far flows e) (length flows)) (range_with_len 1 (length flows))

-- the sets of the flows of `ends` up to n, joined
unfoldable gathered : List FlowSet → FlowSet → ℕ → FlowSet
gathered table ends zero = no_flows
gathered table ends (suc n) = let s : FlowSet = gathered table ends n in cond (has ends (suc n)) (joined s (at_place table n)) s

unfoldable held : List Flow → FlowSet → ℕ → FlowSet
held flows tokens g =
    let table : List FlowSet = table_of flows in
    let ins : FlowSet = entering flows g in
    without (shared tokens (gathered table (without ins tokens) 64)) (gathered table (shared ins tokens) 64)

gathered-leads : (table : List FlowSet) (ends : FlowSet) (n f : ℕ) → Decides (has (gathered table ends n) f) (LeadsTo table ends n f)
unfolding gathered
gathered-leads table ends zero f = lead-none table ends no_flows refl f
gathered-leads table ends (suc n) f =
    subst (λ (m : ℕ). Decides (has (cond (has ends (suc n)) (joined (gathered table ends n) (at_place table n)) (gathered table ends n)) f) (LeadsTo table ends m f)) (add-one n)
    (by (has ends (suc n)) (ap (has ends) (add-one n)) (gathered-leads table ends n))
  where
    by : (b : Bool) → has ends (n + 1) ≡ b → ((x : ℕ) → Decides (has (gathered table ends n) x) (LeadsTo table ends n x))
        → Decides (has (cond b (joined (gathered table ends n) (at_place table n)) (gathered table ends n)) f) (LeadsTo table ends (n + 1) f)
    by true t inv = lead-take table ends n (gathered table ends n) (joined (gathered table ends n) (at_place table n)) t refl inv f
    by false t inv = lead-skip table ends n (gathered table ends n) (gathered table ends n) t refl inv f

module _ (flows : List Flow) (few : length flows ≤ 64) where
  far-decides : (e f : ℕ) → Decides (has (chosen (far flows e) (length flows)) f) (Reaches flows (target flows e) f e)
  unfolding far
  far-decides e f = (
    λ h. let c = has_chosen (far flows e) (length flows) f h in (level-decides flows few (target flows e) f (c.0, c.1) e).0 c.2,
    λ r.
        let i = reaching-flow flows (target flows e) f e r in
        chosen-has (far flows e) (length flows) f few i.0 i.1 ((level-decides flows few (target flows e) f i e).1 r),
  )

  table-right : Sources flows (table_of flows)
  unfolding table_of
  table-right zero f i = absurd (omega (arith, i.0))
  table-right (suc k) f i =
      subst (λ (s : FlowSet). Decides (has s f) (Reaches flows (target flows (suc k)) f (suc k)))
      (sym (get_or-map-range_with_len (λ e. chosen (far flows e) (length flows)) 1 (length flows) k (suc k) (record { bits = 0 }) i.1 (omega arith)))
      (far-decides (suc k) f)

  -- ---- who holds the gateway back, where the set was computed

  module _ (tokens : FlowSet) (g : ℕ) (s : FlowSet) (is : held flows tokens g ≡ s) where
    held-decides : (f : ℕ) → Decides (has s f) (HoldsBack flows tokens g f)
    unfolding held
    held-decides =
        holders-decide flows few (table_of flows) table-right tokens (entering flows g) g (entering-decides flows few g)
        (gathered (table_of flows) (without (entering flows g) tokens) 64) (gathered (table_of flows) (shared (entering flows g) tokens) 64) s
        (gathered-leads (table_of flows) (without (entering flows g) tokens) 64) (gathered-leads (table_of flows) (shared (entering flows g) tokens) 64) (sym is)

    number_is : (r : ℕ) → tally (has s) 64 ≡ r → HoldingNumber flows tokens g r
    number_is r e = subst (HoldingNumber flows tokens g) e (number-held flows few tokens g s held-decides)

    rule-is : (e : ℕ) → Inbound flows g e → has tokens e ≡ true → is_none s ≡ true → PathRule flows tokens g
    rule-is e i t z = (rule-decides flows few tokens g s held-decides (e, i, t)).0 z

    -- no inbound flow below e that is empty is reached from f
    why-is : (f e : ℕ) (p : List ℕ) → IsPath flows f (suc e) p → Avoids flows g p → NoFlowTwice p
        → has s f ≡ true → ((k : ℕ) → k < f → has s k ≡ false)
        → Inbound flows g (suc e) → has tokens (suc e) ≡ false
        → tally (λ k. has (entering flows g) k && (not (has tokens k) && has (row (table_of flows) k) f)) e ≡ 0
        → Why flows tokens g f (suc e) p
    why-is f e p path avoids once here lower inbound empty none =
        record {
          holder = (held-decides f).0 here;
          lowest_holder = λ k l h. both_ways _ (lower k l) ((held-decides k).1 h);
          inbound = inbound;
          empty = empty;
          route = record { path = path; avoids = avoids; once = once };
          lowest_end = λ k l i t r.
              both_ways _ (none-from-tally (λ k. has (entering flows g) k && (not (has tokens k) && has (row (table_of flows) k) f)) e none k i.0.0 (omega arith))
              (and_from _ _ ((entering-decides flows few g k).1 i)
              (and_from _ _ (not_from_false _ t) ((table-right k f i.0).1 (subst (λ (n : ℕ). Reaches flows n f k) (sym i.1) r))));
        }

-- a set has no flow below the lowest
pub none-lower : (s : FlowSet) (f : ℕ) → tally (has s) f ≡ 0 → (k : ℕ) → k < suc f → has s k ≡ false
unfolding has
none-lower s f z zero l = refl
none-lower s f z (suc k) l = none-from-tally (has s) f z (suc k) (omega arith) (omega arith)

-- ---- from the tokens of a process to a count that has them

at_count : (P : List Kind → List Flow → FlowSet → Type 0) {nodes : List Kind} {flows : List Flow} {on : List ℕ} {b : Begun} → Stands nodes flows on b → P nodes flows (these on) → P (nodes_of b) (flows_of b) (tokens_of b)
at_count P {nodes} {flows} {on} {b} s h =
    subst (λ (n : List Kind). P n (flows_of b) (tokens_of b)) (sym s.nodes_are)
    (subst (λ (f : List Flow). P nodes f (tokens_of b)) (sym s.flows_are)
    (subst (λ (t : FlowSet). P nodes flows t) (sym s.tokens_are) h))

-- ---- the cases

-- unfolds all that the table and the set compute with
unfoldable computes : Unit {0}
unfolding held gathered table_of far level grown comes_after leaders entering leaving chosen source target has just joined shared without no_flows is_none these tally nodes_7 flows_7 nodes_8 flows_8
computes = tt

pub worked-cases : WorkedCases
unfolding computes
worked-cases =
    record {
      only_6 = λ b s. at_count (λ n f t. Ready n f t 6) s (rule-is flows_7 (lit≤ tt) (these (6 ∷ [])) 6 no_flows refl 6 ((lit≤ tt, lit≤ tt), refl) refl refl);
      at_4_6 = λ b s. at_count (λ n f t. HoldingNumber f t 6 1) s (number_is flows_7 (lit≤ tt) (these (4 ∷ 6 ∷ [])) 6 (these (4 ∷ [])) refl 1 refl);
      at_2_6 = λ b s. at_count (λ n f t. Ready n f t 6) s (rule-is flows_7 (lit≤ tt) (these (2 ∷ 6 ∷ [])) 6 no_flows refl 6 ((lit≤ tt, lit≤ tt), refl) refl refl);
      path_2_3_6 = (then (lit≤ tt, lit≤ tt) refl (then (lit≤ tt, lit≤ tt) refl (alone (lit≤ tt, lit≤ tt))), (λ e. omega arith, (λ e. omega arith, tt)));
      only_2 = λ b s. at_count (λ n f t. HoldingNumber f t 6 1) s (number_is flows_7 (lit≤ tt) (these (2 ∷ [])) 6 (these (2 ∷ [])) refl 1 refl);
      only_2_why = λ b s.
          let none : TokenInbound flows_7 (these (2 ∷ [])) 6 → ⊥ = no_token-inbound flows_7 (these (2 ∷ [])) 6 (entering flows_7 6) no_flows (entering-decides flows_7 (lit≤ tt) 6) refl refl in
          no_token
          (at_count (λ n f t. ◌≡◌ {A = Result (Unit {0}) CountFault} (cond (not (is_node n 6)) (Err (NodeNumber 6 b.instance)) (cond (not (is_inclusive (kind_at n 6))) (Err (NotInclusive 6 b.instance)) (Ok tt))) (Ok tt)) s refl)
          (at_count (λ n f t. Ready n f t 6 → ⊥) s (λ r. none r.some_token))
          (at_count (λ n f t. TokenInbound f t 6 → ⊥) s none);
      at_3_4_5 = λ b s. at_count (λ n f t. HoldingNumber f t 6 2) s (number_is flows_7 (lit≤ tt) (these (3 ∷ 4 ∷ 5 ∷ [])) 6 (these (3 ∷ 4 ∷ [])) refl 2 refl);
      why_3_4_5 = λ b s. at_count (λ n f t. Why f t 6 3 6 (3 ∷ 6 ∷ [])) s (
          why-is flows_7 (lit≤ tt) (these (3 ∷ 4 ∷ 5 ∷ [])) 6 (these (3 ∷ 4 ∷ [])) refl 3 5 (3 ∷ 6 ∷ [])
          (then (lit≤ tt, lit≤ tt) refl (alone (lit≤ tt, lit≤ tt))) (λ e. omega arith, tt) (λ x. omega arith, (λ x. x, tt))
          refl (none-lower (these (3 ∷ 4 ∷ [])) 2 refl) ((lit≤ tt, lit≤ tt), refl) refl refl);
      at_6_8 = λ b places waits s room.
          hindered (at_count (λ n f t. is_node n 6 ≡ true) s refl)
          (at_count (λ n f t. Ready n f t 6) s (rule-is flows_7 (lit≤ tt) (these (6 ∷ 8 ∷ [])) 6 no_flows refl 6 ((lit≤ tt, lit≤ tt), refl) refl refl)) room
          (occupied (at_count (λ n f t. UnansweredAs (kind_at n 6) (waits 6) → ⊥) s (λ x. x))
          (at_count (λ n f t. NoWayOn n f (figures_of b) 6 → ⊥) s (λ w. false≢true w.chooses_one))
          (at_count (λ n f t. rules.Occupied n f t (figures_of b) 6 8) s (record { gets = ((lit≤ tt, lit≤ tt), refl); carries = refl; stays = λ t. omega (arith, t.0.1) }))
          (at_count (λ n f t. (k : ℕ) → k < 8 → rules.Occupied n f t (figures_of b) 6 k → ⊥) s (λ k l o. both_ways _ (none-lower (leaving flows_7 6) 7 refl k l) ((leaving-decides flows_7 (lit≤ tt) 6 k).1 o.gets))));
      loop_1 = λ b s. at_count (λ n f t. Ready n f t 2) s (rule-is flows_8 (lit≤ tt) (these (1 ∷ [])) 2 no_flows refl 1 ((lit≤ tt, lit≤ tt), refl) refl refl);
      loop_1_2 = λ b s. at_count (λ n f t. HoldingNumber f t 2 1) s (number_is flows_8 (lit≤ tt) (these (1 ∷ 2 ∷ [])) 2 (these (2 ∷ [])) refl 1 refl);
      why_1_2 = λ b s. at_count (λ n f t. Why f t 2 2 4 (2 ∷ 4 ∷ [])) s (
          why-is flows_8 (lit≤ tt) (these (1 ∷ 2 ∷ [])) 2 (these (2 ∷ [])) refl 2 3 (2 ∷ 4 ∷ [])
          (then (lit≤ tt, lit≤ tt) refl (alone (lit≤ tt, lit≤ tt))) (λ e. omega arith, tt) (λ x. omega arith, (λ x. x, tt))
          refl (none-lower (these (2 ∷ [])) 1 refl) ((lit≤ tt, lit≤ tt), refl) refl refl);
    }
