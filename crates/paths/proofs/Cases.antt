-- The worked cases, from the rule: the levels around each flow compute the table of reach, and the table who holds a gateway back.
use Rattle.std.proofs.Common.{◌≡◌, ℕ, zero, suc, ◌+◌, ◌<◌, ◌≤◌, Bool, true, false, cond, not, ◌&&◌, List, [], ◌∷◌, map, length, Decides, sym, refl, ap, subst, add-one, arith, lit≤}
use Rattle.std.specs.List.{range_with_len}
use Rattle.std.proofs.lemmas.List.FromFn.{get_or-map-range_with_len}
use Rattle.std.proofs.lemmas.Bool.{both_ways, and_from, not_from_false}
use Rattle.process.specs.declared.flow.Flow.{Flow}
use Rattle.process.specs.declared.sets.FlowSet.{FlowSet}
use Rattle.process.specs.Sets.{has, no_flows, just, joined, shared, without, these, is_none, tally}
use Rattle.paths.specs.Paths.{source, target, Inbound, IsPath, Avoids, Reaches, HoldsBack, PathRule, HoldingNumber, NoFlowTwice, Why}
use Rattle.paths.specs.Paths.IsPath.{alone, then}
use Rattle.paths.specs.Links.{chosen, entering, leaders}
use Rattle.paths.specs.Tables.{at_place, row, Sources, LeadsTo}
use Rattle.paths.specs.Levels.{comes_after, grown, level}
use Rattle.paths.specs.Worked.{process_7, process_8, WorkedCases}
use Rattle.paths.proofs.Chosen.{chosen-has, has_chosen, entering-decides}
use Rattle.paths.proofs.Counts.{none-from-tally}
use Rattle.paths.proofs.Distance.{level-decides}
use Rattle.paths.proofs.Holding.{lead-none, lead-take, lead-skip, holders-decide, number-held, rule-decides}
use Rattle.paths.proofs.Walks.{reaching-flow}

-- ---- the table, computed

-- flow f reaches flow e
unfoldable far : List Flow → ℕ → ℕ → Bool
far flows e f = has (level flows (target flows e) f (length flows)) e

unfoldable table_of : List Flow → List FlowSet
table_of flows = map (λ e. chosen (far flows e) (length flows)) (range_with_len 1 (length flows))

-- the sets of the flows of `ends` up to n, joined
unfoldable gathered : List FlowSet → FlowSet → ℕ → FlowSet
gathered table ends zero = no_flows
gathered table ends (suc n) = let s : FlowSet = gathered table ends n in cond (has ends (suc n)) (joined s (at_place table n)) s

unfoldable held : List Flow → FlowSet → ℕ → FlowSet
held flows tokens g =
    let table : List FlowSet = table_of flows in
    let ins : FlowSet = entering flows g in
    without (shared tokens (gathered table (without ins tokens) 64)) (gathered table (shared ins tokens) 64)

gathered-leads : (table : List FlowSet) (ends : FlowSet) (n f : ℕ) → Decides (has (gathered table ends n) f) (LeadsTo table ends n f)
unfolding gathered
gathered-leads table ends zero f = lead-none table ends no_flows refl f
gathered-leads table ends (suc n) f =
    subst (λ (m : ℕ). Decides (has (cond (has ends (suc n)) (joined (gathered table ends n) (at_place table n)) (gathered table ends n)) f) (LeadsTo table ends m f)) (add-one n)
    (by (has ends (suc n)) (ap (has ends) (add-one n)) (gathered-leads table ends n))
  where
    by : (b : Bool) → has ends (n + 1) ≡ b → ((x : ℕ) → Decides (has (gathered table ends n) x) (LeadsTo table ends n x))
        → Decides (has (cond b (joined (gathered table ends n) (at_place table n)) (gathered table ends n)) f) (LeadsTo table ends (n + 1) f)
    by true t inv = lead-take table ends n (gathered table ends n) (joined (gathered table ends n) (at_place table n)) t refl inv f
    by false t inv = lead-skip table ends n (gathered table ends n) (gathered table ends n) t refl inv f

module _ (flows : List Flow) (few : length flows ≤ 64) where
  far-decides : (e f : ℕ) → Decides (has (chosen (far flows e) (length flows)) f) (Reaches flows (target flows e) f e)
  unfolding far
  far-decides e f = (
    λ h. let c = has_chosen (far flows e) (length flows) f h in (level-decides flows few (target flows e) f (c.0, c.1) e).0 c.2,
    λ r.
        let i = reaching-flow flows (target flows e) f e r in
        chosen-has (far flows e) (length flows) f few i.0 i.1 ((level-decides flows few (target flows e) f i e).1 r),
  )

  table-right : Sources flows (table_of flows)
  unfolding table_of
  table-right zero f i = absurd (omega (arith, i.0))
  table-right (suc k) f i =
      subst (λ (s : FlowSet). Decides (has s f) (Reaches flows (target flows (suc k)) f (suc k)))
      (sym (get_or-map-range_with_len (λ e. chosen (far flows e) (length flows)) 1 (length flows) k (suc k) (record { bits = 0 }) i.1 (omega arith)))
      (far-decides (suc k) f)

  -- ---- who holds the gateway back, where the set was computed

  module _ (tokens : FlowSet) (g : ℕ) (s : FlowSet) (is : held flows tokens g ≡ s) where
    held-decides : (f : ℕ) → Decides (has s f) (HoldsBack flows tokens g f)
    unfolding held
    held-decides =
        holders-decide flows few (table_of flows) table-right tokens (entering flows g) g (entering-decides flows few g)
        (gathered (table_of flows) (without (entering flows g) tokens) 64) (gathered (table_of flows) (shared (entering flows g) tokens) 64) s
        (gathered-leads (table_of flows) (without (entering flows g) tokens) 64) (gathered-leads (table_of flows) (shared (entering flows g) tokens) 64) (sym is)

    number_is : (r : ℕ) → tally (has s) 64 ≡ r → HoldingNumber flows tokens g r
    number_is r e = subst (HoldingNumber flows tokens g) e (number-held flows few tokens g s held-decides)

    rule-is : (e : ℕ) → Inbound flows g e → has tokens e ≡ true → is_none s ≡ true → PathRule flows tokens g
    rule-is e i t z = (rule-decides flows few tokens g s held-decides (e, i, t)).0 z

    -- no inbound flow below e that is empty is reached from f
    why-is : (f e : ℕ) (p : List ℕ) → IsPath flows f (suc e) p → Avoids flows g p → NoFlowTwice p
        → has s f ≡ true → ((k : ℕ) → k < f → has s k ≡ false)
        → Inbound flows g (suc e) → has tokens (suc e) ≡ false
        → tally (λ k. has (entering flows g) k && (not (has tokens k) && has (row (table_of flows) k) f)) e ≡ 0
        → Why flows tokens g f (suc e) p
    why-is f e p path avoids once here lower inbound empty none =
        record {
          holder = (held-decides f).0 here;
          lowest_holder = λ k l h. both_ways _ (lower k l) ((held-decides k).1 h);
          inbound = inbound;
          empty = empty;
          route = record { path = path; avoids = avoids; once = once };
          lowest_end = λ k l i t r.
              both_ways _ (none-from-tally (λ k. has (entering flows g) k && (not (has tokens k) && has (row (table_of flows) k) f)) e none k i.0.0 (omega arith))
              (and_from _ _ ((entering-decides flows few g k).1 i)
              (and_from _ _ (not_from_false _ t) ((table-right k f i.0).1 (subst (λ (n : ℕ). Reaches flows n f k) (sym i.1) r))));
        }

-- a set has no flow below the lowest
pub none-lower : (s : FlowSet) (f : ℕ) → tally (has s) f ≡ 0 → (k : ℕ) → k < suc f → has s k ≡ false
unfolding has
none-lower s f z zero l = refl
none-lower s f z (suc k) l = none-from-tally (has s) f z (suc k) (omega arith) (omega arith)

-- ---- the cases

-- unfolds all that the table and the set compute with
unfoldable computes : Unit {0}
unfolding held gathered table_of far level grown comes_after leaders entering chosen source target has just joined shared without no_flows is_none these tally process_7 process_8
computes = tt

pub worked-cases : WorkedCases
unfolding computes
worked-cases =
    record {
      only_6 = rule-is process_7 (lit≤ tt) (these (6 ∷ [])) 6 no_flows refl 6 ((lit≤ tt, lit≤ tt), refl) refl refl;
      at_4_6 = number_is process_7 (lit≤ tt) (these (4 ∷ 6 ∷ [])) 6 (these (4 ∷ [])) refl 1 refl;
      at_2_6 = rule-is process_7 (lit≤ tt) (these (2 ∷ 6 ∷ [])) 6 no_flows refl 6 ((lit≤ tt, lit≤ tt), refl) refl refl;
      path_2_3_6 = (then (lit≤ tt, lit≤ tt) refl (then (lit≤ tt, lit≤ tt) refl (alone (lit≤ tt, lit≤ tt))), (λ e. omega arith, (λ e. omega arith, tt)));
      only_2 = number_is process_7 (lit≤ tt) (these (2 ∷ [])) 6 (these (2 ∷ [])) refl 1 refl;
      at_3_4_5 = number_is process_7 (lit≤ tt) (these (3 ∷ 4 ∷ 5 ∷ [])) 6 (these (3 ∷ 4 ∷ [])) refl 2 refl;
      why_3_4_5 =
          why-is process_7 (lit≤ tt) (these (3 ∷ 4 ∷ 5 ∷ [])) 6 (these (3 ∷ 4 ∷ [])) refl 3 5 (3 ∷ 6 ∷ [])
          (then (lit≤ tt, lit≤ tt) refl (alone (lit≤ tt, lit≤ tt))) (λ e. omega arith, tt) (λ x. omega arith, (λ x. x, tt))
          refl (none-lower (these (3 ∷ 4 ∷ [])) 2 refl) ((lit≤ tt, lit≤ tt), refl) refl refl;
      loop_1 = rule-is process_8 (lit≤ tt) (these (1 ∷ [])) 2 no_flows refl 1 ((lit≤ tt, lit≤ tt), refl) refl refl;
      loop_1_2 = number_is process_8 (lit≤ tt) (these (1 ∷ 2 ∷ [])) 2 (these (2 ∷ [])) refl 1 refl;
      why_1_2 =
          why-is process_8 (lit≤ tt) (these (1 ∷ 2 ∷ [])) 2 (these (2 ∷ [])) refl 2 3 (2 ∷ 4 ∷ [])
          (then (lit≤ tt, lit≤ tt) refl (alone (lit≤ tt, lit≤ tt))) (λ e. omega arith, tt) (λ x. omega arith, (λ x. x, tt))
          refl (none-lower (these (2 ∷ [])) 1 refl) ((lit≤ tt, lit≤ tt), refl) refl refl;
    }
