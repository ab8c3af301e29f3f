-- What a routing's tables say, out of the truncated fact: paths can be decided.
use Rattle.std.proofs.Common.{◌≡◌, ℕ, ◌≤◌, Bool, true, false, List, length, refl, ap, ⊎_elim, arith}
use mathlib.Core.HLevel.{⊥_prop}
use mathlib.Core.Logic.{∥∥₁_elim}
use Rattle.std.proofs.lemmas.Bool.{cases_Bool, cases_lt, both_ways, true≢false, false≢true}
use Rattle.process.specs.declared.flow.Flow.{Flow}
use Rattle.process.specs.declared.sets.FlowSet.{FlowSet}
use Rattle.process.specs.Sets.{has}
use Rattle.process.proofs.Membership.{same-sets}
use Rattle.paths.specs.Paths.{target, IsFlow, Reaches}
use Rattle.paths.specs.Links.{entering, leaving}
use Rattle.paths.specs.Tables.{row, Tables}
use Rattle.paths.specs.Levels.{level}
use Rattle.paths.proofs.Walks.{reaching-flow}
use Rattle.paths.proofs.Distance.{level-decides}
use Rattle.paths.proofs.Nodes.{flows-few}
use Rattle.paths.specs.declared.routing.Routing.{Routing}
use Rattle.paths.specs.Routings.{flows_of}

-- tests and sets that cannot differ are equal
test-stable : (a b : Bool) → ((a ≡ b → ⊥) → ⊥) → a ≡ b
test-stable true true h = refl
test-stable true false h = absurd (h true≢false)
test-stable false true h = absurd (h false≢true)
test-stable false false h = refl

set-stable : (s t : FlowSet) → ((s ≡ t → ⊥) → ⊥) → s ≡ t
set-stable s t h = same-sets s t (λ n. test-stable (has s n) (has t n) (λ ne. h (λ e. ne (ap (λ (x : FlowSet). has x n) e))))

module _ (flows : List Flow) (few : length flows ≤ 64) where
  -- and neither can there be no path where there is not none
  pub path-stable : (g f e : ℕ) → ((Reaches flows g f e → ⊥) → ⊥) → Reaches flows g f e
  path-stable g f e h =
      ⊎_elim (λ below. ⊎_elim (λ over. of_none (λ i. omega (arith, i.1))) (λ within. of-flow (below, within)) (cases_lt (length flows) f))
      (λ zero. of_none (λ i. omega (arith, i.0))) (cases_lt 0 f)
    where
      of_none : (IsFlow flows f → ⊥) → Reaches flows g f e
      of_none ne = absurd (h (λ r. ne (reaching-flow flows g f e r)))

      of-flow : IsFlow flows f → Reaches flows g f e
      of-flow i =
          let d = level-decides flows few g f i e in
          ⊎_elim d.0 (λ t. absurd (h (λ r. both_ways _ t (d.1 r)))) (cases_Bool (has (level flows g f (length flows)) e))

  module _ (sources inbound outgoing : List FlowSet) (right : ∥ Tables flows sources inbound outgoing ∥₁) where
    pub known : Tables flows sources inbound outgoing
    known =
        record {
          reach = λ e f i. (
            λ h. path-stable (target flows e) f e (λ ne. ∥∥₁_elim right ⊥_prop (λ t. ne ((t.reach e f i).0 h))),
            λ r. test-stable (has (row sources e) f) true (λ ne. ∥∥₁_elim right ⊥_prop (λ t. ne ((t.reach e f i).1 r))),
          );
          enter = λ n. set-stable (row inbound n) (entering flows n) (λ ne. ∥∥₁_elim right ⊥_prop (λ t. ne (t.enter n)));
          leave = λ n. set-stable (row outgoing n) (leaving flows n) (λ ne. ∥∥₁_elim right ⊥_prop (λ t. ne (t.leave n)));
        }

-- what a routing holds is right
pub tables-right : (r : Routing) → Tables (flows_of r) r.sources r.inbound r.outgoing
tables-right r = known (flows_of r) (flows-few r.model) r.sources r.inbound r.outgoing r.right
