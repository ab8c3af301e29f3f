-- The calls before the first `Begin`, and what stands before the first line.
use Rattle.std.proofs.Common.{◌≡◌, ℕ, Bool, true, false, cond, ◌||◌, List, [], ◌∷◌, ◌++◌, ℤ, Decides, refl, subst}
use Rattle.std.proofs.lemmas.Bool.{both_ways, true≢false, false≢true}
use Rattle.process.specs.declared.flow.Flow.{Flow}
use Rattle.process.specs.declared.node.Kind.{Kind}
use Rattle.process.specs.declared.sets.FlowSet.{FlowSet}
use Rattle.process.specs.Sets.{has, no_flows}
use Rattle.process.proofs.Membership.{has-no_flows}
use Rattle.history.specs.declared.call.Call.{Call}
use Rattle.history.specs.declared.call.Call.TheVariants as calls
use Rattle.history.specs.declared.call.Count.TheVariants.{Setting}
use Rattle.engine.specs.declared.counts.SetUp.{SetUp}
use Rattle.history.specs.Histories.{NotTaken}
use Rattle.history.specs.Laws.{is_begin, set_by, opening, begun_in, Opened}
use Rattle.engine.specs.SetUps.{LeavesStart}

-- ---- once a count has begun, no call changes what stood before the first line

going-at : (t begun : Bool) (x y z : List ℤ) → (t || begun) ≡ true → (begun ≡ true → y ≡ z) → cond t x y ≡ cond t x z
going-at true begun x y z e more = refl
going-at false begun x y z e more = more e

-- the figures stay
pub opening-going : (figures : List ℤ) (done : List Call) (call : Call) → begun_in done ≡ true → opening figures (done ++ call ∷ []) ≡ opening figures done
opening-going figures [] call e = absurd (false≢true e)
opening-going figures (d ∷ ds) call e = going-at (is_begin d) (begun_in ds) figures _ _ e (opening-going (set_by figures d) ds call)

or-more : (t x y : Bool) → (t || x) ≡ true → (x ≡ true → y ≡ true) → (t || y) ≡ true
or-more true x y e more = refl
or-more false x y e more = more e

-- it stays begun
pub begun-going : (done : List Call) (call : Call) → begun_in done ≡ true → begun_in (done ++ call ∷ []) ≡ true
begun-going [] call e = absurd (false≢true e)
begun-going (d ∷ ds) call e = or-more (is_begin d) (begun_in ds) _ e (begun-going ds call)

-- ---- before that, the last call does what it does alone

setting-at : (t begun : Bool) (x y z : List ℤ) (F : List ℤ → List ℤ) → (t || begun) ≡ false → (begun ≡ false → y ≡ F z) → cond t x y ≡ F (cond t x z)
setting-at true begun x y z F e more = absurd (true≢false e)
setting-at false begun x y z F e more = more e

-- on the figures
pub opening-setting : (figures : List ℤ) (done : List Call) (call : Call) → begun_in done ≡ false → opening figures (done ++ call ∷ []) ≡ opening (opening figures done) (call ∷ [])
opening-setting figures [] call e = refl
opening-setting figures (d ∷ ds) call e = setting-at (is_begin d) (begun_in ds) figures _ _ (λ f. opening f (call ∷ [])) e (opening-setting (set_by figures d) ds call)

or-none : (t x y z : Bool) → (t || x) ≡ false → (x ≡ false → y ≡ z) → (t || y) ≡ z
or-none true x y z e more = absurd (true≢false e)
or-none false x y z e more = more e

-- on whether the count has begun
pub begun-setting : (done : List Call) (call : Call) → begun_in done ≡ false → begun_in (done ++ call ∷ []) ≡ begun_in (call ∷ [])
begun-setting [] call e = refl
begun-setting (d ∷ ds) call e = or-none (is_begin d) (begun_in ds) _ _ e (begun-setting ds call)

-- a call that a count in set-up does not take changes no figure, and does not begin it
pub passed_over : (s : SetUp) (figures : List ℤ) (call : Call) → NotTaken (Setting s) call → (opening figures (call ∷ []) ≡ figures) × (begun_in (call ∷ []) ≡ false)
passed_over s figures (calls.Set x c) u = absurd u
passed_over s figures calls.Begin u = absurd u
passed_over s figures (calls.Step n) u = (refl, refl)
passed_over s figures (calls.Run budget) u = (refl, refl)
passed_over s figures (calls.Figure x) u = (refl, refl)
passed_over s figures (calls.Ready n) u = (refl, refl)
passed_over s figures (calls.Holding n) u = (refl, refl)
passed_over s figures (calls.Why n) u = (refl, refl)

-- ---- the tokens before the first line

module _ (nodes : List Kind) (flows : List Flow) where
  -- none while the count is set up
  pub opened-none : (done : List Call) → begun_in done ≡ false → Opened nodes flows done no_flows
  opened-none done e f = (λ has-it. absurd (both_ways _ (has-no_flows f) has-it), λ begun. absurd (both_ways _ e begun.0))

  -- the start's outgoing flow once it has begun
  pub opened-start : (done : List Call) (tokens : FlowSet) → begun_in done ≡ true → ((f : ℕ) → Decides (has tokens f) (LeavesStart nodes flows f)) → Opened nodes flows done tokens
  opened-start done tokens e start f = (λ has-it. (e, (start f).0 has-it), λ begun. (start f).1 begun.1)

  -- they depend on no more than whether it has
  pub opened-as : (done done' : List Call) (tokens : FlowSet) → begun_in done ≡ begun_in done' → Opened nodes flows done tokens → Opened nodes flows done' tokens
  opened-as done done' tokens e o f = subst (λ (t : Bool). Decides (has tokens f) ((t ≡ true) × LeavesStart nodes flows f)) e (o f)
