-- How many flows leave a node: by the list of the flows, and by the set of those that leave it.
use Rattle.std.proofs.Common.{◌≡◌, ℕ, zero, suc, ◌+◌, ◌<◌, ◌≤◌, Bool, false, cond, eqb, List, [], ◌∷◌, length, Decides, sym, refl, ap, ◌∙◌, ⊎_elim, arith}
use Rattle.std.proofs.lemmas.Bool.{eqb-true, eq-eqb, cases_Bool}
use Rattle.std.proofs.lemmas.Bool.Decides.{same_from_decides}
use Rattle.process.specs.declared.flow.Flow.{Flow}
use Rattle.process.specs.declared.sets.FlowSet.{FlowSet}
use Rattle.process.specs.Sets.{has, tally}
use Rattle.process.proofs.Membership.{tally-same, tally-front}
use Rattle.model.specs.Rules.{flow_at, how_many, outgoing}
use Rattle.paths.specs.Paths.{source, Outgoing}
use Rattle.paths.specs.Routings.{model_of, flows_of}
use Rattle.paths.specs.declared.routing.Routing.{Routing}
use Rattle.paths.proofs.Counts.{tally-above}
use Rattle.paths.proofs.Nodes.{flows-few}

-- a list counted by the numbers of its flows
how_many-tally : (test : Flow → Bool) (flows : List Flow) → how_many test flows ≡ tally (λ n. test (flow_at flows n)) (length flows)
unfolding tally
how_many-tally test [] = refl
how_many-tally test (x ∷ xs) =
    ap (λ (n : ℕ). cond (test x) 1 0 + n) (how_many-tally test xs ∙ tally-same _ _ (length xs) later)
    ∙ sym (tally-front (λ n. test (flow_at (x ∷ xs) n)) (length xs))
  where
    later : (n : ℕ) → 1 ≤ n → n ≤ length xs → test (flow_at xs n) ≡ test (flow_at (x ∷ xs) (suc n))
    later zero low high = absurd (omega arith)
    later (suc n) low high = refl

-- a set that has exactly the flows that leave the node has as many
outgoing-tally : (flows : List Flow) (n : ℕ) (s : FlowSet) → length flows ≤ 64 → ((f : ℕ) → Decides (has s f) (Outgoing flows n f)) → outgoing flows n ≡ tally (has s) 64
unfolding source
outgoing-tally flows n s few leaves =
    how_many-tally (λ f. eqb f.from n) flows ∙ tally-same _ _ (length flows) same ∙ sym (tally-above (has s) (length flows) 64 few none_above)
  where
    same : (f : ℕ) → 1 ≤ f → f ≤ length flows → eqb (flow_at flows f).from n ≡ has s f
    same f low high =
        same_from_decides {P = Outgoing flows n f} _ _ (λ e. ((low, high), eqb-true _ _ e), λ o. eq-eqb _ _ o.1) (leaves f)

    none_above : (f : ℕ) → length flows < f → has s f ≡ false
    none_above f h = ⊎_elim (λ t. absurd (omega (arith, ((leaves f).0 t).0.1))) (λ t. t) (cases_Bool (has s f))

-- the same in a model, where a set has k flows
pub outgoing-are : (r : Routing) (n k : ℕ) (s : FlowSet) → ((f : ℕ) → Decides (has s f) (Outgoing (flows_of r) n f)) → k ≡ tally (has s) 64 → outgoing (flows_of r) n ≡ k
outgoing-are r n k s leaves e = outgoing-tally (flows_of r) n s (flows-few (model_of r)) leaves ∙ sym e
