-- What a chain of iterators over nodes or flows says, read as the rules say it.
use Rattle.std.proofs.Common.{◌≡◌, ℕ, suc, ◌+◌, ◌-◌, ◌<◌, Bool, true, false, cond, not, ◌&&◌, ◌||◌, eqb, leb, List, [], ◌∷◌, length, map, filter, take, get_or, sym, refl, ap, ◌∙◌, add-one, ne_eqb, arith}
use Rattle.std.proofs.lemmas.List.{get_or_default}
use Rattle.std.specs.List.{count_by, list_any, prefix_len}
use Rattle.std.proofs.lemmas.Bool.{le-leb}
use Rattle.std.proofs.lemmas.List.Recursion.{is_sum_by}
use Rattle.process.specs.declared.flow.Flow.{Flow}
use Rattle.process.specs.declared.node.Kind.{Kind}
use Rattle.process.specs.declared.node.Kind.TheVariants.{Start}
use Rattle.model.specs.Asking.{Asks}
use Rattle.model.specs.Rules.{how_many, is_start, inbound, outgoing, count_right, chooses, guard_right, is_default, kind_at, flow_at, no_flow, count_rule, loop_rule, guard_rule, default_rule}
use Rattle.model.specs.Sound.{successors, start_of}

module _ {X : Type 0} (test : X → Bool) where
  pub how_many-count_by : (xs : List X) → how_many test xs ≡ count_by test xs
  how_many-count_by = is_sum_by (how_many test) (λ x. cond (test x) 1 0) refl (λ x xs. refl)

  -- some pass: at least one
  pub how_many-any : (xs : List X) → list_any test xs ≡ leb 1 (how_many test xs)
  how_many-any [] = refl
  how_many-any (x ∷ xs) =
      elim (test x) as (λ b. (b || list_any test xs) ≡ leb 1 (cond b 1 0 + how_many test xs))
      [ true ↦ sym (le-leb 1 (1 + how_many test xs) (omega arith)) | false ↦ how_many-any xs ∙ ap (leb 1) (omega arith) ]

  -- none passes
  pub how_many-none : (xs : List X) → not (list_any test xs) ≡ eqb (how_many test xs) 0
  how_many-none [] = refl
  how_many-none (x ∷ xs) =
      elim (test x) as (λ b. not (b || list_any test xs) ≡ eqb (cond b 1 0 + how_many test xs) 0)
      [ true ↦ sym (ne_eqb (1 + how_many test xs) 0 (omega arith)) | false ↦ how_many-none xs ∙ ap (λ n. eqb n 0) (omega arith) ]

-- the start comes after the nodes that are none
pub start_of-before : (ks : List Kind) → prefix_len (λ k. not (is_start k)) ks + 1 ≡ start_of ks
start_of-before [] = refl
start_of-before (k ∷ ks) =
    elim (is_start k) as (λ b. cond (not b) (1 + prefix_len (λ k. not (is_start k)) ks) 0 + 1 ≡ cond b 1 (suc (start_of ks)))
    [ true ↦ refl | false ↦ omega (arith, start_of-before ks) ]

-- the flows that leave a node, and where they lead
pub successors-map : (fs : List Flow) (n : ℕ) → successors fs n ≡ map (λ f. f.to) (filter (λ f. eqb f.from n) fs)
successors-map [] n = refl
successors-map (f ∷ fs) n =
    elim (eqb f.from n) as (λ b. cond b (f.to ∷ successors fs n) (successors fs n) ≡ map (λ f. f.to) (cond b (f ∷ filter (λ f. eqb f.from n) fs) (filter (λ f. eqb f.from n) fs)))
    [ true ↦ ap (λ ns. f.to ∷ ns) (successors-map fs n) | false ↦ successors-map fs n ]

-- the node and the flow at a place have the next number
kind-here : (ks : List Kind) (i : ℕ) (k : Kind) → i < length ks → k ≡ get_or ks i k → k ≡ kind_at ks (i + 1)
kind-here ks i k inside is = is ∙ get_or_default ks i k Start inside ∙ ap (kind_at ks) (sym (add-one i))

flow-here : (fs : List Flow) (i : ℕ) (f : Flow) → i < length fs → f ≡ get_or fs i f → f ≡ flow_at fs (i + 1)
flow-here fs i f inside is = is ∙ get_or_default fs i f no_flow inside ∙ ap (flow_at fs) (sym (add-one i))

-- what is asked of each node and each flow is what the rules say of its number
module _ (ks : List Kind) (fs : List Flow) where
  pub counts-asked : Asks (λ n k r. r ≡ count_right k (inbound fs n) (outgoing fs n)) ks (count_rule ks fs)
  counts-asked i k r inside is told = told ∙ ap (λ x. count_right x (inbound fs (i + 1)) (outgoing fs (i + 1))) (kind-here ks i k inside is)

  pub loops-asked : Asks (λ n f r. r ≡ not (eqb f.from f.to)) fs (loop_rule fs)
  loops-asked i f r inside is told = told ∙ ap (λ (x : Flow). not (eqb x.from x.to)) (flow-here fs i f inside is)

  pub guards-asked : Asks (λ n f r. r ≡ guard_right (chooses (kind_at ks f.from) (outgoing fs f.from)) f.guard) fs (guard_rule ks fs)
  guards-asked i f r inside is told = told ∙ ap (λ (x : Flow). guard_right (chooses (kind_at ks x.from) (outgoing fs x.from)) x.guard) (flow-here fs i f inside is)

  pub defaults-asked : Asks (λ n f r. r ≡ (not (is_default f.guard) || eqb (how_many (λ x. eqb x.from f.from && is_default x.guard) (take (n - 1) fs)) 0)) fs (default_rule fs)
  defaults-asked i f r inside is told = told ∙ ap (λ (y : Flow). not (is_default y.guard) || eqb (how_many (λ x. eqb x.from y.from && is_default x.guard) (take (i + 1 - 1) fs)) 0) (flow-here fs i f inside is)
