-- What the calls of a search do to it.
use Rattle.std.proofs.Common.{◌≡◌, ℕ, ◌+◌, ◌<◌, List, [], ◌∷◌, ◌++◌, length, take, get_or, Ok, Err, Result, MatchResult, refl, sym, ◌∙◌, subst, arith}
use Rattle.fault.specs.declared.graph.GraphFault.{GraphFault}
use Rattle.fault.specs.declared.graph.GraphFault.TheVariants.{Full}
use Rattle.graph.specs.declared.search.Search.{Search}
use Rattle.graph.specs.declared.worklist.WorkList.{WorkList}
use Rattle.graph.specs.Reach.{Found}
use Rattle.graph.specs.Ring.{entries, capacity}
use Rattle.graph.specs.Searches.{Ready, Added, Overflows, Grown, Overfull}
use Rattle.graph.proofs.Adding.{added-nothing, added_more, overflows-more}

-- where fewer wait than there is room for, a put goes through
pub put-goes : {X : Type 0} (q q' : WorkList X) (x : X) (r : Result (Unit {0}) GraphFault) → MatchResult r (λ _. (length (entries q) < capacity q) × (entries q' ≡ entries q ++ x ∷ [])) (λ e. (e ≡ Full) × (length (entries q) ≡ capacity q) × (q' ≡ q)) → length (entries q) < capacity q → (r ≡ Ok tt) × (entries q' ≡ entries q ++ x ∷ [])
put-goes q q' x (Ok tt) c h = (refl, c.1)
put-goes q q' x (Err e) c h = absurd (omega (arith, c.1))

-- a limit, and what was found, by another name
module _ {P : Type 0} where
  pub step-at : {n m : ℕ} {asked found : List P} {count : ℕ} {queue found' : List P} {count' : ℕ} {queue' : List P} → n ≡ m → Added n asked found count queue found' count' queue' → Added m asked found count queue found' count' queue'
  step-at {asked = asked} {found} {count} {queue} {found'} {count'} {queue'} e a = subst (λ (n : ℕ). Added n asked found count queue found' count' queue') e a

  pub fault-at : {n m : ℕ} {asked found : List P} {count : ℕ} → n ≡ m → Overflows n asked found count → Overflows m asked found count
  fault-at {asked = asked} {found} {count} e o = subst (λ (n : ℕ). Overflows n asked found count) e o

  pub found-at : {next : P → List P} {from : List P} {limit : ℕ} {before : List P} {number : ℕ} (xs ys : List P) → xs ≡ ys → Found next from limit before ys number → Found next from limit before xs number
  found-at {next} {from} {limit} {before} {number} xs ys e f = subst (λ (zs : List P). Found next from limit before zs number) (sym e) f

module _ {P : Type 0} where
  pub ready-of : (s : Search P) → Ready s.limit s.found.now s.count (entries s.waiting.now)
  ready-of s = record { fits = s.fits; within = s.within; waits = s.waits; distinct = s.distinct }

  -- what adding some places one after another comes to
  pub grown-nothing : (s : Search P) → Grown [] s s
  grown-nothing s = (added-nothing [] (ready-of s) (λ p h. absurd h), refl)

  module _ (asked : List P) (i : ℕ) (s t : Search P) (so_far : Grown (take i asked) s t) (x : P) (inside : i < length asked) (is : x ≡ get_or asked i x) where
    pub grown-more : (u : Search P) → Grown (x ∷ []) t u → Grown (take (i + 1) asked) s u
    grown-more u g = (added_more asked i x inside is so_far.0 (step-at so_far.1 g.0), g.1 ∙ so_far.1)

    pub overfull-more : Overfull (x ∷ []) t → Overfull asked s
    overfull-more o = overflows-more asked i x inside is so_far.0 (fault-at so_far.1 o)
