-- The nodes next to a node, and those that can be reached.
use Rattle.std.proofs.Common.{◌≡◌, ℕ, zero, suc, ◌+◌, ◌≤◌, Bool, true, false, cond, ◌&&◌, ◌||◌, eqb, leb, List, [], ◌∷◌, length, Ok, Err, Decides, Result, sym, refl, ap, ◌∙◌, subst, inl, inr, ⊎_elim, arith, eq-eqb}
use Rattle.std.proofs.lemmas.Bool.{cases_lt, and_parts, leb-true, eqb-true, or_cases, or_left, or_right, both_ways, false≢true}
use Rattle.fault.specs.declared.model.ModelFault.{ModelFault}
use Rattle.fault.specs.declared.model.ModelFault.TheVariants.{NotReached}
use Rattle.graph.specs.Reach.{Holds, start, step, AllReached, MoreThan}
use Rattle.graph.proofs.Holding.{not_more}
use Rattle.std.specs.List.{list_any}
use Rattle.process.specs.declared.flow.Flow.{Flow}
use Rattle.process.specs.declared.node.Kind.{Kind}
use Rattle.process.specs.Processes.{is_node, flow_formed, flows_formed, guard_in_range}
use Rattle.model.specs.Rules.{outgoing, is_start, checked}
use Rattle.model.specs.Sound.{successors, start_of, CanBeReached, ReachedVerdict, member}
use Rattle.model.proofs.Checks.{checked-all, checked-first}

pub successors-count : (flows : List Flow) (n : ℕ) → outgoing flows n ≡ length (successors flows n)
successors-count [] n = refl
successors-count (f ∷ fs) n =
    elim (eqb f.from n) as (λ b. cond b 1 0 + outgoing fs n ≡ length (cond b (f.to ∷ successors fs n) (successors fs n)))
    [ true ↦ omega (arith, successors-count fs n) | false ↦ omega (arith, successors-count fs n) ]

pub member-decides : (xs : List ℕ) (n : ℕ) → Decides (member xs n) (Holds xs n)
member-decides [] n = (λ e. absurd (false≢true e), λ h. absurd h)
member-decides (x ∷ xs) n =
    let rest = member-decides xs n in (
      λ e. ⊎_elim (λ t. inl (eqb-true x n t)) (λ t. inr (rest.0 t)) (or_cases (eqb x n) (member xs n) e),
      λ h. ⊎_elim (λ e. or_left (eqb x n) (member xs n) (eq-eqb x n e)) (λ m. or_right (eqb x n) (member xs n) (rest.1 m)) h,
    )

-- what `contains` answers
pub member-any : (xs : List ℕ) (n : ℕ) → list_any (λ y. eqb y n) xs ≡ member xs n
member-any [] n = refl
member-any (x ∷ xs) n = ap (λ b. eqb x n || b) (member-any xs n)

-- the numbers 1 to n
pub numbers : ℕ → List ℕ
numbers zero = []
numbers (suc k) = suc k ∷ numbers k

pub numbers-length : (n : ℕ) → length (numbers n) ≡ n
unfolding numbers
numbers-length zero = refl
numbers-length (suc k) = ap suc (numbers-length k)

pub numbers-hold : (n k : ℕ) → 1 ≤ k → k ≤ n → Holds (numbers n) k
unfolding numbers
numbers-hold zero k low high = absurd (omega arith)
numbers-hold (suc n) k low high = ⊎_elim (λ lt. inr (numbers-hold n k low (omega arith))) (λ ge. inl (omega arith)) (cases_lt k (suc n))

-- where the flows of a well formed process lead
successor-in : (nodes : List Kind) (fs : List Flow) (n m : ℕ) → flows_formed nodes fs ≡ true → Holds (successors fs n) m → (1 ≤ m) × (m ≤ length nodes)
successor-in nodes [] n m h s = absurd s
successor-in nodes (f ∷ fs) n m h s =
    let p = and_parts (flow_formed nodes f) (flows_formed nodes fs) h in
    let q = and_parts (is_node nodes f.from) (is_node nodes f.to && guard_in_range f.guard) p.0 in
    let r = and_parts (is_node nodes f.to) (guard_in_range f.guard) q.1 in
    let t = and_parts (leb 1 f.to) (leb f.to (length nodes)) r.0 in
    let low = leb-true 1 f.to t.0 in
    let high = leb-true f.to (length nodes) t.1 in
    among (eqb f.from n) (λ t. successor-in nodes fs n m p.1 t) low high s
  where
    among : (b : Bool) → (Holds (successors fs n) m → (1 ≤ m) × (m ≤ length nodes)) → 1 ≤ f.to → f.to ≤ length nodes → Holds (cond b (f.to ∷ successors fs n) (successors fs n)) m → (1 ≤ m) × (m ≤ length nodes)
    among true more low high (inl e) = (omega arith, omega arith)
    among true more low high (inr t) = more t
    among false more low high t = more t

start-low : (ks : List Kind) → 1 ≤ start_of ks
start-low [] = omega arith
start-low (k ∷ ks) = elim (is_start k) as (λ b. 1 ≤ cond b 1 (suc (start_of ks))) [ true ↦ omega arith | false ↦ omega arith ]

module _ (nodes : List Kind) (flows : List Flow) (formed : flows_formed nodes flows ≡ true) (there : start_of nodes ≤ length nodes) where
  reached-in : (n : ℕ) → CanBeReached nodes flows n → (1 ≤ n) × (n ≤ length nodes)
  reached-in n (start (inl e)) = (omega (arith, start-low nodes), omega arith)
  reached-in n (start (inr h)) = absurd h
  reached-in n (step {p} r h) = successor-in nodes flows p n formed h

  -- no more nodes can be reached than there are
  pub reached-few : (limit : ℕ) → length nodes ≤ limit → MoreThan (successors flows) (start_of nodes ∷ []) limit → ⊥
  reached-few limit fits more =
      not_more (numbers (length nodes)) limit (λ n r. let p = reached-in n r in numbers-hold (length nodes) n p.0 p.1) (omega (arith, numbers-length (length nodes))) more

  -- the same of the lists that the program holds
  pub searched-few : (fs : List Flow) (s limit : ℕ) → fs ≡ flows → s ≡ start_of nodes → length nodes ≤ limit → MoreThan (successors fs) (s ∷ []) limit → ⊥
  searched-few fs s limit e d fits more =
      reached-few limit fits (subst (λ x. MoreThan (successors flows) (x ∷ []) limit) d (subst (λ (xs : List Flow). MoreThan (successors xs) (s ∷ []) limit) e more))

-- the verdict of the check is that of the search
module _ (nodes : List Kind) (flows : List Flow) (places : List ℕ) (fs : List Flow) (s count : ℕ) (e : fs ≡ flows) (d : s ≡ start_of nodes) (c : count ≡ length nodes) (told : AllReached (successors fs) (s ∷ []) places) where
  all : AllReached (successors flows) (start_of nodes ∷ []) places
  all = subst (λ x. AllReached (successors flows) (x ∷ []) places) d (subst (λ (xs : List Flow). AllReached (successors xs) (s ∷ []) places) e told)

  fine : (r : Result (Unit {0}) ModelFault) → r ≡ checked (member places) NotReached count → checked (member places) NotReached (length nodes) ≡ r
  fine r h = ap (checked (member places) NotReached) (sym c) ∙ sym h

  pub reached-verdict : (r : Result (Unit {0}) ModelFault) → r ≡ checked (member places) NotReached count → ReachedVerdict nodes flows r
  reached-verdict (Ok tt) h = λ n low high. all.sound n ((member-decides places n).0 (checked-all (member places) NotReached (length nodes) (fine (Ok tt) h) n low high))
  reached-verdict (Err f) h =
      let p = checked-first (member places) NotReached (length nodes) f (fine (Err f) h) in (
        p.at,
        p.told,
        record {
          low = p.low;
          high = p.high;
          missed = λ r. both_ways (member places p.at) p.here ((member-decides places p.at).1 (all.complete p.at r));
          lower = λ k low high. all.sound k ((member-decides places k).0 (p.lower k low high));
        },
      )
