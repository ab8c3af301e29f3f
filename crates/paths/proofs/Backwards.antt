-- The search backwards from a flow finds the flows from which a walk ends in it.
use Rattle.std.proofs.Common.{◌≡◌, ℕ, zero, suc, ◌+◌, ◌<◌, ◌≤◌, Bool, true, false, cond, List, [], ◌∷◌, length, Decides, sym, refl, ap, ◌∙◌, subst, inl, inr, ⊎_elim, arith}
use Rattle.std.proofs.lemmas.Bool.{cases_eq, both_ways, and_parts, eqb-true, eq-eqb, or_cases, or_left, or_right}
use Rattle.graph.specs.Reach.{Holds, Reached, start, step, AllReached, MoreThan}
use Rattle.graph.proofs.Holding.{not_more}
use Rattle.process.specs.declared.flow.Flow.{Flow}
use Rattle.process.specs.declared.sets.FlowSet.{FlowSet}
use Rattle.process.specs.Sets.{has, just, these, among, above}
use Rattle.process.proofs.Membership.{has-no_flows, has-just, has_one, has-joined, these-none, these-more}
use Rattle.model.proofs.Reaching.{numbers, numbers-length, numbers-hold}
use Rattle.paths.specs.Paths.{IsFlow, Reaches}
use Rattle.paths.specs.Links.{leaders}
use Rattle.paths.proofs.Chosen.{leads, led}
use Rattle.paths.proofs.Walks.{Walk, listed, walked, starts}
use Rattle.paths.proofs.Walks.Walk.{stop, go}

-- ---- sets as lists, and lists as sets

module _ (s : FlowSet) where
  among-has : (k n f : ℕ) → Holds (among s n k) f → has s f ≡ true
  unfolding among
  among-has zero n f h = absurd h
  among-has (suc k) n f h = by (has s n) refl (among-has k (suc n) f) h
    where
      by : (b : Bool) → has s n ≡ b → (Holds (among s (suc n) k) f → has s f ≡ true) → Holds (cond b (n ∷ among s (suc n) k) (among s (suc n) k)) f → has s f ≡ true
      by true t more (inl e) = ap (has s) (sym e) ∙ t
      by true t more (inr q) = more q
      by false t more q = more q

  among-holds : (k n f : ℕ) → n ≤ f → f < n + k → has s f ≡ true → Holds (among s n k) f
  unfolding among
  among-holds zero n f low high t = absurd (omega arith)
  among-holds (suc k) n f low high t = by (has s n) refl (λ ne. among-holds k (suc n) f (omega arith) (omega arith) t)
    where
      by : (b : Bool) → has s n ≡ b → ((n ≡ f → ⊥) → Holds (among s (suc n) k) f) → Holds (cond b (n ∷ among s (suc n) k) (among s (suc n) k)) f
      by true q later = ⊎_elim inl (λ ne. inr (later ne)) (cases_eq n f)
      by false q later = later (λ e. both_ways _ q (ap (has s) e ∙ t))

  among-range : (k n f : ℕ) → Holds (among s n k) f → (n ≤ f) × (f < n + k)
  unfolding among
  among-range zero n f h = absurd h
  among-range (suc k) n f h = by (has s n) (among-range k (suc n) f) h
    where
      later : (suc n ≤ f) × (f < suc n + k) → (n ≤ f) × (f < n + suc k)
      later p = (omega (arith, p.0), omega (arith, p.1))

      by : (b : Bool) → (Holds (among s (suc n) k) f → (suc n ≤ f) × (f < suc n + k)) → Holds (cond b (n ∷ among s (suc n) k) (among s (suc n) k)) f → (n ≤ f) × (f < n + suc k)
      by true more (inl e) = (omega (arith, e), omega (arith, e))
      by true more (inr q) = later (more q)
      by false more q = later (more q)

  pub above-range : (f : ℕ) → Holds (above s 0) f → (1 ≤ f) × (f ≤ 64)
  unfolding above
  above-range f h = let p = among-range 64 1 f h in (p.0, omega (arith, p.1))

  pub above-has : (f : ℕ) → Holds (above s 0) f → has s f ≡ true
  unfolding above
  above-has f h = among-has 64 1 f h

  pub above_holds : (f : ℕ) → 1 ≤ f → f ≤ 64 → has s f ≡ true → Holds (above s 0) f
  unfolding above
  above_holds f low high t = among-holds 64 1 f low (omega arith) t

these-hold : (ns : List ℕ) (f : ℕ) → has (these ns) f ≡ true → Holds ns f
these-hold [] f h = absurd (both_ways _ (has-no_flows f) (ap (λ (s : FlowSet). has s f) (sym these-none) ∙ h))
these-hold (n ∷ ns) f h =
    ⊎_elim (λ t. inl (sym (eqb-true f n (and_parts _ _ (sym (has-just n f) ∙ t)).1))) (λ t. inr (these-hold ns f t))
    (or_cases _ _ (sym (has-joined (just n) (these ns) f) ∙ ap (λ (s : FlowSet). has s f) (sym (these-more n ns)) ∙ h))

these-have : (ns : List ℕ) (f : ℕ) → 1 ≤ f → f ≤ 64 → Holds ns f → has (these ns) f ≡ true
these-have [] f low high h = absurd h
these-have (n ∷ ns) f low high h =
    ap (λ (s : FlowSet). has s f) (these-more n ns) ∙ has-joined (just n) (these ns) f
    ∙ ⊎_elim (λ e. or_left _ _ (has_one n f (omega arith) (omega arith) ∙ eq-eqb f n (sym e))) (λ q. or_right _ _ (these-have ns f low high q)) h

-- ---- the search

-- the flows that may come right before a flow, as the search sees them
abbrev pub before : List Flow → ℕ → ℕ → List ℕ
before flows g n = above (leaders flows g n) 0

module _ (flows : List Flow) (few : length flows ≤ 64) (g e : ℕ) (end : IsFlow flows e) where
  reached-walks : {f : ℕ} → Reached (before flows g) (e ∷ []) f → Walk flows g f e
  reached-walks (start (inl q)) = subst (λ (f : ℕ). Walk flows g f e) q (stop end)
  reached-walks (start (inr h)) = absurd h
  reached-walks (step {p = n} {q = m} r h) =
      let s = leads flows few g m n (above-has (leaders flows g n) m h) in
      go s.0 s.1 s.2 (reached-walks r)

  walks-reached : {f x : ℕ} → x ≡ e → Walk flows g f x → Reached (before flows g) (e ∷ []) f
  walks-reached q (stop i) = start (inl (sym q))
  walks-reached q (go {f = m} {n = n} i a l w) =
      step (walks-reached q w) (above_holds (leaders flows g n) m i.0 (omega (arith, i.1)) (led flows few g m n (i, a, l)))

  -- no more flows are reached than there are
  pub searched-few : MoreThan (before flows g) (e ∷ []) 64 → ⊥
  searched-few more =
      not_more (numbers (length flows)) 64 (λ f r. let i = starts flows g (reached-walks r) in numbers-hold (length flows) f i.0 i.1) (omega (arith, numbers-length (length flows))) more

  -- what the search found, as a set
  pub found-decides : (places : List ℕ) (r : FlowSet) → AllReached (before flows g) (e ∷ []) places → r ≡ these places → (f : ℕ) → Decides (has r f) (Reaches flows g f e)
  found-decides places r all is f = (
    λ h. listed flows g (reached-walks (all.sound f (these-hold places f (ap (λ (s : FlowSet). has s f) (sym is) ∙ h)))),
    λ p.
        let w = walked flows g p.1 p.2 in
        let i = starts flows g w in
        ap (λ (s : FlowSet). has s f) is ∙ these-have places f i.0 (omega (arith, i.1)) (all.complete f (walks-reached refl w)),
  )
