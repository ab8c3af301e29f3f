-- The levels of flows around a flow, how many there can be, and that they tell what the flow reaches.
use Rattle.std.proofs.Common.{◌≡◌, ℕ, zero, suc, ◌+◌, ◌<◌, ◌≤◌, true, false, ◌&&◌, ◌⊎◌, List, [], ◌∷◌, ◌++◌, length, Decides, sym, refl, ap, ◌∙◌, subst, inl, inr, ⊎_elim, le_refl, zero-add, add-one, arith, length-append}
use Rattle.std.proofs.Math.ListN.{get_or-append}
use Rattle.std.proofs.Math.Seq.{get_or-append_seam}
use Rattle.std.proofs.lemmas.Bool.{eqb-true, eq-eqb, cases_eq, cases_Bool, both_ways, and_parts, and_from, or_cases, or_left, or_right, not-true, not_from_false}
use Rattle.process.specs.declared.flow.Flow.{Flow}
use Rattle.process.specs.declared.sets.FlowSet.{FlowSet}
use Rattle.process.specs.Sets.{has, just, shared, is_none, tally}
use Rattle.process.proofs.Membership.{has_one, has-joined, has-shared, none-in-zero, some_in}
use Rattle.paths.specs.Paths.{IsFlow, Reaches}
use Rattle.paths.specs.Links.{Step, leaders}
use Rattle.paths.specs.Tables.{at_place}
use Rattle.paths.specs.Levels.{comes_after, grown, level}
use Rattle.paths.proofs.Chosen.{chosen-has, has_chosen, leads, led}
use Rattle.paths.proofs.Counts.{tally-strict, tally-le}
use Rattle.paths.proofs.Walks.{Walk, listed, walked, starts, onward, reaching-flow}
use Rattle.paths.proofs.Walks.Walk.{stop, go}

shift : (d k : ℕ) → d + suc k ≡ suc d + k
shift d k = omega arith

-- ---- one step on

module _ (flows : List Flow) (few : length flows ≤ 64) (g : ℕ) where
  -- the flows of near that n may come right after
  pub before-has : (near all both : FlowSet) (n m : ℕ) → all ≡ leaders flows g n → both ≡ shared all near → has both m ≡ (has (leaders flows g n) m && has near m)
  before-has near all both n m a b = ap (λ (s : FlowSet). has s m) (b ∙ ap (λ (s : FlowSet). shared s near) a) ∙ has-shared (leaders flows g n) near m

  grown-kept : (s : FlowSet) (x : ℕ) → has s x ≡ true → has (grown flows g s) x ≡ true
  unfolding grown
  grown-kept s x h = has-joined s _ x ∙ or_left _ _ h

  grown-next : (s : FlowSet) (m x : ℕ) → IsFlow flows x → Step flows g m x → has s m ≡ true → has (grown flows g s) x ≡ true
  unfolding grown comes_after
  grown-next s m x i t h = has-joined s _ x ∙ or_right _ _ (chosen-has (comes_after flows g s) (length flows) x few i.0 i.1 (not_from_false _ some))
    where
      some : is_none (shared (leaders flows g x) s) ≡ false
      some =
          ⊎_elim (λ z. absurd (both_ways _ (none-in-zero (shared (leaders flows g x) s) z m) (has-shared (leaders flows g x) s m ∙ and_from _ _ (led flows few g m x t) h)))
          (λ z. z) (cases_Bool (is_none (shared (leaders flows g x) s)))

  grown-ways : (s : FlowSet) (x : ℕ) → has (grown flows g s) x ≡ true → (has s x ≡ true) ⊎ (IsFlow flows x × ((m : ℕ) × Step flows g m x × (has s m ≡ true)))
  unfolding grown comes_after
  grown-ways s x h = ⊎_elim inl (λ q. inr (new (has_chosen (comes_after flows g s) (length flows) x q))) (or_cases _ _ (sym (has-joined s _ x) ∙ h))
    where
      new : (1 ≤ x) × (x ≤ length flows) × (comes_after flows g s x ≡ true) → IsFlow flows x × ((m : ℕ) × Step flows g m x × (has s m ≡ true))
      new c =
          let m = some_in (shared (leaders flows g x) s) (not-true _ c.2) in
          let b = and_parts _ _ (sym (has-shared (leaders flows g x) s m.0) ∙ m.1) in
          ((c.0, c.1), (m.0, leads flows few g m.0 x b.0, b.1))

  -- ---- the levels around f

  module _ (f : ℕ) (start : IsFlow flows f) where
    pub level-kept : (k x : ℕ) → has (level flows g f k) x ≡ true → has (level flows g f (suc k)) x ≡ true
    unfolding level
    level-kept k x h = grown-kept (level flows g f k) x h

    pub level-first : (x : ℕ) → has (level flows g f 0) x ≡ true → x ≡ f
    unfolding level
    level-first x h = eqb-true x f (sym (has_one f x start.0 (omega (arith, few, start.1))) ∙ h)

    at-start : (k : ℕ) → has (level flows g f k) f ≡ true
    unfolding level
    at-start zero = has_one f f start.0 (omega (arith, few, start.1)) ∙ eq-eqb f f refl
    at-start (suc k) = level-kept k f (at-start k)

    pub level-flow : (k x : ℕ) → has (level flows g f k) x ≡ true → IsFlow flows x
    unfolding level
    level-flow zero x h = subst (IsFlow flows) (sym (level-first x h)) start
    level-flow (suc k) x h = ⊎_elim (level-flow k x) (λ n. n.0) (grown-ways (level flows g f k) x h)

    level-next : (k m x : ℕ) → IsFlow flows x → Step flows g m x → has (level flows g f k) m ≡ true → has (level flows g f (suc k)) x ≡ true
    unfolding level
    level-next k m x i t h = grown-next (level flows g f k) m x i t h

    -- a flow that is new at level k + 1 comes right after one at level k
    pub from-below : (k x : ℕ) → has (level flows g f (suc k)) x ≡ true → has (level flows g f k) x ≡ false → (m : ℕ) × Step flows g m x × (has (level flows g f k) m ≡ true)
    unfolding level
    from-below k x h ne = ⊎_elim (λ q. absurd (both_ways _ ne q)) (λ n. n.1) (grown-ways (level flows g f k) x h)

    -- which is new there, since x is not in level k + 1
    pub new-below : (k m x : ℕ) → IsFlow flows x → Step flows g m x → has (level flows g f (suc k)) x ≡ false → has (level flows g f k) m ≡ false
    new-below k m x i t ne = ⊎_elim (λ q. absurd (both_ways _ ne (level-next k m x i t q))) (λ q. q) (cases_Bool (has (level flows g f k) m))

    level-count : (k x : ℕ) → has (level flows g f (suc k)) x ≡ true → has (level flows g f k) x ≡ false → suc (suc k) ≤ tally (has (level flows g f (suc k))) (length flows)
    level-count zero x h ne =
        let i = level-flow 1 x h in
        let one = tally-strict (λ _. false) (has (level flows g f 0)) (length flows) f (λ k q. absurd (both_ways false refl q)) start.0 start.1 refl (at-start 0) in
        let more = tally-strict (has (level flows g f 0)) (has (level flows g f 1)) (length flows) x (λ k. level-kept 0 k) i.0 i.1 ne h in
        omega arith
    level-count (suc k) x h ne =
        let i = level-flow (suc (suc k)) x h in
        let b = from-below (suc k) x h ne in
        let rest = level-count k b.0 b.2 (new-below k b.0 x i b.1 ne) in
        let more = tally-strict (has (level flows g f (suc k))) (has (level flows g f (suc (suc k)))) (length flows) x (λ j. level-kept (suc k) j) i.0 i.1 ne h in
        omega arith

    -- a walk on from a flow of level k ends in some level
    along : {x e : ℕ} → Walk flows g x e → (k : ℕ) → has (level flows g f k) x ≡ true → (d : ℕ) × (has (level flows g f (d + k)) e ≡ true)
    along (stop {f = x} i) k h = (0, subst (λ (j : ℕ). has (level flows g f j) x ≡ true) (omega arith) h)
    along {e = e} (go {f = x} {n = n} i a l w) k h =
        let r = along w (suc k) (level-next k x n (starts flows g w) (i, a, l) h) in
        (suc r.0, subst (λ (j : ℕ). has (level flows g f j) e ≡ true) (shift r.0 k) r.1)

    cross : (e d k : ℕ) → has (level flows g f k) e ≡ false → has (level flows g f (d + k)) e ≡ true → (j : ℕ) × (k ≤ j) × (has (level flows g f j) e ≡ false) × (has (level flows g f (suc j)) e ≡ true)
    cross e zero k ne h = absurd (both_ways _ ne (subst (λ (j : ℕ). has (level flows g f j) e ≡ true) (zero-add k) h))
    cross e (suc d) k ne h =
        ⊎_elim (λ q. (k, le_refl k, ne, q))
        (λ q. let r = cross e d (suc k) q (subst (λ (j : ℕ). has (level flows g f j) e ≡ true) (sym (shift d k)) h) in (r.0, omega (arith, r.1), r.2, r.3))
        (cases_Bool (has (level flows g f (suc k)) e))

    pub not-far : (e k : ℕ) → Reaches flows g f e → has (level flows g f k) e ≡ false → k + 1 < length flows
    not-far e k r ne =
        let d = along (walked flows g r.1 r.2) k (at-start k) in
        let j = cross e d.0 k ne d.1 in
        let count = level-count j.0 e j.3 j.2 in
        let most = tally-le (has (level flows g f (suc j.0))) (length flows) in
        omega (arith, count, most, j.1)

    -- what is in a level is reached
    level-walks : (k x : ℕ) → has (level flows g f k) x ≡ true → Walk flows g f x
    unfolding level
    level-walks zero x h = subst (λ (y : ℕ). Walk flows g f y) (sym (level-first x h)) (stop start)
    level-walks (suc k) x h =
        ⊎_elim (level-walks k x) (λ n. onward flows g (level-walks k n.1.0 n.1.2) n.1.1.1 n.1.1.2 n.0)
        (grown-ways (level flows g f k) x h)

    -- and what is reached is in the last level
    pub level-decides : (e : ℕ) → Decides (has (level flows g f (length flows)) e) (Reaches flows g f e)
    level-decides e = (
      λ h. listed flows g (level-walks (length flows) e h),
      λ r. ⊎_elim (λ t. t) (λ t. absurd (omega (arith, not-far e (length flows) r t))) (cases_Bool (has (level flows g f (length flows)) e)),
    )

-- ---- the loop that makes the levels

-- The sets are the first levels around f, none of which has e, and s is the next.
pub record Climb (flows : List Flow) (g f e : ℕ) (sets : List FlowSet) (s : FlowSet) : Type 0 where
  pub few : length sets < 64
  pub each : (k : ℕ) → k < length sets → at_place sets k ≡ level flows g f k
  pub next : s ≡ level flows g f (length sets)
  pub first : (k : ℕ) → k < length sets → has (level flows g f k) e ≡ false

module _ (flows : List Flow) (few : length flows ≤ 64) (g f e : ℕ) (reached : Reaches flows g f e) where
  pub climb-start : (sets : List FlowSet) (s : FlowSet) → sets ≡ [] → s ≡ just f → Climb flows g f e sets s
  unfolding level
  climb-start sets s none one =
      let zero-long : length sets ≡ 0 = ap length none in
      record {
        few = omega arith;
        each = λ k l. absurd (omega arith);
        next = one ∙ ap (level flows g f) (sym zero-long);
        first = λ k l. absurd (omega arith);
      }

  pub climb-more : (sets more : List FlowSet) (s next : FlowSet) → Climb flows g f e sets s → has s e ≡ false → more ≡ sets ++ s ∷ [] → next ≡ grown flows g s → Climb flows g f e more next
  unfolding level
  climb-more sets more s next c ne put is =
      let n = length sets in
      let long : length more ≡ n + 1 = ap length put ∙ length-append sets (s ∷ []) in
      let missing : has (level flows g f n) e ≡ false = ap (λ (t : FlowSet). has t e) (sym c.next) ∙ ne in
      let far = not-far flows few g f (reaching-flow flows g f e reached) e n reached missing in
      let at : (k : ℕ) → at_place more k ≡ at_place (sets ++ s ∷ []) k = λ k. ap (λ (ts : List FlowSet). at_place ts k) put in
      record {
        few = omega arith;
        each = λ k l.
            ⊎_elim (λ q. at k ∙ ap (at_place (sets ++ s ∷ [])) q ∙ get_or-append_seam sets s [] (record { bits = 0 }) ∙ c.next ∙ ap (level flows g f) (sym q))
            (λ q. let l' : k < n = omega arith in at k ∙ get_or-append sets (s ∷ []) (record { bits = 0 }) k l' ∙ c.each k l') (cases_eq k n);
        next = is ∙ ap (grown flows g) c.next ∙ ap (level flows g f) (sym (long ∙ add-one n));
        first = λ k l. ⊎_elim (λ q. ap (λ (j : ℕ). has (level flows g f j) e) q ∙ missing) (λ q. c.first k (omega arith)) (cases_eq k n);
      }
