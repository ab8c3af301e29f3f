-- The path that is written from its end, one flow after the other from level to level.
use Rattle.std.proofs.Common.{◌≡◌, ℕ, zero, suc, ◌+◌, ◌-◌, ◌<◌, ◌≤◌, true, false, List, [], ◌∷◌, length, take, drop, set, sym, refl, ap, ◌∙◌, subst, inl, ⊎_elim, le_of_suc-le-suc, not-suc-le-zero, add-one, arith}
use Rattle.std.proofs.lemmas.Bool.{both_ways}
use Rattle.process.specs.declared.flow.Flow.{Flow}
use Rattle.process.specs.declared.sets.FlowSet.{FlowSet}
use Rattle.process.specs.Sets.{has}
use Rattle.paths.specs.Paths.{IsFlow, IsPath, Avoids, Reaches, Among, NoFlowTwice, Route}
use Rattle.paths.specs.Paths.IsPath.{alone, then}
use Rattle.paths.specs.Links.{Step}
use Rattle.paths.specs.Levels.{level, LevelsBelow}
use Rattle.paths.specs.Tables.{at_place}
use Rattle.paths.proofs.Walks.{avoids-more, reaching-flow, reached-flow}
use Rattle.paths.proofs.Distance.{level-flow, new-below, from-below, level-first}

-- what is written of the path: the places from `at` to `last`
abbrev pub written : List ℕ → ℕ → ℕ → List ℕ
written path last at = drop at (take (last + 1) path)

cut : (xs : List ℕ) (j n v : ℕ) → j < n → n ≤ length xs → drop j (take n (set xs j v)) ≡ v ∷ drop (suc j) (take n xs)
cut [] j n v h l = absurd (omega arith)
cut (x ∷ xs) j zero v h l = absurd (not-suc-le-zero h)
cut (x ∷ xs) zero (suc n) v h l = refl
cut (x ∷ xs) (suc j) (suc n) v h l = cut xs j n v (le_of_suc-le-suc h) (le_of_suc-le-suc l)

written-more : (path : List ℕ) (last at v : ℕ) → at ≤ last → last < length path → written (set path at v) last at ≡ v ∷ written path last (suc at)
written-more path last at v h l = cut path at (last + 1) v (omega arith) (omega arith)

past : (n : ℕ) (xs : List ℕ) → drop n (take n xs) ≡ []
past zero [] = refl
past zero (x ∷ xs) = refl
past (suc n) [] = refl
past (suc n) (x ∷ xs) = past n xs

written-first : (path : List ℕ) (last v : ℕ) → last < length path → written (set path last v) last last ≡ v ∷ []
written-first path last v l =
    written-more path last last v (omega arith) l
    ∙ ap (λ (xs : List ℕ). v ∷ xs) (subst (λ (n : ℕ). drop (suc last) (take n path) ≡ []) (sym (add-one last)) (past (suc last) path))

-- q is a path from the flow n of the level k to e, through levels that go up one by one
pub record Trail (flows : List Flow) (g f e k n : ℕ) (q : List ℕ) : Type 0 where
  pub path : IsPath flows n e q
  pub avoids : Avoids flows g q
  pub once : NoFlowTwice q
  pub here : has (level flows g f k) n ≡ true
  pub new : (x j : ℕ) → Among x q → j < k → has (level flows g f j) x ≡ false

head-among : {flows : List Flow} {n e : ℕ} {q : List ℕ} → IsPath flows n e q → Among n q
head-among (alone i) = inl refl
head-among (then i l p) = inl refl

module _ (flows : List Flow) (few : length flows ≤ 64) (g f e : ℕ) (start : IsFlow flows f) where
  trail-flow : (k n : ℕ) (q : List ℕ) → Trail flows g f e k n q → IsFlow flows n
  trail-flow k n q t = level-flow flows few g f start k n t.here

  trail-end : (k : ℕ) → IsFlow flows e → has (level flows g f k) e ≡ true → ((j : ℕ) → j < k → has (level flows g f j) e ≡ false) → Trail flows g f e k e (e ∷ [])
  trail-end k i h first =
      record {
        path = alone i;
        avoids = tt;
        once = (λ x. x, tt);
        here = h;
        new = λ x j a l. ⊎_elim (λ q. subst (λ (y : ℕ). has (level flows g f j) y ≡ false) (sym q) (first j l)) (λ q. absurd q) a;
      }

  -- some flow of the level below comes right before n
  trail-before : (k n : ℕ) (q : List ℕ) → Trail flows g f e (suc k) n q → (m : ℕ) × Step flows g m n × (has (level flows g f k) m ≡ true)
  trail-before k n q t = from-below flows few g f start k n t.here (t.new n k (head-among t.path) (omega arith))

  trail_more : (k n m : ℕ) (q : List ℕ) → Trail flows g f e (suc k) n q → Step flows g m n → has (level flows g f k) m ≡ true → Trail flows g f e k m (m ∷ q)
  trail_more k n m q t s h =
      record {
        path = then s.0 s.2 t.path;
        avoids = avoids-more flows g m q s.1 t.avoids;
        once = (λ a. both_ways _ (t.new m k a (omega arith)) h, t.once);
        here = h;
        new = λ x j a l.
            ⊎_elim (λ y. subst (λ (z : ℕ). has (level flows g f j) z ≡ false) (sym y)
            (new-below flows few g f start j m n (trail-flow (suc k) n q t) s (t.new n (suc j) (head-among t.path) (omega arith))))
            (λ y. t.new x j y (omega arith)) a;
      }

  trail-start : (n : ℕ) (q : List ℕ) → Trail flows g f e 0 n q → Route flows g f e q
  trail-start n q t = record { path = subst (λ (m : ℕ). IsPath flows m e q) (level-first flows few g f start n t.here) t.path; avoids = t.avoids; once = t.once }

-- the trail's level, as a successor
trail-above : (flows : List Flow) (g f e : ℕ) (path : List ℕ) (last at n : ℕ) → 0 < at → Trail flows g f e at n (written path last at) → Trail flows g f e (suc (at - 1)) n (written path last (suc (at - 1)))
trail-above flows g f e path last at n h t = subst (λ (k : ℕ). Trail flows g f e k n (written path last k)) (one_up at h) t
  where
    one_up : (at : ℕ) → 0 < at → at ≡ suc (at - 1)
    one_up at h = omega arith

trail-whole : (flows : List Flow) (few : length flows ≤ 64) (g f e : ℕ) (start : IsFlow flows f) (path : List ℕ) (last at n : ℕ) → at ≤ 0 → Trail flows g f e at n (written path last at) → Route flows g f e (take (last + 1) path)
trail-whole flows few g f e start path last zero n h t = trail-start flows few g f e start n (take (last + 1) path) t
trail-whole flows few g f e start path last (suc at) n h t = absurd (not-suc-le-zero h)

-- ---- the path along levels that are known

module _ (flows : List Flow) (few : length flows ≤ 64) (g f e : ℕ) (reached : Reaches flows g f e) (levels : List FlowSet) (below : LevelsBelow flows g f e levels) where
  start : IsFlow flows f
  start = reaching-flow flows g f e reached

  -- the list has a path from the flow n, which stands at the place `at`, to e
  abbrev pub Traced : List ℕ → ℕ → ℕ → Type 0
  Traced list at n = Trail flows g f e at n (written list (length levels) at)

  pub traced-first : (list : List ℕ) → length list ≡ 64 → Traced (set list (length levels) e) (length levels) e
  traced-first list long =
      let within : length levels < length list = omega (arith, below.few) in
      subst (Trail flows g f e (length levels) e) (sym (written-first list (length levels) e within))
      (trail-end flows few g f e start (length levels) (reached-flow flows g f e reached) below.found below.first)

  pub traced-before : (list : List ℕ) (at n : ℕ) → 0 < at → at ≤ length levels → Traced list at n → (m : ℕ) × Step flows g m n × (has (at_place levels (at - 1)) m ≡ true)
  traced-before list at n low high t =
      let m = trail-before flows few g f e start (at - 1) n (written list (length levels) (suc (at - 1))) (trail-above flows g f e list (length levels) at n low t) in
      (m.0, m.1, ap (λ (s : FlowSet). has s m.0) (below.each (at - 1) (omega arith)) ∙ m.2)

  pub traced-more : (list : List ℕ) (at n m : ℕ) → length list ≡ 64 → 0 < at → at ≤ length levels → Traced list at n
      → Step flows g m n × (has (at_place levels (at - 1)) m ≡ true) → Traced (set list (at - 1) m) (at - 1) m
  traced-more list at n m long low high t s =
      let within : length levels < length list = omega (arith, below.few) in
      let in-level = ap (λ (s : FlowSet). has s m) (sym (below.each (at - 1) (omega arith))) ∙ s.1 in
      subst (Trail flows g f e (at - 1) m) (sym (written-more list (length levels) (at - 1) m (omega arith) within))
      (trail_more flows few g f e start (at - 1) n m (written list (length levels) (suc (at - 1))) (trail-above flows g f e list (length levels) at n low t) s.0 in-level)

  pub traced-whole : (list : List ℕ) (at n : ℕ) → at ≤ 0 → Traced list at n → Route flows g f e (take (length levels + 1) list)
  traced-whole list at n none t = trail-whole flows few g f e start list (length levels) at n none t
