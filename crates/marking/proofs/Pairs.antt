-- The pairs of a gateway with the flows that carry a token: how they are lined up, and how many of them count.
use Rattle.std.proofs.Common.{◌≡◌, ℕ, zero, suc, ◌+◌, ◌<◌, ◌≤◌, Bool, true, false, cond, List, [], ◌∷◌, ◌++◌, map, length, Ok, Err, Result, sym, refl, ap, ◌∙◌, append_assoc, arith, length-append, MatchResult}
use Rattle.std.proofs.lemmas.Bool.{both_ways}
use Rattle.fault.specs.declared.graph.GraphFault.{GraphFault}
use Rattle.fault.specs.declared.graph.GraphFault.TheVariants.{Full}
use Rattle.graph.specs.declared.worklist.WorkList.{WorkList}
use Rattle.graph.specs.Ring.{entries, capacity}
use Rattle.process.specs.declared.sets.FlowSet.{FlowSet}
use Rattle.process.specs.Sets.{has, among, above, tally}
use Rattle.process.proofs.Ordered.{above-length}
use Rattle.model.specs.Rules.{how_many}
use Rattle.paths.proofs.Counts.{tally-le}

-- the gateway with each of the flows
abbrev pub pairs : ℕ → List ℕ → List (ℕ × ℕ)
pairs g = map (λ f. (g, f))

-- ---- lining up

-- there are as many pairs as flows
pairs-length : (g : ℕ) (fs : List ℕ) → length (pairs g fs) ≡ length fs
pairs-length g [] = refl
pairs-length g (f ∷ fs) = ap suc (pairs-length g fs)

-- of all the flows, f and those behind it are yet to be lined up
module _ (g f : ℕ) (rest all : List ℕ) (few : length all ≤ 64) (work : WorkList (ℕ × ℕ)) (inv : entries work ++ ((g, f) ∷ pairs g rest) ≡ pairs g all) where
  -- so not all places are taken
  room : length (entries work) < 64
  room =
      let whole = sym (length-append (entries work) ((g, f) ∷ pairs g rest)) ∙ ap length inv ∙ pairs-length g all in
      omega arith

  -- the next pair finds room, and is lined up behind the others
  pub lined-more : (next : WorkList (ℕ × ℕ)) (r : Result (Unit {0}) GraphFault) → capacity work ≡ 64
      → MatchResult r (λ _. (length (entries work) < capacity work) × (entries next ≡ entries work ++ (g, f) ∷ [])) (λ e. (e ≡ Full) × (length (entries work) ≡ capacity work) × (next ≡ work))
      → entries next ++ pairs g rest ≡ pairs g all
  lined-more next (Ok u) places h = ap (λ (ps : List (ℕ × ℕ)). ps ++ pairs g rest) h.1 ∙ append_assoc (entries work) ((g, f) ∷ []) (pairs g rest) ∙ inv
  lined-more next (Err u) places h = let l = room in absurd (omega (arith, h.1))

-- ---- counting

-- how many of the waiting pairs have a flow of the set
abbrev counted : FlowSet → List (ℕ × ℕ) → ℕ
counted held = how_many (λ (p : ℕ × ℕ). has held p.1)

-- what was counted, with what is yet to be, is all there is
abbrev pub InAll : FlowSet → ℕ → List (ℕ × ℕ) → Type 0
InAll held number waiting = number + counted held waiting ≡ tally (has held) 64

module _ (s held : FlowSet) (within : (f : ℕ) → has held f ≡ true → has s f ≡ true) (g : ℕ) where
  -- of the pairs of some tokens, as many count as there are flows of a smaller set
  count-among : (k n : ℕ) → counted held (pairs g (among s n k)) ≡ length (among held n k)
  unfolding among
  count-among zero n = refl
  count-among (suc k) n = by (has s n) (has held n) refl (within n) (count-among k (suc n))
    where
      by : (a b : Bool) → has held n ≡ b → (b ≡ true → a ≡ true) → counted held (pairs g (among s (suc n) k)) ≡ length (among held (suc n) k)
          → counted held (pairs g (cond a (n ∷ among s (suc n) k) (among s (suc n) k))) ≡ length (cond b (n ∷ among held (suc n) k) (among held (suc n) k))
      by true true t i e = rw t (omega arith)
      by true false t i e = rw t (omega arith)
      by false true t i e = absurd (both_ways false refl (i refl))
      by false false t i e = e

  -- before any is taken
  pub count-start : (waiting : List (ℕ × ℕ)) → waiting ≡ pairs g (above s 0) → InAll held 0 waiting
  unfolding above
  count-start waiting e = let all = ap (counted held) e ∙ count-among 64 1 ∙ above-length held in omega arith

module _ (held : FlowSet) (number : ℕ) (waiting : List (ℕ × ℕ)) (inv : InAll held number waiting) where
  -- a pair that counts makes no more than 64
  pub count_fits : (g f : ℕ) (rest : List (ℕ × ℕ)) → waiting ≡ (g, f) ∷ rest → has held f ≡ true → number + 1 ≤ 64
  count_fits g f rest e t =
      let most = tally-le (has held) 64 in
      let one : ◌≡◌ {A = ℕ} (cond (has held f) 1 0) 1 = ap (λ (b : Bool). cond b 1 0) t in
      let front = ap (counted held) e in
      omega arith

  -- when none is left
  pub count-all : waiting ≡ [] → number ≡ tally (has held) 64
  count-all e = let none = ap (counted held) e in omega arith
