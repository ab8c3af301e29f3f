-- What stands in a list, and lists in which no place stands twice. Crates that use the search build on these lemmas.
use Rattle.std.proofs.Common.{◌≡◌, ℕ, ◌≤◌, Bool, false, ◌⊎◌, List, [], ◌∷◌, ◌++◌, length, Decides, sym, refl, ap, subst, inl, inr, ⊎_elim, zero-le, arith, length-append}
use Rattle.std.specs.List.{list_any}
use Rattle.std.proofs.lemmas.Bool.{or_cases, or_left, or_right, false≢true}
use Rattle.graph.specs.Reach.{Holds, Distinct, Reached, MoreThan}

module _ {P : Type 0} where
  -- what stands in one of two lists stands in both put together, and the other way round
  pub holds-left : (xs ys : List P) (p : P) → Holds xs p → Holds (xs ++ ys) p
  holds-left [] ys p h = absurd h
  holds-left (x ∷ xs) ys p (inl e) = inl e
  holds-left (x ∷ xs) ys p (inr h) = inr (holds-left xs ys p h)

  pub holds-right : (xs ys : List P) (p : P) → Holds ys p → Holds (xs ++ ys) p
  holds-right [] ys p h = h
  holds-right (x ∷ xs) ys p h = inr (holds-right xs ys p h)

  pub holds-cases : (xs ys : List P) (p : P) → Holds (xs ++ ys) p → Holds xs p ⊎ Holds ys p
  holds-cases [] ys p h = inr h
  holds-cases (x ∷ xs) ys p (inl e) = inl (inl e)
  holds-cases (x ∷ xs) ys p (inr h) = ⊎_elim (λ l. inl (inr l)) (λ r. inr r) (holds-cases xs ys p h)

  -- a list that holds a place can be cut right before it
  pub holds-split : (xs : List P) (p : P) → Holds xs p → (a : List P) × ((b : List P) × (xs ≡ a ++ p ∷ b))
  holds-split [] p h = absurd h
  holds-split (x ∷ xs) p (inl e) = ([], (xs, ap (λ q. q ∷ xs) e))
  holds-split (x ∷ xs) p (inr h) = let s = holds-split xs p h in (x ∷ s.0, (s.1.0, ap (λ r. x ∷ r) s.1.1))

  -- where `==` is sameness, `contains` answers whether the place stands in the list
  holds-decides : (eq : P → Bool) (p : P) → ((q : P) → Decides (eq q) (q ≡ p)) → (xs : List P) → Decides (list_any eq xs) (Holds xs p)
  holds-decides eq p law [] = (λ e. absurd (false≢true e), λ h. absurd h)
  holds-decides eq p law (x ∷ xs) =
      let rest = holds-decides eq p law xs in (
        λ t. ⊎_elim (λ e. inl ((law x).0 e)) (λ e. inr (rest.0 e)) (or_cases (eq x) (list_any eq xs) t),
        ⊎_elim (λ e. or_left (eq x) (list_any eq xs) ((law x).1 e)) (λ h. or_right (eq x) (list_any eq xs) (rest.1 h)),
      )

  pub holds-from-contains : (eq : P → Bool) (xs : List P) (p : P) (r : Bool) → ((q : P) → Decides (eq q) (q ≡ p)) → r ≡ list_any eq xs → Decides r (Holds xs p)
  holds-from-contains eq xs p r law is = subst (λ b. Decides b (Holds xs p)) (sym is) (holds-decides eq p law xs)

  -- a place that does not stand in the list can be put at its end
  pub distinct_push : (xs : List P) (p : P) → Distinct xs → (Holds xs p → ⊥) → Distinct (xs ++ p ∷ [])
  distinct_push [] p d no-p = ((λ h. h), tt)
  distinct_push (x ∷ xs) p (n, d) no-p =
      (λ h. ⊎_elim n (⊎_elim (λ e. no-p (inl (sym e))) (λ z. z)) (holds-cases xs (p ∷ []) x h), distinct_push xs p d (λ h. no-p (inr h)))

  -- a list with no place twice is no longer than a list that has all its places
  pub pigeonhole : (xs ys : List P) → Distinct xs → ((p : P) → Holds xs p → Holds ys p) → length xs ≤ length ys
  pigeonhole [] ys d sub = zero-le
  pigeonhole (x ∷ xs) ys (n, d) sub =
      let s = holds-split ys x (sub x (inl refl)) in
      let a = s.0 in
      let b = s.1.0 in
      let rest : (p : P) → Holds xs p → Holds (a ++ b) p =
      λ p h. ⊎_elim (λ l. holds-left a b p l) (⊎_elim (λ e. absurd (n (subst (Holds xs) (sym e) h))) (λ r. holds-right a b p r))
      (holds-cases a (x ∷ b) p (subst (λ (zs : List P). Holds zs p) s.1.1 (sub p (inr h)))) in
      let le = pigeonhole xs (a ++ b) d rest in
      omega (arith, le, length-append a b, length-append a (x ∷ b), ap length s.1.1)

  -- where all that can be reached stands in a list of at most `limit` places, no more than that can be reached
  pub not_more : {next : P → List P} {from : List P} (places : List P) (limit : ℕ) → ((p : P) → Reached next from p → Holds places p) → length places ≤ limit → MoreThan next from limit → ⊥
  not_more places limit all fits more =
      let le = pigeonhole more.places places more.distinct (λ p h. all p (more.sound p h)) in
      omega (arith, le, more.number)

-- a test that came out false
pub no-from-false : {A : Type 0} {r : Bool} → Decides r A → r ≡ false → A → ⊥
no-from-false d f a = let t = d.1 a in let z : ◌≡◌ {A = ℕ} 0 1 = cc in omega arith
