-- What a write behind the last entry, and a step past the first, do to the entries of a ring.
use Rattle.std.proofs.Common.{◌≡◌, ℕ, zero, suc, ◌+◌, ◌-◌, ◌<◌, ◌≤◌, List, [], ◌∷◌, ◌++◌, length, get_or, take, drop, set, sym, ap, ◌∙◌, append_assoc, not-suc-le-zero, arith, length-append, length-drop, length-take, take_all, drop-set-lt}
use lib.Seq.{take-set-lt, take-set-le, drop-set-add, set-append_left, take-append-le}
use Rattle.std.proofs.lemmas.List.{append-nil, set-append_right, take_more_set, take_more, drop_more, drop_all}
use Rattle.graph.specs.Ring.{ring}

module _ {X : Type 0} (m : List X) (f : ℕ) (inside : f ≤ length m) where
  -- a ring is as long as its memory, and holds as many entries as are counted
  pub turned-length : length (drop f m ++ take f m) ≡ length m
  turned-length = simp (length-append, length-drop, length-take) (omega arith)

  pub ring-length : (c : ℕ) → c ≤ length m → length (ring m f c) ≡ c
  ring-length c h = length-take c (drop f m ++ take f m) ∙ omega (arith, turned-length)

  -- an entry is written behind the last one, before the memory's end or round it
  pub put-behind : (c : ℕ) (x : X) → c < length m - f → ring (set m (f + c) x) f (c + 1) ≡ ring m f c ++ x ∷ []
  put-behind c x h =
      let front : c < length (drop f m) = simp length-drop (omega arith) in
      let low : f ≤ f + c = omega arith in
      let all : c < length (drop f m ++ take f m) = omega (arith, turned-length) in
      rw (drop-set-add f m c x, take-set-le f m (f + c) x low, ← set-append_left (drop f m) (take f m) c x front)
      (take_more_set (drop f m ++ take f m) c x all)

  pub put-before : (c : ℕ) (x : X) → c < length m → length m - f ≤ c → ring (set m (c - (length m - f)) x) f (c + 1) ≡ ring m f c ++ x ∷ []
  put-before c x lt h =
      let low : c - (length m - f) < f = omega arith in
      let all : c < length (drop f m ++ take f m) = omega (arith, turned-length) in
      rw (drop-set-lt f m (c - (length m - f)) x low, take-set-lt f m (c - (length m - f)) x low, ← set-append_right (drop f m) (take f m) (length m - f) c x (length-drop f m) h)
      (take_more_set (drop f m ++ take f m) c x all)

pub take-cons : {X : Type 0} (x : X) (xs : List X) (c : ℕ) → 0 < c → take c (x ∷ xs) ≡ x ∷ take (c - 1) xs
take-cons x xs zero h = absurd (not-suc-le-zero h)
take-cons x xs (suc n) h = let e : n ≡ suc n - 1 = omega arith in ap (λ k. x ∷ take k xs) e

-- the first entry stands where the ring begins, and the others form the ring from the next place on
pub take-first : {X : Type 0} (m : List X) (f c : ℕ) (d : X) → f < length m → 0 < c → c ≤ length m → ring m f c ≡ get_or m f d ∷ ring m (f + 1) (c - 1)
take-first m f c d h some fits =
    let long : c - 1 ≤ length (drop (f + 1) m ++ take f m) = simp (length-append, length-drop, length-take) (omega arith) in
    let here : ring m f c ≡ take c (get_or m f d ∷ (drop (f + 1) m ++ take f m)) = ap (λ t. take c (t ++ take f m)) (drop_more m f d h) in
    let there : ring m (f + 1) (c - 1) ≡ take (c - 1) (drop (f + 1) m ++ take f m) =
    ap (λ t. take (c - 1) (drop (f + 1) m ++ t)) (take_more m f d h)
    ∙ ap (take (c - 1)) (sym (append_assoc (drop (f + 1) m) (take f m) (get_or m f d ∷ [])))
    ∙ take-append-le (c - 1) (drop (f + 1) m ++ take f m) (get_or m f d ∷ []) long in
    here ∙ take-cons (get_or m f d) (drop (f + 1) m ++ take f m) c some ∙ ap (λ t. get_or m f d ∷ t) (sym there)

-- the end of the memory stands for its start
pub wrapped : {X : Type 0} (m : List X) (f c : ℕ) → f ≡ length m → ring m f c ≡ ring m 0 c
wrapped m f c e =
    let past : length m ≤ f = omega arith in
    let start : drop f m ++ take f m ≡ m = rw (drop_all f m past, take_all f m past) in
    ap (take c) (start ∙ sym (append-nil m))
