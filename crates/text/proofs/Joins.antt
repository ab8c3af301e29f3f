-- Pieces, and the bytes that they are cut from.
use Rattle.std.proofs.Common.{◌≡◌, ℕ, ◌+◌, ◌<◌, true, false, cond, not, eqb, List, [], ◌∷◌, ◌++◌, length, sym, refl, ap, ◌∙◌, subst, ⊎_elim, arith, length-append}
use Rattle.std.specs.List.{AllByRecursion as All, All as Each, slice_split, join_with_byte}
use Rattle.std.proofs.lemmas.Bool.{and_from, and_parts, not_from_false, not-true, eq-eqb, ne_eqb}
use Rattle.std.proofs.lemmas.Bool.Decides.{eqb_tells}
use Rattle.std.proofs.lemmas.List.Recursion.{and_at}
use Rattle.std.proofs.lemmas.List.Splits.{join_with_byte-slice_split, slice_split_at, slice_split_none}
use Rattle.text.specs.Pieces.{before_first, pieces, joined, lacks}
use Rattle.text.proofs.Cuts.{pieces-is, pieces-some}

-- ---- the joined pieces are the bytes

joined-is : (sep : ℕ) (ws : List (List ℕ)) → joined sep ws ≡ join_with_byte sep ws
joined-is sep [] = refl
joined-is sep (w ∷ []) = refl
joined-is sep (w ∷ v ∷ vs) = ap (λ l. w ++ (sep ∷ l)) (joined-is sep (v ∷ vs))

pub joined-pieces : (sep : ℕ) (bs : List ℕ) → joined sep (pieces sep bs) ≡ bs
joined-pieces sep bs = ap (joined sep) (pieces-is sep bs) ∙ joined-is sep (slice_split (λ b. eqb b sep) bs) ∙ join_with_byte-slice_split sep bs

-- ---- how long the pieces are

-- the bytes of some pieces, each with a separator
abbrev pub weight : List (List ℕ) → ℕ
weight [] = 0
weight (w ∷ ws) = length w + 1 + weight ws

weight-joined : (sep : ℕ) (ws : List (List ℕ)) → 0 < length ws → weight ws ≡ length (joined sep ws) + 1
weight-joined sep [] some = absurd (omega arith)
weight-joined sep (w ∷ []) some = omega arith
weight-joined sep (w ∷ v ∷ vs) some = omega (arith, length-append w (sep ∷ joined sep (v ∷ vs)), weight-joined sep (v ∷ vs) (omega arith))

pub weight-pieces : (sep : ℕ) (bs : List ℕ) → weight (pieces sep bs) ≡ length bs + 1
weight-pieces sep bs = weight-joined sep (pieces sep bs) (pieces-some sep bs) ∙ ap (λ l. length l + 1) (joined-pieces sep bs)

-- ---- the pieces of joined words are the words

lacks-all : (sep : ℕ) (w : List ℕ) → lacks sep w ≡ true → Each (λ b. eqb b sep ≡ false) w
lacks-all sep w h = λ i d within. not-true _ (and_at (lacks sep) (λ b. not (eqb b sep)) refl (λ _ _. refl) w i d within h)

-- a word that lacks the separator is one piece, and a separator after it begins the next
pub pieces-one : (sep : ℕ) (w : List ℕ) → lacks sep w ≡ true → pieces sep w ≡ w ∷ []
pieces-one sep w h = pieces-is sep w ∙ slice_split_none (λ b. eqb b sep) w (lacks-all sep w h)

pub pieces_more : (sep : ℕ) (w bs : List ℕ) → lacks sep w ≡ true → pieces sep (w ++ (sep ∷ bs)) ≡ w ∷ pieces sep bs
pieces_more sep w bs h =
    pieces-is sep (w ++ (sep ∷ bs))
    ∙ slice_split_at (λ b. eqb b sep) w sep bs (lacks-all sep w h) (eq-eqb sep sep refl)
    ∙ ap (λ l. w ∷ l) (sym (pieces-is sep bs))

pub pieces-joined : (sep : ℕ) (ws : List (List ℕ)) → 0 < length ws → All (λ w. lacks sep w ≡ true) ws → pieces sep (joined sep ws) ≡ ws
pieces-joined sep [] some all = absurd (omega arith)
pieces-joined sep (w ∷ []) some all = pieces-one sep w all.0
pieces-joined sep (w ∷ v ∷ vs) some all = pieces_more sep w (joined sep (v ∷ vs)) all.0 ∙ ap (λ l. w ∷ l) (pieces-joined sep (v ∷ vs) (omega arith) all.1)

-- ---- which pieces and which joined words lack a byte

first-lacks : (sep b : ℕ) (ws : List (List ℕ)) → (b ≡ sep → ⊥) → All (λ w. lacks sep w ≡ true) ws → All (λ w. lacks sep w ≡ true) (before_first b ws)
first-lacks sep b [] other all = (and_from _ true (not_from_false (eqb b sep) (ne_eqb b sep other)) refl, tt)
first-lacks sep b (w ∷ ws) other all = (and_from _ (lacks sep w) (not_from_false (eqb b sep) (ne_eqb b sep other)) all.0, all.1)

-- no piece holds the separator
pub lacks-pieces : (sep : ℕ) (bs : List ℕ) → All (λ w. lacks sep w ≡ true) (pieces sep bs)
lacks-pieces sep [] = (refl, tt)
lacks-pieces sep (b ∷ bs) =
    ⊎_elim
    (λ p. subst (λ t. All (λ w. lacks sep w ≡ true) (cond t ([] ∷ pieces sep bs) (before_first b (pieces sep bs)))) (sym p.0) (refl, lacks-pieces sep bs))
    (λ p. subst (λ t. All (λ w. lacks sep w ≡ true) (cond t ([] ∷ pieces sep bs) (before_first b (pieces sep bs)))) (sym p.0) (first-lacks sep b (pieces sep bs) p.1 (lacks-pieces sep bs)))
    (eqb_tells b sep)

pub lacks-append : (sep : ℕ) (w v : List ℕ) → lacks sep w ≡ true → lacks sep v ≡ true → lacks sep (w ++ v) ≡ true
lacks-append sep [] v h k = k
lacks-append sep (b ∷ w) v h k = let p = and_parts _ (lacks sep w) h in and_from _ (lacks sep (w ++ v)) p.0 (lacks-append sep w v p.1 k)

-- joined words hold no byte that the separator is not and no word holds
pub lacks-joined : (sep byte : ℕ) → (sep ≡ byte → ⊥) → (ws : List (List ℕ)) → All (λ w. lacks byte w ≡ true) ws → lacks byte (joined sep ws) ≡ true
lacks-joined sep byte other [] all = refl
lacks-joined sep byte other (w ∷ []) all = all.0
lacks-joined sep byte other (w ∷ v ∷ vs) all =
    lacks-append byte w (sep ∷ joined sep (v ∷ vs)) all.0
    (and_from _ (lacks byte (joined sep (v ∷ vs))) (not_from_false (eqb sep byte) (ne_eqb sep byte other)) (lacks-joined sep byte other (v ∷ vs) all.1))
