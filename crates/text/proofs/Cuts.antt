-- Pieces in the words of std, and the first of them.
use Rattle.std.proofs.Common.{◌≡◌, ℕ, suc, ◌+◌, ◌<◌, ◌≤◌, true, false, cond, not, eqb, List, [], ◌∷◌, length, take, drop, Some, None, sym, refl, ap, ◌∙◌, arith}
use Rattle.std.specs.List.{slice_split, onto_first, position, position_or_len}
use Rattle.std.proofs.lemmas.List.Splits.{slice_split_first, length-slice_split}
use Rattle.std.proofs.lemmas.List.Recursion.{same_from_clauses}
use Rattle.std.proofs.lemmas.Bool.Decides.{nat_tests}
use Rattle.text.specs.Pieces.{before_first, pieces}

onto_first-is : (b : ℕ) (ws : List (List ℕ)) → onto_first b ws ≡ before_first b ws
onto_first-is b [] = refl
onto_first-is b (w ∷ ws) = refl

pub pieces-is : (sep : ℕ) (bs : List ℕ) → pieces sep bs ≡ slice_split (λ b. eqb b sep) bs
pieces-is sep bs =
    same_from_clauses (pieces sep) (slice_split (λ b. eqb b sep)) (λ b ws. cond (eqb b sep) ([] ∷ ws) (before_first b ws)) refl
    (λ b bs. refl)
    (λ b bs. ap (cond (eqb b sep) ([] ∷ slice_split (λ b. eqb b sep) bs)) (onto_first-is b (slice_split (λ b. eqb b sep) bs)))
    bs

-- there is always a first piece
pub pieces-some : (sep : ℕ) (bs : List ℕ) → 0 < length (pieces sep bs)
pieces-some sep bs = omega (arith, ap length (pieces-is sep bs), length-slice_split (λ b. eqb b sep) bs)

uncut : (sep : ℕ) (bs : List ℕ) → length bs ≤ position_or_len (λ b. eqb b sep) bs → pieces sep bs ≡ bs ∷ []
uncut sep [] h = refl
uncut sep (b ∷ bs) h =
    elim (eqb b sep) as (λ t. suc (length bs) ≤ cond (not t) (1 + position_or_len (λ b. eqb b sep) bs) 0 → cond t ([] ∷ pieces sep bs) (before_first b (pieces sep bs)) ≡ (b ∷ bs) ∷ []) [
      | true ↦ λ h. absurd (omega arith)
      | false ↦ λ h. ap (before_first b) (uncut sep bs (omega arith))
    ] h

module _ (sep : ℕ) (bs : List ℕ) where
  pub cut-here : (i : ℕ) → Some i ≡ position (λ b. eqb b sep) bs → pieces sep bs ≡ take i bs ∷ pieces sep (drop (i + 1) bs)
  cut-here i at =
      let p : position_or_len (λ b. eqb b sep) bs ≡ i = grind (arith, nat_tests) in
      let within : position_or_len (λ b. eqb b sep) bs < length bs = grind (arith, nat_tests) in
      pieces-is sep bs
      ∙ slice_split_first (λ b. eqb b sep) bs 0 within
      ∙ (λ j. take (p j) bs ∷ sym (pieces-is sep (drop (p j + 1) bs)) j)

  pub cut_none : None ≡ position (λ b. eqb b sep) bs → pieces sep bs ≡ bs ∷ []
  cut_none none = uncut sep bs (grind (arith, nat_tests))
