-- Looking a word up among values by how they are written.
use Rattle.std.proofs.Common.{◌≡◌, ℕ, ◌+◌, ◌<◌, ◌≤◌, true, false, cond, List, [], ◌∷◌, length, get_or, drop, Some, None, sym, ap, ◌∙◌, ⊎_elim, arith}
use Rattle.std.specs.Str.{bytes_eq}
use Rattle.std.proofs.lemmas.Slice.Eq.{bytes_eq-Decides}
use Rattle.std.proofs.lemmas.List.{at_drop_more, at_drop_all}
use Rattle.std.proofs.lemmas.Bool.{cases_Bool, cond-true, cond-false}
use Rattle.text.specs.Words.{spelled_by}

pub some_same : {X : Type 0} {x y : X} → Some x ≡ Some y → x ≡ y
some_same e = cc

-- steps of the loop over the values
module _ {X : Type 0} (spell : X → List ℕ) (xs : List X) (w : List ℕ) (i : ℕ) (inv : spelled_by spell (drop i xs) w ≡ spelled_by spell xs w) where
  module _ (x : X) (h : i < length xs) where
    here : cond (bytes_eq w (spell (get_or xs i x))) (Some (get_or xs i x)) (spelled_by spell (drop (i + 1) xs) w) ≡ spelled_by spell xs w
    here = sym (at_drop_more (λ l. spelled_by spell l w) xs i x h) ∙ inv

    pub spelled-more : bytes_eq w (spell (get_or xs i x)) ≡ false → spelled_by spell (drop (i + 1) xs) w ≡ spelled_by spell xs w
    spelled-more e = ap (λ t. cond t (Some (get_or xs i x)) (spelled_by spell (drop (i + 1) xs) w)) (sym e) ∙ here

    pub spelled-here : bytes_eq w (spell (get_or xs i x)) ≡ true → Some (get_or xs i x) ≡ spelled_by spell xs w
    spelled-here e = ap (λ t. cond t (Some (get_or xs i x)) (spelled_by spell (drop (i + 1) xs) w)) (sym e) ∙ here

  pub spelled_none : length xs ≤ i → None ≡ spelled_by spell xs w
  spelled_none h = sym (at_drop_all (λ l. spelled_by spell l w) xs i h) ∙ inv

-- what is found is written as the word
pub spelled_is : {X : Type 0} (spell : X → List ℕ) (xs : List X) (w : List ℕ) (x : X) → spelled_by spell xs w ≡ Some x → w ≡ spell x
spelled_is spell [] w x e = absurd (let z : ◌≡◌ {A = ℕ} 0 1 = cc in omega arith)
spelled_is spell (y ∷ ys) w x e =
    ⊎_elim
    (λ t. let same : y ≡ x = some_same (sym (cond-true (bytes_eq w (spell y)) (Some y) (spelled_by spell ys w) t) ∙ e) in (bytes_eq-Decides w (spell y)).0 t ∙ ap spell same)
    (λ f. spelled_is spell ys w x (sym (cond-false (bytes_eq w (spell y)) (Some y) (spelled_by spell ys w) f) ∙ e))
    (cases_Bool (bytes_eq w (spell y)))
