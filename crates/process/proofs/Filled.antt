-- An array that is filled place by place, by calls that leave the closure as it was.
use Rattle.std.proofs.Common.{◌≡◌, ℕ, zero, suc, ◌+◌, ◌<◌, ◌≤◌, List, get_or, sym, subst, ⊎_elim, arith}
use Rattle.std.specs.Array.{IsFromFnResultFrom}
use Rattle.std.specs.Fn.{Called}
use denote.Param.Members.{Mut}
use Rattle.std.proofs.lemmas.Bool.{cases_eq}

-- what each call gives has a property, and so has each place
pub filled : {F B : Type 0} (g : Mut F (ℕ × Unit {0}) B) (P : ℕ → B → Type 0) (f : F) → ((i : ℕ) (y : B) (q : F) → Called g f (i, tt) y q → P i y × (q ≡ f))
    → (n i : ℕ) (ys : List B) → IsFromFnResultFrom g f ys i n → (j : ℕ) (e : B) → i ≤ j → j < i + n → P j (get_or ys j e)
filled g P f call zero i ys c j e low high = absurd (omega arith)
filled {F} {B} g P f call (suc n) i ys c j e low high =
    let one = call i c.1 c.0 c.3 in
    ⊎_elim (λ same. subst (λ (k : ℕ). P k (get_or ys k e)) (sym same) (subst (P i) (sym (c.2.1 e)) one.0))
    (λ ne. filled g P f call n (i + 1) ys (subst (λ (q : F). IsFromFnResultFrom g q ys (i + 1) n) one.1 c.4) j e (omega arith) (omega arith))
    (cases_eq j i)
