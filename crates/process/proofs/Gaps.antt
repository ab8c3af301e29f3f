-- A list over fixed memory, one item less.
use Rattle.std.proofs.Common.{◌≡◌, ℕ, suc, ◌+◌, ◌-◌, ◌<◌, ◌≤◌, List, ◌++◌, length, take, drop, sym, ap, ◌∙◌, add-one, arith}
use lib.Seq.{paste}
use Rattle.std.specs.List.{remove}
use Rattle.std.proofs.lemmas.List.Edits.{take-paste}
use Rattle.std.proofs.lemmas.List.{drop-take, length-drop, take-take}

-- xs, of which the items at i + 1 and behind it, up to `next`, stand one place further forward
abbrev pub moved_up : {X : Type 0} → List X → ℕ → ℕ → List X
moved_up xs i next = paste xs i (drop (i + 1) xs) (next - (i + 1))

-- all of them are moved
pub gap-closed : {X : Type 0} (xs ys : List X) (i count : ℕ) → i < count → count ≤ length xs → ys ≡ moved_up xs i count → take (count - 1) ys ≡ remove (take count xs) i
gap-closed xs ys i count within fits e =
    let k = count - (i + 1) in
    let front : count - 1 ≡ i + k = omega arith in
    let whole : suc i + k ≡ count = omega arith in
    let long : k ≤ length (drop (i + 1) xs) = omega (arith, length-drop (i + 1) xs) in
    (λ j. take (front j) (e j))
    ∙ take-paste xs i (drop (i + 1) xs) k (omega arith) long
    ∙ ap (λ n. take i xs ++ take k (drop n xs)) (add-one i)
    ∙ (λ j. sym (take-take i count xs (omega arith)) j ++ (sym (drop-take (suc i) k xs) ∙ ap (λ n. drop (suc i) (take n xs)) whole) j)
