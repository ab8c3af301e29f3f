-- Flows with commas between them.
use Rattle.std.proofs.Common.{◌≡◌, ℕ, zero, suc, ◌+◌, ◌*◌, ◌<◌, ◌≤◌, Bool, true, false, cond, List, [], ◌∷◌, ◌++◌, length, get_or, take, drop, codes, decimal, sym, refl, ap, ◌∙◌, subst, append_assoc, append-nil, arith, length-append, take-append-drop}
use Rattle.std.proofs.lemmas.List.{take_more}
use Rattle.process.specs.declared.sets.FlowSet.{FlowSet}
use Rattle.process.specs.Sets.{has, among, above}
use Rattle.listing.specs.Lines.{after_commas, listed}
use Rattle.listing.proofs.Numbers.{two_digits, three-digits}

-- one number more at the end
after_push : (ns : List ℕ) (n : ℕ) → after_commas (ns ++ n ∷ []) ≡ after_commas ns ++ (codes "," ++ decimal n)
after_push [] n = ap (λ l. 44 ∷ l) (append-nil (decimal n))
after_push (m ∷ ns) n = ap (λ l. 44 ∷ (decimal m ++ l)) (after_push ns n) ∙ ap (λ l. 44 ∷ l) (sym (append_assoc (decimal m) (after_commas ns) (44 ∷ decimal n)))

-- one number more of a list
pub after_more : (ns : List ℕ) (i : ℕ) → i < length ns → after_commas (take (i + 1) ns) ≡ after_commas (take i ns) ++ (codes "," ++ decimal (get_or ns i 0))
after_more ns i h = ap after_commas (take_more ns i 0 h) ∙ after_push (take i ns) (get_or ns i 0)

-- a list with a first number
pub listed-some : (ns : List ℕ) → 0 < length ns → listed ns ≡ decimal (get_or ns 0 0) ++ after_commas (drop 1 ns)
listed-some [] h = absurd (omega arith)
listed-some (n ∷ ns) h = refl

-- ---- how long they are

-- numbers of 8 bits take at most four bytes each, with their commas
after-most : (ns : List ℕ) → ((k : ℕ) → get_or ns k 0 < 256) → length (after_commas ns) ≤ 4 * length ns
after-most [] small = omega arith
after-most (n ∷ ns) small =
    let digits = three-digits n (small 0) in
    let rest = after-most ns (λ k. small (suc k)) in
    omega (arith, length-append (decimal n) (after_commas ns))

-- the flows of a set take at most three
after-among : (s : FlowSet) (k n : ℕ) → n + k ≤ 65 → length (after_commas (among s n k)) ≤ 3 * k
unfolding among
after-among s zero n few = omega arith
after-among s (suc k) n few = by (has s n) (after-among s k (suc n) (omega arith))
  where
    digits : length (decimal n) ≤ 2
    digits = two_digits n (omega arith)

    by : (b : Bool) → length (after_commas (among s (suc n) k)) ≤ 3 * k → length (after_commas (cond b (n ∷ among s (suc n) k) (among s (suc n) k))) ≤ 3 * suc k
    by true h = omega (arith, digits, length-append (decimal n) (after_commas (among s (suc n) k)))
    by false h = omega arith

-- without the first comma, or a minus
listed-le : (ns : List ℕ) (most : ℕ) → 1 ≤ most → length (after_commas ns) ≤ most → length (listed ns) ≤ most
listed-le [] most some h = some
listed-le (n ∷ ns) most some h = omega arith

pub listed-set : (s : FlowSet) → length (listed (above s 0)) ≤ 192
unfolding above
listed-set s = listed-le (among s 1 64) 192 (omega arith) (after-among s 64 1 (omega arith))

-- some of the numbers take no more than all of them
after-front : (xs ys : List ℕ) → length (after_commas xs) ≤ length (after_commas (xs ++ ys))
after-front [] ys = omega arith
after-front (x ∷ xs) ys = let h = after-front xs ys in omega (arith, length-append (decimal x) (after_commas xs), length-append (decimal x) (after_commas (xs ++ ys)))

pub after-part : (ns : List ℕ) (i : ℕ) → length (after_commas (take i ns)) ≤ length (after_commas ns)
after-part ns i = subst (λ (xs : List ℕ). length (after_commas (take i ns)) ≤ length (after_commas xs)) (take-append-drop i ns) (after-front (take i ns) (drop i ns))

-- the front of a list of at most 64 numbers of 8 bits
pub listed-front : (ns : List ℕ) → ((k : ℕ) → get_or ns k 0 < 256) → length ns ≤ 64 → (n : ℕ) → length (listed (take n ns)) ≤ 256
listed-front ns small few n =
    let part = after-part ns n in
    let most = after-most ns small in
    listed-le (take n ns) 256 (omega arith) (omega arith)
