-- What the operations on sets of flows do, by membership.
use Rattle.std.proofs.Common.{◌≡◌, ℕ, zero, suc, ◌+◌, ◌-◌, ◌*◌, ◌/◌, ◌%◌, ◌^◌, ◌<◌, ◌≤◌, Bool, true, false, cond, not, ◌&&◌, ◌||◌, eqb, leb, ◌⊎◌, List, [], ◌∷◌, sym, refl, ap, ◌∙◌, subst, ap₂, inl, inr, ⊎_elim, le_refl, le_of_suc-le-suc, not-suc-le-zero, mod-lt, zero-lt-suc, pow-suc, div-one, add-one, arith, pow_mono, pow-add, shr-shr, shr_lt}
use native.Mathlib.Nat.{div-eq_of_lt, div_self}
use lib.Arith.{half_le, le-zero}
use lib.Pow.{pow-lt, shl-shr}
use lib.Bits.{bit_and, bit_or, bit_xor, or_shr, and_shr, xor_shr, or_mod, and_mod, xor_mod, and_mask}
use lib.Count.{ones, ones_step}
use Rattle.std.proofs.lemmas.Bool.{eqb-true, eqb-false, eq-eqb, ne_eqb, leb-true, le-leb, cases_order, cases_lt, both_ways, cases_Bool, and_parts, and_from, and_left, and_right, true≢false}
use Rattle.std.proofs.lemmas.Nat.{pow_pos, one_shl}
use Rattle.process.specs.Sets.{in_range, has, no_flows, just, joined, shared, without, these, is_none, tally}
use Rattle.process.specs.declared.sets.FlowSet.{FlowSet}

half_lt : (n b : ℕ) → b < 2 ^ suc n → b / 2 < 2 ^ n
half_lt n b h = shr_lt n 1 (subst (λ (x : ℕ). b < 2 ^ x) (sym (add-one n)) h)

two_pos : zero < 2
two_pos = zero-lt-suc 1

-- a statement on two binary digits, by its four cases
two_digits : (P : ℕ → ℕ → Type 0) → P 0 0 → P 0 1 → P 1 0 → P 1 1 → (a b : ℕ) → a < 2 → b < 2 → P a b
two_digits P w x y z zero zero h k = w
two_digits P w x y z zero (suc zero) h k = x
two_digits P w x y z zero (suc (suc b)) h k = absurd (not-suc-le-zero (le_of_suc-le-suc (le_of_suc-le-suc k)))
two_digits P w x y z (suc zero) zero h k = y
two_digits P w x y z (suc zero) (suc zero) h k = z
two_digits P w x y z (suc zero) (suc (suc b)) h k = absurd (not-suc-le-zero (le_of_suc-le-suc (le_of_suc-le-suc k)))
two_digits P w x y z (suc (suc a)) b h k = absurd (not-suc-le-zero (le_of_suc-le-suc (le_of_suc-le-suc h)))

pub has-no_flows : (n : ℕ) → has no_flows n ≡ false
unfolding has no_flows
has-no_flows zero = refl
has-no_flows (suc k) = ap (λ (x : ℕ). eqb (x % 2) 1) (div-eq_of_lt (pow_pos k))

pub has-joined : (s t : FlowSet) (n : ℕ) → has (joined s t) n ≡ (has s n || has t n)
unfolding has joined
has-joined s t zero = refl
has-joined s t (suc k) =
    let a = s.bits / 2 ^ k in
    let b = t.bits / 2 ^ k in
    ap (λ (x : ℕ). eqb (x % 2) 1) (or_shr s.bits t.bits k) ∙ ap (λ (x : ℕ). eqb x 1) (or_mod a b 1)
    ∙ two_digits (λ x y. eqb (bit_or x y) 1 ≡ (eqb x 1 || eqb y 1)) refl refl refl refl (a % 2) (b % 2) (mod-lt a two_pos) (mod-lt b two_pos)

pub has-shared : (s t : FlowSet) (n : ℕ) → has (shared s t) n ≡ (has s n && has t n)
unfolding has shared
has-shared s t zero = refl
has-shared s t (suc k) =
    let a = s.bits / 2 ^ k in
    let b = t.bits / 2 ^ k in
    ap (λ (x : ℕ). eqb (x % 2) 1) (and_shr s.bits t.bits k) ∙ ap (λ (x : ℕ). eqb x 1) (and_mod a b 1)
    ∙ two_digits (λ x y. eqb (bit_and x y) 1 ≡ (eqb x 1 && eqb y 1)) refl refl refl refl (a % 2) (b % 2) (mod-lt a two_pos) (mod-lt b two_pos)

pub has-without : (s t : FlowSet) (n : ℕ) → has (without s t) n ≡ (has s n && not (has t n))
unfolding has without
has-without s t zero = refl
has-without s t (suc k) =
    let a = s.bits / 2 ^ k in
    let b = t.bits / 2 ^ k in
    ap (λ (x : ℕ). eqb (x % 2) 1) (xor_shr s.bits (bit_and s.bits t.bits) k ∙ ap (λ (x : ℕ). bit_xor a x) (and_shr s.bits t.bits k))
    ∙ ap (λ (x : ℕ). eqb x 1) (xor_mod a (bit_and a b) 1 ∙ ap (λ (x : ℕ). bit_xor (a % 2) x) (and_mod a b 1))
    ∙ two_digits (λ x y. eqb (bit_xor x (bit_and x y)) 1 ≡ (eqb x 1 && not (eqb y 1))) refl refl refl refl (a % 2) (b % 2) (mod-lt a two_pos) (mod-lt b two_pos)

-- ---- one flow

power-digit : (j k : ℕ) → eqb (2 ^ k / 2 ^ j % 2) 1 ≡ eqb (suc j) (suc k)
power-digit j k = ⊎_elim here (⊎_elim below above) (cases_order j k)
  where
    here : j ≡ k → eqb (2 ^ k / 2 ^ j % 2) 1 ≡ eqb (suc j) (suc k)
    here e = subst (λ (x : ℕ). eqb (2 ^ k / 2 ^ x % 2) 1 ≡ eqb (suc x) (suc k)) (sym e) (ap (λ (x : ℕ). eqb (x % 2) 1) (div_self (pow_pos k)) ∙ sym (eq-eqb (suc k) (suc k) refl))

    below : j < k → eqb (2 ^ k / 2 ^ j % 2) 1 ≡ eqb (suc j) (suc k)
    below h =
        let i = k - suc j in
        let split : k ≡ suc i + j = omega arith in
        let high : 2 ^ k / 2 ^ j ≡ 2 ^ i * 2 = ap (λ (x : ℕ). 2 ^ x / 2 ^ j) split ∙ ap (λ (x : ℕ). x / 2 ^ j) (pow-add 2 (suc i) j) ∙ shl-shr (2 ^ suc i) j ∙ pow-suc 2 i in
        let even : 2 ^ i * 2 % 2 ≡ 0 = omega arith in
        ap (λ (x : ℕ). eqb (x % 2) 1) high ∙ ap (λ (x : ℕ). eqb x 1) even ∙ sym (ne_eqb (suc j) (suc k) (λ e. omega arith))

    above : k < j → eqb (2 ^ k / 2 ^ j % 2) 1 ≡ eqb (suc j) (suc k)
    above h = ap (λ (x : ℕ). eqb (x % 2) 1) (div-eq_of_lt (pow-lt h)) ∙ sym (ne_eqb (suc j) (suc k) (λ e. omega arith))

-- a number of a flow lies from 1 to 64
pub range-parts : (n : ℕ) → in_range n ≡ true → (1 ≤ n) × (n ≤ 64)
range-parts n h = let p = and_parts (leb 1 n) (leb n 64) h in (leb-true 1 n p.0, leb-true n 64 p.1)

pub range-from : (n : ℕ) → 1 ≤ n → n ≤ 64 → in_range n ≡ true
range-from n low high = and_from _ _ (le-leb 1 n low) (le-leb n 64 high)

pub has-just : (n m : ℕ) → has (just n) m ≡ (in_range n && eqb m n)
unfolding has just
has-just n zero = none (cases_Bool (in_range n))
  where
    none : (in_range n ≡ true) ⊎ (in_range n ≡ false) → false ≡ (in_range n && eqb zero n)
    none (inl t) = let low = (range-parts n t).0 in sym (and_right _ _ (ne_eqb zero n (λ e. omega arith)))
    none (inr f) = sym (and_left _ _ f)
has-just zero (suc j) = ap (λ (x : ℕ). eqb (x % 2) 1) (div-eq_of_lt (pow_pos j))
has-just (suc k) (suc j) = digit (in_range (suc k))
  where
    less : suc k - 1 ≡ k
    less = omega arith

    digit : (b : Bool) → eqb (cond b (2 ^ (suc k - 1)) 0 / 2 ^ j % 2) 1 ≡ (b && eqb (suc j) (suc k))
    digit true = ap (λ (x : ℕ). eqb (2 ^ x / 2 ^ j % 2) 1) less ∙ power-digit j k
    digit false = ap (λ (x : ℕ). eqb (x % 2) 1) (div-eq_of_lt (pow_pos j))

-- of a number that a flow can have
pub has_one : (n m : ℕ) → 1 ≤ n → n ≤ 64 → has (just n) m ≡ eqb m n
has_one n m low high = has-just n m ∙ ap (λ (b : Bool). b && eqb m n) (range-from n low high)

-- ---- equal membership, equal sets

same-digit : (a b : ℕ) → a < 2 → b < 2 → eqb a 1 ≡ eqb b 1 → a ≡ b
same-digit = two_digits (λ x y. eqb x 1 ≡ eqb y 1 → x ≡ y) (λ _. refl) (λ e. absurd (true≢false (sym e))) (λ e. absurd (true≢false e)) (λ _. refl)

same_bits : (f a b : ℕ) → a ≤ f → b ≤ f → ((k : ℕ) → eqb (a / 2 ^ k % 2) 1 ≡ eqb (b / 2 ^ k % 2) 1) → a ≡ b
same_bits zero a b h k e = le-zero h ∙ sym (le-zero k)
same_bits (suc f) a b h k e =
    let halves : a / 2 ≡ b / 2 = same_bits f (a / 2) (b / 2) (half_le h) (half_le k)
    (λ j. ap (λ (x : ℕ). eqb (x % 2) 1) (shr-shr a 1 j) ∙ e (1 + j) ∙ sym (ap (λ (x : ℕ). eqb (x % 2) 1) (shr-shr b 1 j))) in
    let lowest : a % 2 ≡ b % 2 =
    same-digit (a % 2) (b % 2) (mod-lt a two_pos) (mod-lt b two_pos)
    (ap (λ (x : ℕ). eqb (x % 2) 1) (sym (div-one a)) ∙ e 0 ∙ ap (λ (x : ℕ). eqb (x % 2) 1) (div-one b)) in
    omega arith

pub same-sets : (s t : FlowSet) → ((n : ℕ) → has s n ≡ has t n) → s ≡ t
unfolding has
same-sets s t e =
    let b = same_bits (s.bits + t.bits) s.bits t.bits (omega arith) (omega arith) (λ k. e (suc k)) in
    λ i. record { bits = b i }

-- ---- a set with no flow, and one with some

pub none-in-zero : (s : FlowSet) → is_none s ≡ true → (n : ℕ) → has s n ≡ false
unfolding no_flows is_none
none-in-zero s z n =
    let b = eqb-true s.bits 0 z in
    let e : s ≡ no_flows = λ i. record { bits = b i } in
    ap (λ (x : FlowSet). has x n) e ∙ has-no_flows n

set-digit : (f b : ℕ) → b ≤ f → (b ≡ 0 → ⊥) → (k : ℕ) × (eqb (b / 2 ^ k % 2) 1 ≡ true)
set-digit zero b h ne = absurd (ne (le-zero h))
set-digit (suc f) b h ne = ⊎_elim odd (even (set-digit f (b / 2) (half_le h))) (cases_Bool (eqb (b % 2) 1))
  where
    odd : eqb (b % 2) 1 ≡ true → (k : ℕ) × (eqb (b / 2 ^ k % 2) 1 ≡ true)
    odd e = (0, ap (λ (x : ℕ). eqb (x % 2) 1) (div-one b) ∙ e)

    even : ((b / 2 ≡ 0 → ⊥) → (k : ℕ) × (eqb (b / 2 / 2 ^ k % 2) 1 ≡ true)) → eqb (b % 2) 1 ≡ false → (k : ℕ) × (eqb (b / 2 ^ k % 2) 1 ≡ true)
    even rest e =
        let not-one : (b % 2 ≡ 1) → ⊥ = eqb-false (b % 2) 1 e in
        let higher = rest (λ z. ne (omega arith)) in
        (1 + higher.0, ap (λ (x : ℕ). eqb (x % 2) 1) (sym (shr-shr b 1 higher.0)) ∙ higher.1)

pub some_in : (s : FlowSet) → is_none s ≡ false → (n : ℕ) × (has s n ≡ true)
unfolding has is_none
some_in s e = let d = set-digit s.bits s.bits (le_refl s.bits) (eqb-false s.bits 0 e) in (suc d.0, d.1)

-- ---- how many flows a set has

pub tally-same : (p q : ℕ → Bool) (n : ℕ) → ((k : ℕ) → 1 ≤ k → k ≤ n → p k ≡ q k) → tally p n ≡ tally q n
unfolding tally
tally-same p q zero e = refl
tally-same p q (suc n) e = ap₂ (λ (b : Bool) (m : ℕ). cond b 1 0 + m) (e (suc n) (omega arith) (omega arith)) (tally-same p q n (λ k h l. e k h (omega arith)))

pub tally-front : (p : ℕ → Bool) (n : ℕ) → tally p (suc n) ≡ cond (p 1) 1 0 + tally (λ k. p (suc k)) n
unfolding tally
tally-front p zero = refl
tally-front p (suc n) = let h = tally-front p n in omega arith

half-has : (b k : ℕ) → has (record { bits = b }) (suc (suc k)) ≡ has (record { bits = b / 2 }) (suc k)
unfolding has
half-has b k = ap (λ (x : ℕ). eqb (b / 2 ^ x % 2) 1) one_more ∙ ap (λ (x : ℕ). eqb (x % 2) 1) (sym (shr-shr b 1 k))
  where
    one_more : suc k ≡ 1 + k
    one_more = omega arith

low-has : (b : ℕ) → cond (has (record { bits = b }) 1) 1 0 ≡ b % 2
unfolding has
low-has b = ap (λ (x : ℕ). cond (eqb (x % 2) 1) 1 0) (div-one b) ∙ digit-back (b % 2) (mod-lt b two_pos)
  where
    digit-back : (d : ℕ) → d < 2 → cond (eqb d 1) 1 0 ≡ d
    digit-back zero h = refl
    digit-back (suc zero) h = refl
    digit-back (suc (suc d)) h = absurd (not-suc-le-zero (le_of_suc-le-suc (le_of_suc-le-suc h)))

ones_none : ones 0 ≡ 0
unfolding ones
ones_none = refl

-- the digits of b that are set are the flows of its set
pub ones-tally : (n b : ℕ) → b < 2 ^ n → ones b ≡ tally (has (record { bits = b })) n
unfolding tally
ones-tally zero b h = ap ones (le-zero (le_of_suc-le-suc h)) ∙ ones_none
ones-tally (suc n) b h =
    let half = ones-tally n (b / 2) (half_lt n b h) in
    ones_step b
    ∙ ap₂ (λ (x y : ℕ). x + y) (sym (low-has b)) (half ∙ sym (tally-same _ _ n (shifted b)))
    ∙ sym (tally-front (has (record { bits = b })) n)
  where
    shifted : (b k : ℕ) → 1 ≤ k → k ≤ n → has (record { bits = b }) (suc k) ≡ has (record { bits = b / 2 }) k
    shifted b zero h l = absurd (not-suc-le-zero h)
    shifted b (suc k) h l = half-has b k

-- ---- a set of 64 bits

-- the bit that stands for a flow
pub one_bit : (n : ℕ) → in_range n ≡ true → (1 * 2 ^ (n - 1)) % 2 ^ 64 ≡ (just n).bits
unfolding just
one_bit n h =
    let p = range-parts n h in
    one_shl (n - 1) 64 (omega (arith, p.1)) ∙ sym (ap (λ (b : Bool). cond b (2 ^ (n - 1)) 0) h)

pub no-bit : (n : ℕ) → in_range n ≡ false → no_flows ≡ just n
unfolding just no_flows
no-bit n h = λ i. record { bits = cond (sym h i) (2 ^ (n - 1)) 0 }

pub digit-test : (s : FlowSet) (n : ℕ) → 1 ≤ n → eqb (bit_and (s.bits / 2 ^ (n - 1)) 1) 1 ≡ has s n
unfolding has
digit-test s zero h = absurd (not-suc-le-zero h)
digit-test s (suc k) h =
    let e : suc k - 1 ≡ k = omega arith in
    ap (λ (x : ℕ). eqb (bit_and (s.bits / 2 ^ x) 1) 1) e ∙ ap (λ (x : ℕ). eqb x 1) (and_mask (s.bits / 2 ^ k) 1)

-- no other number is in it
pub none-outside : (s : FlowSet) (n : ℕ) → s.bits < 2 ^ 64 → in_range n ≡ false → has s n ≡ false
unfolding has
none-outside s zero fits h = refl
none-outside s (suc k) fits h = ap (λ (x : ℕ). eqb (x % 2) 1) (div-eq_of_lt (small (cases_lt k 64)))
  where
    small : (k < 64) ⊎ (64 ≤ k) → s.bits < 2 ^ k
    small (inl l) = absurd (both_ways _ h (range-from (suc k) (omega arith) (omega arith)))
    small (inr l) = let p : 2 ^ 64 ≤ 2 ^ k = pow_mono l in omega arith

-- ---- the set of a list, taken in from the front

or_turn : (a b c : Bool) → ((a || b) || c) ≡ (a || (b || c))
or_turn true b c = refl
or_turn false b c = refl

pub joined-turn : (s t u : FlowSet) → joined (joined s t) u ≡ joined s (joined t u)
joined-turn s t u =
    same-sets _ _
    (λ n. has-joined (joined s t) u n ∙ ap (λ (b : Bool). b || has u n) (has-joined s t n) ∙ or_turn (has s n) (has t n) (has u n)
    ∙ ap (λ (b : Bool). has s n || b) (sym (has-joined t u n)) ∙ sym (has-joined s (joined t u) n))

pub joined-none : (s : FlowSet) → joined no_flows s ≡ s
joined-none s = same-sets _ _ (λ n. has-joined no_flows s n ∙ ap (λ (b : Bool). b || has s n) (has-no_flows n))

pub none-joined : (s : FlowSet) → joined s no_flows ≡ s
none-joined s = same-sets _ _ (λ n. has-joined s no_flows n ∙ ap (λ (b : Bool). has s n || b) (has-no_flows n) ∙ or-none (has s n))
  where
    or-none : (b : Bool) → (b || false) ≡ b
    or-none true = refl
    or-none false = refl

pub these-none : these [] ≡ no_flows
unfolding these
these-none = refl

pub these-more : (n : ℕ) (ns : List ℕ) → these (n ∷ ns) ≡ joined (just n) (these ns)
unfolding these
these-more n ns = refl
