-- Sets of flows. Flow n is bit n - 1, and there is no flow 0.
use Rattle.std.specs.Prelude.{◌≡◌, ℕ, zero, suc, ◌+◌, ◌-◌, ◌/◌, ◌%◌, ◌^◌, ◌<◌, ◌≤◌, Bool, true, false, cond, not, ◌&&◌, ◌||◌, List, [], ◌∷◌, Decides, MatchOption, ◌==◌, bit_and, bit_or, bit_xor, nat_le}
use Rattle.std.specs.List.{slice_get}
use Rattle.process.specs.declared.sets.FlowSet.{FlowSet}

-- a flow can have this number
abbrev pub in_range : ℕ → Bool
in_range n = nat_le 1 n && nat_le n 64

-- the set s has flow n
unfoldable pub has : FlowSet → ℕ → Bool
has s zero = false
has s (suc k) = s.bits / 2 ^ k % 2 == 1

unfoldable pub no_flows : FlowSet
no_flows = record { bits = 0 }

-- the set with flow n alone, or none where n is no number of a flow
unfoldable pub just : ℕ → FlowSet
just n = record { bits = cond (in_range n) (2 ^ (n - 1)) 0 }

unfoldable pub joined : FlowSet → FlowSet → FlowSet
joined s t = record { bits = bit_or s.bits t.bits }

unfoldable pub shared : FlowSet → FlowSet → FlowSet
shared s t = record { bits = bit_and s.bits t.bits }

unfoldable pub without : FlowSet → FlowSet → FlowSet
without s t = record { bits = bit_xor s.bits (bit_and s.bits t.bits) }

-- the set of the flows that the list names
unfoldable pub these : List ℕ → FlowSet
these [] = no_flows
these (n ∷ ns) = joined (just n) (these ns)

-- the set has no flow
unfoldable pub is_none : FlowSet → Bool
is_none s = s.bits == 0

-- those of the k numbers from n on that the set has, in order
unfoldable pub among : FlowSet → ℕ → ℕ → List ℕ
among s n zero = []
among s n (suc k) = cond (has s n) (n ∷ among s (suc n) k) (among s (suc n) k)

-- the flows of the set above n, in order
unfoldable pub above : FlowSet → ℕ → List ℕ
above s n = among s (suc n) (64 - n)

-- how many of the numbers 1 to n pass the test p
unfoldable pub tally : (ℕ → Bool) → ℕ → ℕ
tally p zero = 0
tally p (suc n) = cond (p (suc n)) 1 0 + tally p n

-- f is the lowest flow of the set above n
pub record Next (s : FlowSet) (n f : ℕ) : Type 0 where
  pub higher : n < f
  pub range : f ≤ 64
  pub member : has s f ≡ true
  pub first : (m : ℕ) → n < m → m < f → has s m ≡ false

-- What the operations do, by membership; and sets with the same flows are equal.
pub record SetLaws : Type 0 where
  pub no_flows_has : (n : ℕ) → has no_flows n ≡ false
  pub just_has : (n m : ℕ) → has (just n) m ≡ (in_range n && m == n)
  pub joined_has : (s t : FlowSet) (n : ℕ) → has (joined s t) n ≡ (has s n || has t n)
  pub shared_has : (s t : FlowSet) (n : ℕ) → has (shared s t) n ≡ (has s n && has t n)
  pub without_has : (s t : FlowSet) (n : ℕ) → has (without s t) n ≡ (has s n && not (has t n))
  pub none_has : (s : FlowSet) → Decides (is_none s) ((n : ℕ) → has s n ≡ false)
  pub next_has : (s : FlowSet) (n : ℕ) → MatchOption (slice_get (above s n) 0) ((m : ℕ) → n < m → m ≤ 64 → has s m ≡ false) (Next s n)
  pub same : (s t : FlowSet) → ((n : ℕ) → has s n ≡ has t n) → s ≡ t
