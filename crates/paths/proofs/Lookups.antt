-- What a table holds at a number.
use Rattle.std.proofs.Common.{◌≡◌, ℕ, zero, suc, ◌+◌, ◌<◌, ◌⊎◌, List, length, sym, refl, ap, ⊎_elim, add-one, arith}
use Rattle.std.proofs.lemmas.List.{get_or_past}
use Rattle.process.specs.declared.sets.FlowSet.{FlowSet}
use Rattle.process.specs.Sets.{no_flows}
use Rattle.paths.specs.Tables.{at_place, row}

-- no set stands outside the table
pub no_row : (table : List FlowSet) (n : ℕ) → (n ≡ 0) ⊎ (length table < n) → no_flows ≡ row table n
unfolding no_flows
no_row table zero h = refl
no_row table (suc k) h = sym (get_or_past table k (record { bits = 0 }) (⊎_elim (λ e. absurd (omega arith)) (λ l. omega arith) h))

pub row_at : (table : List FlowSet) (i : ℕ) → row table (i + 1) ≡ at_place table i
row_at table i = ap (row table) (add-one i)
