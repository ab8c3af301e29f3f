-- The list of the numbers that are kept, and what it holds of a number that no node has.
use Rattle.std.proofs.Common.{◌≡◌, ℕ, zero, suc, ◌+◌, ◌<◌, ◌≤◌, ◌⊎◌, List, length, get_or, sym, refl, subst, inl, inr, ⊎_elim, add-one, arith}
use Rattle.std.proofs.lemmas.List.{get_or_past}
use Rattle.std.proofs.lemmas.Bool.{cases_lt}
use Rattle.process.specs.declared.flow.Flow.{Flow}
use Rattle.process.specs.declared.node.Kind.{Kind}
use Rattle.process.specs.declared.node.Kind.TheVariants as kinds
use Rattle.process.specs.declared.sets.FlowSet.{FlowSet}
use Rattle.model.specs.Rules.{kind_at}
use Rattle.marking.specs.Kept.{CountedAs, Counted, Kept}

-- a number that no node of any model has
abbrev pub Outside : ℕ → Type 0
Outside n = (n ≡ 0) ⊎ (40 < n)

module _ (nodes : List Kind) (few : length nodes ≤ 40) (flows : List Flow) (tokens : FlowSet) where
  -- what is answered for its kind
  no_kind : (n : ℕ) → Outside n → kinds.Start ≡ kind_at nodes n
  no_kind zero out = refl
  no_kind (suc k) out = sym (get_or_past nodes k kinds.Start (⊎_elim (λ e. absurd (omega arith)) (λ l. omega arith) out))

  -- there nothing is counted
  pub counted-outside : (n r : ℕ) → Outside n → r ≡ 0 → Counted nodes flows tokens n r
  counted-outside n r out z = subst (λ (k : Kind). CountedAs k flows tokens n r) (no_kind n out) z

  -- numbers that are right for the places are right for every number
  pub kept-everywhere : (numbers : List ℕ) → length numbers ≡ 40 → ((i : ℕ) → i < 40 → Counted nodes flows tokens (i + 1) (get_or numbers i 0)) → Kept nodes flows tokens numbers
  kept-everywhere numbers long inside zero = counted-outside 0 0 (inl refl) refl
  kept-everywhere numbers long inside (suc k) = ⊎_elim (λ low. subst (λ (n : ℕ). Counted nodes flows tokens n (get_or numbers k 0)) (add-one k) (inside k low)) none (cases_lt k 40)
    where
      none : 40 ≤ k → Counted nodes flows tokens (suc k) (get_or numbers k 0)
      none over = counted-outside (suc k) (get_or numbers k 0) (inr (omega arith)) (get_or_past numbers k 0 (omega arith))
