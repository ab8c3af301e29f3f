use Rattle.std.proofs.Common.{◌≡◌, ℕ, zero, suc, ◌≤◌, ◌+◌, ◌-◌, ◌<◌, List, slice_index_or, arith, rules, sym, subst, ⊎_elim}
use Rattle.std.specs.Fn.{Mut, Called}
use Rattle.std.specs.Array.{IsFromFnResultFrom}
use Rattle.std.proofs.lemmas.Bool.{cases_eq}
use Rattle.process.specs.declared.sets.FlowSet.{FlowSet}
use Rattle.paths.specs.Tables.{row}
use Rattle.paths.proofs.Lookups.{row_at}
use Rattle.paths.proofs.routing.methods.table.Goals as goal

-- calls that leave the callee as it is give what each of them gives
each-made : {F B : Type 0} (g : Mut F (ℕ × Unit {0}) B) (Same : F → Type 0) (P : ℕ → B → Type 0)
    → ((p q : F) (i : ℕ) (y : B) → Same p → Called g p (i, tt) y q → Same q × P i y)
    → (n : ℕ) (f : F) (ys : List B) (i : ℕ) → Same f → IsFromFnResultFrom g f ys i n → (k : ℕ) (d : B) → i ≤ k → k < i + n → P k (slice_index_or ys k d)
each-made g Same P step zero f ys i same made k d low high = absurd (omega arith)
each-made g Same P step (suc n) f ys i same (q, y, at, called, rest) k d low high =
    let now = step f q i y same called in
    ⊎_elim (λ e. subst (λ (j : ℕ). P j (slice_index_or ys j d)) (sym e) (subst (P i) (sym (at.1 d)) now.1))
    (λ ne. each-made g Same P step n q ys (i + 1) now.0 rest k d (omega arith) (omega arith)) (cases_eq k i)

pub returns-clause-value : goal.returns-clause-value
returns-clause-value g c = λ n low high.
    let calls = λ (i : ℕ) (s : FlowSet). goal.F-post g c.args.set_of (i + 1) s in
    let k = n - 1 in
    let n-is : k + 1 ≡ n = omega arith in
    let within : k < 0 + g.row.N = omega arith in
    let h = each-made _ (λ p. p.0.now ≡ c.args.set_of) calls (λ p q i y same called. search rules) g.row.N _ c.from_fn.result 0 (search rules) c.from_fn.ensures.items.each k (record { bits = 0 }) (omega arith) within in
    subst (λ (m : ℕ). goal.F-post g c.args.set_of m (row c.from_fn.result m)) n-is
    (subst (λ (s : FlowSet). goal.F-post g c.args.set_of (k + 1) s) (sym (row_at c.from_fn.result k)) h)
