-- Tasks of a model, and the answers that wait for them.
use Rattle.std.proofs.Common.{◌≡◌, ℕ, zero, suc, ◌≤◌, true, leb, List, [], ◌∷◌, get_or, refl, subst}
use Rattle.std.proofs.lemmas.Bool.{and_parts, leb-true}
use Rattle.process.specs.declared.draft.Draft.{Draft}
use Rattle.process.specs.declared.node.Kind.{Kind}
use Rattle.process.specs.declared.node.Kind.TheVariants as kinds
use Rattle.process.specs.Drafts.{nodes_of, flows_of, number_of}
use Rattle.process.specs.Processes.{is_number, kind_in_range, kinds_in_range, flows_formed}
use Rattle.model.specs.Rules.{kind_at}

kind_fits : (nodes : List Kind) (k : ℕ) → kinds_in_range nodes ≡ true → kind_in_range (get_or nodes k kinds.Start) ≡ true
kind_fits [] zero h = refl
kind_fits [] (suc k) h = refl
kind_fits (x ∷ xs) zero h = (and_parts (kind_in_range x) (kinds_in_range xs) h).0
kind_fits (x ∷ xs) (suc k) h = kind_fits xs k (and_parts (kind_in_range x) (kinds_in_range xs) h).1

kind-fits-at : (nodes : List Kind) (n : ℕ) → kinds_in_range nodes ≡ true → kind_in_range (kind_at nodes n) ≡ true
kind-fits-at nodes zero h = refl
kind-fits-at nodes (suc k) h = kind_fits nodes k h

-- the figure of a task has a number from 1 to 16
pub task-figure : (d : Draft) (n x : ℕ) → kind_at (nodes_of d) n ≡ kinds.Task x → (1 ≤ x) × (x ≤ 16)
task-figure d n x e =
    let formed = and_parts (is_number (number_of d)) _ d.formed in
    let ranged = and_parts (kinds_in_range (nodes_of d)) (flows_formed (nodes_of d) (flows_of d)) formed.1 in
    let fits : kind_in_range (kinds.Task x) ≡ true = subst (λ (k : Kind). kind_in_range k ≡ true) e (kind-fits-at (nodes_of d) n ranged.0) in
    let p = and_parts (leb 1 x) (leb x 16) fits in
    (leb-true 1 x p.0, leb-true x 16 p.1)
