-- One line more in a journal: what the lines leave, and the answers in them.
use Rattle.std.proofs.Common.{◌≡◌, ℕ, Bool, true, false, cond, eqb, List, [], ◌∷◌, ◌++◌, ℤ, Ok, sym, refl, ap, ◌∙◌, subst, ⊎_elim, arith}
use Rattle.std.proofs.lemmas.List.{append_assoc}
use Rattle.std.proofs.lemmas.Bool.{cases_eq, eq-eqb, ne_eqb, both_ways}
use Rattle.process.specs.declared.flow.Flow.{Flow}
use Rattle.process.specs.declared.node.Kind.{Kind}
use Rattle.process.specs.declared.node.Kind.TheVariants as kinds
use Rattle.process.specs.declared.sets.FlowSet.{FlowSet}
use Rattle.model.specs.Rules.{kind_at}
use Rattle.service.specs.declared.answer.Answer.{Answer}
use Rattle.service.specs.Waits.{Waits, oldest, rest, taken}
use Rattle.engine.specs.declared.line.Line.{Line}
use Rattle.engine.specs.Lines.{Allowed, Leaves}
use Rattle.engine.specs.Steps.{Answered}
use Rattle.history.specs.Laws.{is_task, answers_in}

-- ---- what the lines leave

-- one line more at the end
pub leaves-push : {nodes : List Kind} {flows : List Flow} {tokens tokens₁ tokens₂ : FlowSet} {figures figures₁ figures₂ : List ℤ} {ls : List Line} {l : Line} → Leaves nodes flows tokens figures ls tokens₁ figures₁ → Allowed nodes flows tokens₁ figures₁ l tokens₂ figures₂ → Leaves nodes flows tokens figures (ls ++ l ∷ []) tokens₂ figures₂
leaves-push Leaves.nothing a = Leaves.line a Leaves.nothing
leaves-push (Leaves.line x r) a = Leaves.line x (leaves-push r a)

-- no line leaves the figures as they were
pub leaves_none : {nodes : List Kind} {flows : List Flow} {tokens tokens₁ : FlowSet} {figures figures₁ : List ℤ} → Leaves nodes flows tokens figures [] tokens₁ figures₁ → figures ≡ figures₁
leaves_none Leaves.nothing = refl

-- ---- the answers in the lines

push_at : (t : Bool) (z : Answer) (xs ys zs : List Answer) → xs ≡ ys ++ zs → cond t (z ∷ xs) xs ≡ cond t (z ∷ ys) ys ++ zs
push_at true z xs ys zs e = ap (λ (l : List Answer). z ∷ l) e
push_at false z xs ys zs e = e

-- one line more: its answer comes behind the others
answers_push : (n : ℕ) (ls : List Line) (l : Line) → answers_in n (ls ++ l ∷ []) ≡ answers_in n ls ++ answers_in n (l ∷ [])
answers_push n [] l = refl
answers_push n (k ∷ ks) l = push_at (eqb k.node n) k.answer _ _ _ (answers_push n ks l)

-- an answer that is the oldest stands first
oldest-first : (answers : List Answer) (n : ℕ) (a : Answer) → oldest answers n ≡ Ok a → a ∷ rest answers ≡ answers
oldest-first [] n a e = let no : ◌≡◌ {A = ℕ} 0 1 = cc in absurd (omega arith)
oldest-first (x ∷ xs) n a e = let same : a ≡ x = cc in ap (λ (y : Answer). y ∷ xs) same

-- either a task takes the answer that stands first, or another node takes none
abbrev Took : Bool → Waits → ℕ → Answer → Waits → Type 0
Took true waits n a waits' = (a ∷ rest (waits n) ≡ waits n) × (waits' ≡ taken waits n)
Took false waits n a waits' = waits' ≡ waits

-- by the kind of the node
took : (kind : Kind) (waits : Waits) (n : ℕ) (a : Answer) (waits' : Waits) → Answered kind waits n a waits' → Took (is_task kind) waits n a waits'
took kinds.Start waits n a waits' p = p.1
took kinds.End waits n a waits' p = p.1
took (kinds.Task x) waits n a waits' p = (oldest-first (waits n) n a p.0, p.1)
took kinds.Exclusive waits n a waits' p = p.1
took kinds.Parallel waits n a waits' p = p.1
took kinds.Inclusive waits n a waits' p = p.1

module _ (waits : Waits) (n : ℕ) (a : Answer) (waits' : Waits) where
  -- of the node itself, where it is a task
  took-first : (t : Bool) → Took t waits n a waits' → t ≡ true → a ∷ waits' n ≡ waits n
  took-first true p e =
      ap (λ (f : Waits). a ∷ f n) p.1 ∙ ap (λ (same : Bool). a ∷ cond same (rest (waits n)) (waits n)) (eq-eqb n n refl) ∙ p.0
  took-first false p e = absurd (both_ways _ refl e)

  -- of the node itself, where it is no task
  took-none : (t : Bool) → Took t waits n a waits' → t ≡ false → waits' n ≡ waits n
  took-none true p e = absurd (both_ways _ e refl)
  took-none false p e = ap (λ (f : Waits). f n) p

  -- of any other node
  took-other : (t : Bool) → Took t waits n a waits' → (m : ℕ) → (m ≡ n → ⊥) → waits' m ≡ waits m
  took-other true p m ne =
      ap (λ (f : Waits). f m) p.1 ∙ ap (λ (same : Bool). cond same (rest (waits m)) (waits m)) (ne_eqb m n ne)
  took-other false p m ne = ap (λ (f : Waits). f m) p

module _ (nodes : List Kind) (l : Line) (waits waits' : Waits) (answered : Answered (kind_at nodes l.node) waits l.node l.answer waits') where
  -- what the node of the line took
  taking : Took (is_task (kind_at nodes l.node)) waits l.node l.answer waits'
  taking = took (kind_at nodes l.node) waits l.node l.answer waits' answered

  -- the answer of a task's line, then those that wait after it, are those that waited before it
  handed-one : (m : ℕ) → is_task (kind_at nodes m) ≡ true → answers_in m (l ∷ []) ++ waits' m ≡ waits m
  handed-one m task = ⊎_elim here other (cases_eq m l.node)
    where
      here : m ≡ l.node → answers_in m (l ∷ []) ++ waits' m ≡ waits m
      here e =
          subst (λ (k : ℕ). answers_in k (l ∷ []) ++ waits' k ≡ waits k) (sym e)
          (ap (λ (same : Bool). cond same (l.answer ∷ []) [] ++ waits' l.node) (eq-eqb l.node l.node refl)
          ∙ took-first waits l.node l.answer waits' _ taking (subst (λ (k : ℕ). is_task (kind_at nodes k) ≡ true) e task))

      other : (m ≡ l.node → ⊥) → answers_in m (l ∷ []) ++ waits' m ≡ waits m
      other ne =
          ap (λ (same : Bool). cond same (l.answer ∷ []) [] ++ waits' m) (ne_eqb l.node m (λ e. ne (sym e)))
          ∙ took-other waits l.node l.answer waits' _ taking m ne

  -- and so behind other lines
  pub handed-more : (ls : List Line) (m : ℕ) → is_task (kind_at nodes m) ≡ true → answers_in m (ls ++ l ∷ []) ++ waits' m ≡ answers_in m ls ++ waits m
  handed-more ls m task =
      ap (λ (x : List Answer). x ++ waits' m) (answers_push m ls l)
      ∙ append_assoc (answers_in m ls) (answers_in m (l ∷ [])) (waits' m)
      ∙ ap (λ (x : List Answer). answers_in m ls ++ x) (handed-one m task)

  -- what waits for a number that is no task's stays
  pub untouched-more : (m : ℕ) → is_task (kind_at nodes m) ≡ false → waits' m ≡ waits m
  untouched-more m none = ⊎_elim here (took-other waits l.node l.answer waits' _ taking m) (cases_eq m l.node)
    where
      here : m ≡ l.node → waits' m ≡ waits m
      here e =
          subst (λ (k : ℕ). waits' k ≡ waits k) (sym e)
          (took-none waits l.node l.answer waits' _ taking (subst (λ (k : ℕ). is_task (kind_at nodes k) ≡ false) e none))
