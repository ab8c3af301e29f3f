-- What steps and runs keep.
use Rattle.std.proofs.Common.{◌≡◌, ℕ, ◌+◌, ◌<◌, ◌≤◌, true, false, List, [], ◌∷◌, ◌++◌, length, take, drop, ℤ, Ok, Err, Result, sym, ap, ◌∙◌, subst, arith}
use Rattle.std.proofs.lemmas.List.{take_more_set, drop-set-lt, drop-drop, length-set}
use Rattle.fault.specs.declared.count.CountFault.{CountFault}
use Rattle.process.specs.declared.sets.FlowSet.{FlowSet}
use Rattle.model.specs.Rules.{kind_at}
use Rattle.paths.specs.declared.routing.Routing.{Routing}
use Rattle.service.specs.Waits.{Waits}
use Rattle.history.specs.declared.call.Count.{Count}
use Rattle.history.specs.declared.call.Count.TheVariants.{Setting, Going}
use Rattle.engine.specs.declared.counts.Begun.{Begun}
use Rattle.engine.specs.declared.line.Line.{Line}
use Rattle.engine.specs.Counts.{model_of, routing_of, nodes_in, flows_in, tokens_of, figures_of}
use Rattle.history.specs.Laws.{tokens_in, figures_in, written, lines, is_task, answers_in}
use Rattle.engine.specs.Lines.{Allowed, Leaves}
use Rattle.engine.specs.Runs.{Runs}
use Rattle.engine.specs.Steps.{Answered, Went, Same, Stepped}
use Rattle.history.proofs.Journals.{leaves-push, handed-more, untouched-more}

-- the model of a count in either state
abbrev pub model_in : Count → Routing
model_in (Setting s) = model_of s
model_in (Going b) = routing_of b

-- What each call keeps, given the tokens and figures before the first line: the model, and parts (a) and (c) of the law.
pub record Sound (model : Routing) (start : FlowSet) (first : List ℤ) (journal₀ : List Line) (waits₀ : Waits) (count : Count) (journal : List Line) (waits : Waits) : Type 0 where
  pub of_model : model_in count ≡ model
  pub leaves : Leaves (nodes_in model) (flows_in model) start first (lines count journal) (tokens_in count) (figures_in count)
  pub fits : written count ≤ length journal
  pub long : length journal ≡ length journal₀
  pub rest_stands : drop (written count) journal ≡ drop (written count) journal₀
  pub handed : (n : ℕ) → is_task (kind_at (nodes_in model) n) ≡ true → answers_in n (lines count journal) ++ waits n ≡ waits₀ n
  pub untouched : (n : ℕ) → is_task (kind_at (nodes_in model) n) ≡ false → waits n ≡ waits₀ n

module _ (model : Routing) (start : FlowSet) (first : List ℤ) (journal₀ : List Line) (waits₀ : Waits) where
  -- a step that goes through
  went-sound : {b : Begun} {journal : List Line} {waits : Waits} {n : ℕ} {l : Line} {b' : Begun} {journal' : List Line} {waits' : Waits} → Sound model start first journal₀ waits₀ (Going b) journal waits → Went b journal waits n l b' journal' waits' → Sound model start first journal₀ waits₀ (Going b') journal' waits'
  went-sound {b} {journal} {waits} {n} {l} {b'} {journal'} {waits'} s w =
      let i = b.written in
      let place : i < length journal = w.room.place in
      let allowed : Allowed (nodes_in model) (flows_in model) (tokens_of b) (figures_of b) l (tokens_of b') (figures_of b') =
      subst (λ (r : Routing). Allowed (nodes_in r) (flows_in r) (tokens_of b) (figures_of b) l (tokens_of b') (figures_of b')) s.of_model w.allowed in
      let answered : Answered (kind_at (nodes_in model) l.node) waits l.node l.answer waits' =
      subst (λ (k : ℕ). Answered (kind_at (nodes_in model) k) waits k l.answer waits') (sym w.node)
      (subst (λ (r : Routing). Answered (kind_at (nodes_in r) n) waits n l.answer waits') s.of_model w.answered) in
      let long : length journal' ≡ length journal = ap length w.journal_is ∙ length-set journal i l in
      let lines_are : take b'.written journal' ≡ take i journal ++ l ∷ [] =
      ap (λ (k : ℕ). take k journal') w.written ∙ ap (take (i + 1)) w.journal_is ∙ take_more_set journal i l place in
      record {
        of_model = ap (λ x. x.now) w.routing ∙ s.of_model;
        leaves = subst (λ (ls : List Line). Leaves (nodes_in model) (flows_in model) start first ls (tokens_of b') (figures_of b')) (sym lines_are) (leaves-push s.leaves allowed);
        fits = omega (arith, w.written);
        long = long ∙ s.long;
        rest_stands =
            ap (λ (k : ℕ). drop k journal') w.written ∙ ap (drop (i + 1)) w.journal_is ∙ drop-set-lt (i + 1) journal i l (omega arith)
            ∙ sym (drop-drop 1 i journal) ∙ ap (drop 1) s.rest_stands ∙ drop-drop 1 i journal₀ ∙ sym (ap (λ (k : ℕ). drop k journal₀) w.written);
        handed = λ m task.
            ap (λ (ls : List Line). answers_in m ls ++ waits' m) lines_are
            ∙ handed-more (nodes_in model) l waits waits' answered (take i journal) m task ∙ s.handed m task;
        untouched = λ m none. untouched-more (nodes_in model) l waits waits' answered m none ∙ s.untouched m none;
      }

  -- nothing has changed
  same-sound : {b : Begun} {journal : List Line} {waits : Waits} {b' : Begun} {journal' : List Line} {waits' : Waits} → Sound model start first journal₀ waits₀ (Going b) journal waits → Same b journal waits b' journal' waits' → Sound model start first journal₀ waits₀ (Going b') journal' waits'
  same-sound {b} {journal} {waits} {b'} {journal'} {waits'} s e =
      subst (λ (x : Begun). Sound model start first journal₀ waits₀ (Going x) journal' waits') (sym e.count)
      (subst (λ (x : List Line). Sound model start first journal₀ waits₀ (Going b) x waits') (sym e.journal_is)
      (subst (λ (x : Waits). Sound model start first journal₀ waits₀ (Going b) journal x) (sym e.waits_are) s))

  -- a step, gone through or refused
  pub step-sound : (b : Begun) (journal : List Line) (waits : Waits) (n : ℕ) (r : Result Line CountFault) (b' : Begun) (journal' : List Line) (waits' : Waits) → Sound model start first journal₀ waits₀ (Going b) journal waits → Stepped b journal waits n r b' journal' waits' → Sound model start first journal₀ waits₀ (Going b') journal' waits'
  step-sound b journal waits n (Ok l) b' journal' waits' s p = went-sound s p
  step-sound b journal waits n (Err fault) b' journal' waits' s p = same-sound s p.same

  -- a run
  pub runs-sound : {budget : ℕ} {b : Begun} {journal : List Line} {waits : Waits} {k : ℕ} {b' : Begun} {journal' : List Line} {waits' : Waits} → Sound model start first journal₀ waits₀ (Going b) journal waits → Runs budget b journal waits k b' journal' waits' → Sound model start first journal₀ waits₀ (Going b') journal' waits'
  runs-sound s Runs.still = s
  runs-sound s (Runs.again r goes w) = went-sound (runs-sound s r) w
