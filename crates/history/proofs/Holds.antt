-- The law holds after every call of every history.
use Rattle.std.proofs.Common.{◌≡◌, ℕ, true, false, List, [], ◌∷◌, ◌++◌, take, drop, ℤ, sym, refl, ap, ◌∙◌, subst, arith}
use Rattle.std.proofs.lemmas.List.{append-nil, append_assoc}
use Rattle.std.proofs.lemmas.Bool.{false≢true}
use Rattle.process.specs.declared.sets.FlowSet.{FlowSet}
use Rattle.process.specs.Sets.{no_flows}
use Rattle.paths.specs.declared.routing.Routing.{Routing}
use Rattle.service.specs.Waits.{Waits}
use Rattle.history.specs.declared.call.Call.{Call}
use Rattle.history.specs.declared.call.Call.TheVariants as calls
use Rattle.history.specs.declared.call.Count.{Count}
use Rattle.history.specs.declared.call.Count.TheVariants.{Setting, Going}
use Rattle.history.specs.declared.call.Reply.{Reply}
use Rattle.engine.specs.declared.counts.SetUp.{SetUp}
use Rattle.engine.specs.declared.counts.Begun.{Begun}
use Rattle.engine.specs.declared.line.Line.{Line}
use Rattle.engine.specs.Counts.{model_of, nodes_in, flows_in, tokens_of, figures_of}
use Rattle.history.specs.Histories.{Moment, Performed, History, NotTaken}
use Rattle.history.specs.Laws.{opening, begun_in, Opened, going, tokens_in, figures_in, Told, answers_in, steps_told, LawsAt, New, LawsHold, Attended}
use Rattle.engine.specs.Lines.{Leaves}
use Rattle.engine.specs.SetUps.{new_figures, Begins}
use Rattle.history.proofs.Counting.{written_at, history-counted}
use Rattle.history.proofs.Histories.{history-cut}
use Rattle.history.proofs.Journals.{leaves_none}
use Rattle.history.proofs.Openings.{opening-going, begun-going, opening-setting, begun-setting, passed_over, opened-none, opened-start, opened-as}
use Rattle.history.proofs.Sound.{model_in, Sound, step-sound, runs-sound}
use Rattle.history.proofs.Telling.{told-rightly}

-- ---- one call more

-- What is known after some calls: whether the count has begun, what stood before the first line, and what has been kept since.
record Kept (model : Routing) (journal₀ : List Line) (waits₀ : Waits) (done : List Call) (count : Count) (journal : List Line) (waits : Waits) : Type 0 where
  stage : going count ≡ begun_in done
  start : FlowSet
  opened : Opened (nodes_in model) (flows_in model) done start
  sound : Sound model start (opening new_figures done) journal₀ waits₀ count journal waits

abbrev KeptAt : Routing → List Line → Waits → List Call → Moment → Type 0
KeptAt model journal₀ waits₀ done (Moment.at count journal waits) = Kept model journal₀ waits₀ done count journal waits

module _ (model : Routing) (journal₀ : List Line) (waits₀ : Waits) (done : List Call) where
  -- a call of a begun count
  going-kept : (call : Call) (b b' : Begun) (journal journal' : List Line) (waits waits' : Waits) (k : Kept model journal₀ waits₀ done (Going b) journal waits) → Sound model k.start (opening new_figures done) journal₀ waits₀ (Going b') journal' waits' → Kept model journal₀ waits₀ (done ++ call ∷ []) (Going b') journal' waits'
  going-kept call b b' journal journal' waits waits' k sound =
      let begun = begun-going done call (sym k.stage) in
      record {
        stage = sym begun;
        start = k.start;
        opened = opened-as (nodes_in model) (flows_in model) done (done ++ call ∷ []) k.start (sym k.stage ∙ sym begun) k.opened;
        sound = subst (λ (f : List ℤ). Sound model k.start f journal₀ waits₀ (Going b') journal' waits') (sym (opening-going new_figures done call (sym k.stage))) sound;
      }

  -- a count that stays in set-up: no token, no line, and the figures that the calls leave
  setting_kept : (call : Call) (t t' : SetUp) (journal : List Line) (waits : Waits) → Kept model journal₀ waits₀ done (Setting t) journal waits → begun_in (call ∷ []) ≡ false → opening t.figures (call ∷ []) ≡ t'.figures → model_of t' ≡ model_of t → Kept model journal₀ waits₀ (done ++ call ∷ []) (Setting t') journal waits
  setting_kept call t t' journal waits k not-begin figures routing =
      let not-begun = sym k.stage in
      let after : begun_in (done ++ call ∷ []) ≡ false = begun-setting done call not-begun ∙ not-begin in
      let first : opening new_figures (done ++ call ∷ []) ≡ t'.figures =
      opening-setting new_figures done call not-begun ∙ ap (λ (f : List ℤ). opening f (call ∷ [])) (leaves_none k.sound.leaves) ∙ figures in
      record {
        stage = sym after;
        start = no_flows;
        opened = opened-none (nodes_in model) (flows_in model) (done ++ call ∷ []) after;
        sound = record {
          of_model = routing ∙ k.sound.of_model;
          leaves = subst (λ (f : List ℤ). Leaves (nodes_in model) (flows_in model) no_flows f [] no_flows t'.figures) (sym first) Leaves.nothing;
          fits = k.sound.fits;
          long = k.sound.long;
          rest_stands = k.sound.rest_stands;
          handed = k.sound.handed;
          untouched = k.sound.untouched;
        };
      }

  -- the token on the start's outgoing flow stands before the first line
  begin-kept : (t : SetUp) (b : Begun) (journal : List Line) (waits : Waits) → Kept model journal₀ waits₀ done (Setting t) journal waits → Begins t b → Kept model journal₀ waits₀ (done ++ calls.Begin ∷ []) (Going b) journal waits
  begin-kept t b journal waits k p =
      let not-begun = sym k.stage in
      let begun = begun-setting done calls.Begin not-begun in
      let first : opening new_figures (done ++ calls.Begin ∷ []) ≡ figures_of b =
      opening-setting new_figures done calls.Begin not-begun ∙ leaves_none k.sound.leaves ∙ sym p.figures in
      let none : (ls : List Line) → take b.written ls ≡ [] = λ ls. ap (λ (n : ℕ). take n ls) p.written in
      let all : (ls : List Line) → drop b.written ls ≡ ls = λ ls. ap (λ (n : ℕ). drop n ls) p.written in
      record {
        stage = sym begun;
        start = tokens_of b;
        opened =
            subst (λ (r : Routing). Opened (nodes_in r) (flows_in r) (done ++ calls.Begin ∷ []) (tokens_of b)) k.sound.of_model
            (opened-start (nodes_in (model_of t)) (flows_in (model_of t)) (done ++ calls.Begin ∷ []) (tokens_of b) begun p.tokens);
        sound = record {
          of_model = ap (λ x. x.now) p.routing ∙ k.sound.of_model;
          leaves =
              subst (λ (ls : List Line). Leaves (nodes_in model) (flows_in model) (tokens_of b) (opening new_figures (done ++ calls.Begin ∷ [])) ls (tokens_of b) (figures_of b)) (sym (none journal))
              (subst (λ (f : List ℤ). Leaves (nodes_in model) (flows_in model) (tokens_of b) f [] (tokens_of b) (figures_of b)) (sym first) Leaves.nothing);
          fits = omega (arith, p.written);
          long = k.sound.long;
          rest_stands = all journal ∙ k.sound.rest_stands ∙ sym (all journal₀);
          handed = λ n task. ap (λ (ls : List Line). answers_in n ls ++ waits n) (none journal) ∙ k.sound.handed n task;
          untouched = k.sound.untouched;
        };
      }

  -- a call that the count does not take
  passed-kept : (call : Call) (count : Count) (journal : List Line) (waits : Waits) → Kept model journal₀ waits₀ done count journal waits → NotTaken count call → Kept model journal₀ waits₀ (done ++ call ∷ []) count journal waits
  passed-kept call (Setting t) journal waits k u =
      let same = passed_over t t.figures call u in setting_kept call t t journal waits k same.1 same.0 refl
  passed-kept call (Going b) journal waits k u = going-kept call b b journal journal waits waits k k.sound

  -- any call
  call_kept : {m m' : Moment} {call : Call} {reply : Reply} → Performed m call reply m' → KeptAt model journal₀ waits₀ done m → KeptAt model journal₀ waits₀ (done ++ call ∷ []) m'
  call_kept (Performed.sets p) k = setting_kept _ _ _ _ _ k refl (sym p.figures) (ap (λ x. x.now) p.routing)
  call_kept (Performed.begins p) k = begin-kept _ _ _ _ k p
  call_kept (Performed.steps p) k = going-kept _ _ _ _ _ _ _ k (step-sound _ _ _ _ _ _ _ _ _ _ _ _ _ k.sound p)
  call_kept (Performed.runs p) k = going-kept _ _ _ _ _ _ _ k (runs-sound _ _ _ _ _ k.sound p.steps)
  call_kept (Performed.tells_figure p) k = going-kept _ _ _ _ _ _ _ k k.sound
  call_kept (Performed.tells_ready p) k = going-kept _ _ _ _ _ _ _ k k.sound
  call_kept (Performed.tells_holding p) k = going-kept _ _ _ _ _ _ _ k k.sound
  call_kept (Performed.tells_why p) k = going-kept _ _ _ _ _ _ _ k k.sound
  call_kept (Performed.passes_over u) k = passed-kept _ _ _ _ k u

-- ---- whole histories

module _ (model : Routing) (journal₀ : List Line) (waits₀ : Waits) where
  -- any calls, after those that were made before
  history-kept : {m m' : Moment} {more : List Call} {told : List Reply} → History m more told m' → (done : List Call) → KeptAt model journal₀ waits₀ done m → KeptAt model journal₀ waits₀ (done ++ more) m'
  history-kept {m' = m'} History.ends done k = subst (λ (cs : List Call). KeptAt model journal₀ waits₀ cs m') (sym (append-nil done)) k
  history-kept {m' = m'} (History.then {call = call} {more = more} p h) done k =
      subst (λ (cs : List Call). KeptAt model journal₀ waits₀ cs m') (append_assoc done (call ∷ []) more)
      (history-kept h (done ++ call ∷ []) (call_kept model journal₀ waits₀ done p k))

  -- a new count has kept everything
  new-kept : (instance : ℕ) (s : SetUp) → New model instance s → Kept model journal₀ waits₀ [] (Setting s) journal₀ waits₀
  new-kept instance s new = record {
    stage = refl;
    start = no_flows;
    opened = opened-none (nodes_in model) (flows_in model) [] refl;
    sound = record {
      of_model = new.of_model;
      leaves = subst (λ (f : List ℤ). Leaves (nodes_in model) (flows_in model) no_flows new_figures [] no_flows f) (sym new.zeroed) Leaves.nothing;
      fits = omega arith;
      long = refl;
      rest_stands = refl;
      handed = λ n task. refl;
      untouched = λ n none. refl;
    };
  }

  -- part (b), of a count of this model
  told_of : (count : Count) (journal : List Line) (waits : Waits) → model_in count ≡ model → going count ≡ true → Told (nodes_in model) (flows_in model) (tokens_in count) (Moment.at count journal waits)
  told_of (Setting s) journal waits e begun = absurd (false≢true begun)
  told_of (Going b) journal waits e begun =
      subst (λ (r : Routing). Told (nodes_in r) (flows_in r) (tokens_of b) (Moment.at (Going b) journal waits)) e (told-rightly b journal waits)

  -- the law from what is kept
  kept_laws : (done : List Call) (told : List Reply) (m : Moment) → KeptAt model journal₀ waits₀ done m → written_at m ≡ steps_told told → LawsAt model journal₀ waits₀ done told m
  kept_laws done told (Moment.at count journal waits) k counted = record {
    stage = k.stage;
    counted = counted;
    start = k.start;
    tokens = tokens_in count;
    figures = figures_in count;
    opened = k.opened;
    leaves = k.sound.leaves;
    tokens_held = refl;
    figures_held = refl;
    fits = k.sound.fits;
    long = k.sound.long;
    rest_stands = k.sound.rest_stands;
    told = λ begun. told_of count journal waits k.sound.of_model (k.stage ∙ begun);
    handed = k.sound.handed;
    untouched = k.sound.untouched;
  }

  -- the law after the calls of any history of a new count
  laws-after : (instance : ℕ) (s : SetUp) (done : List Call) (told : List Reply) (m : Moment) → New model instance s → History (Moment.at (Setting s) journal₀ waits₀) done told m → LawsAt model journal₀ waits₀ done told m
  laws-after instance s done told m new h =
      let counted = history-counted h in kept_laws done told m (history-kept h [] (new-kept instance s new)) (omega (arith, counted))

-- the main theorem
pub laws-hold : LawsHold
laws-hold model instance s journal₀ waits₀ done told m new h = laws-after model journal₀ waits₀ instance s done told m new h

-- calls that were made: the law holds at the end and after each call on the way
pub attended : (model : Routing) (instance : ℕ) (s : SetUp) (journal : List Line) (waits : Waits) (done : List Call) (told : List Reply) (count' : Count) (journal' : List Line) (waits' : Waits) → New model instance s → History (Moment.at (Setting s) journal waits) done told (Moment.at count' journal' waits') → Attended model instance journal waits done told count' journal' waits'
attended model instance s journal waits done told count' journal' waits' is_new h = record {
  new = s;
  is_new = is_new;
  history = h;
  laws = laws-after model journal waits instance s done told (Moment.at count' journal' waits') is_new h;
  always = λ k. let cut = history-cut h k in (cut.0, cut.1, laws-after model journal waits instance s (take k done) (take k told) cut.0 is_new cut.1, cut.2);
}
