-- The steps of a search: places are added one after another until the limit, and the queue is worked off.
use Rattle.std.proofs.Common.{◌≡◌, ℕ, ◌+◌, ◌-◌, ◌<◌, ◌≤◌, ◌≢◌, ◌⊎◌, List, [], ◌∷◌, ◌++◌, length, get_or, take, drop, set, sym, refl, ap, ◌∙◌, subst, inl, inr, ⊎_elim, append_assoc, arith, length-append, length-drop, length-set, take-append-drop, get_or-drop, get_or-set_other}
use Rattle.std.proofs.lemmas.List.{append-nil, take_more, take_more_set, same_lists, length-take-le}
use Rattle.graph.specs.Reach.{Holds, Distinct, Reached, start, step, AllReached, MoreThan}
use Rattle.graph.specs.Searches.{Ready, Added, Overflows, Searching}
use Rattle.graph.proofs.Holding.{holds-left, holds-right, holds-cases, distinct_push}

module _ {P : Type 0} {limit : ℕ} where
  -- before the first place, and after one is taken from the queue, a place can be added
  pub ready-none : {found queue : List P} → limit ≤ length found → queue ≡ [] → Ready limit found 0 queue
  ready-none fits e = record { fits = fits; within = omega arith; waits = omega (arith, ap length e); distinct = tt }

  pub ready-taken : {found : List P} {count : ℕ} {x : P} {queue : List P} → Ready limit found count (x ∷ queue) → Ready limit found count queue
  ready-taken r = record { fits = r.fits; within = r.within; waits = omega (arith, r.waits); distinct = r.distinct }

  -- places that were all found before change nothing
  pub added-nothing : {found : List P} {count : ℕ} {queue : List P} (asked : List P) → Ready limit found count queue → ((p : P) → Holds asked p → Holds (take count found) p) → Added limit asked found count queue found count queue
  added-nothing {found} {count} {queue} asked r old = record {
    new = [];
    front = sym (append-nil (take count found));
    number = omega arith;
    long = refl;
    rest = λ k d h. refl;
    behind = sym (append-nil queue);
    distinct = subst (λ (xs : List P). Distinct xs) (sym (append-nil (take count found))) r.distinct;
    only = λ p h. absurd h;
    all = λ p h. holds-left (take count found) [] p (old p h);
    within = r.within;
  }

  pub added-old : {found : List P} {count : ℕ} {queue : List P} (p : P) → Ready limit found count queue → Holds (take count found) p → Added limit (p ∷ []) found count queue found count queue
  added-old {found} {count} p r h = added-nothing (p ∷ []) r (λ q. ⊎_elim (λ e. subst (Holds (take count found)) e h) (λ z. absurd z))

  -- a place that was not found before is written behind those found, and put into the queue
  pub added_new : {found : List P} {count : ℕ} {queue : List P} (p : P) (queue' : List P) → Ready limit found count queue → count < limit → (Holds (take count found) p → ⊥) → queue' ≡ queue ++ p ∷ [] → Added limit (p ∷ []) found count queue (set found count p) (count + 1) queue'
  added_new {found} {count} {queue} p queue' r lt fresh e =
      let in' : count < length found = omega (arith, r.fits) in
      record {
        new = p ∷ [];
        front = take_more_set found count p in';
        number = omega arith;
        long = length-set found count p;
        rest = λ k d h. let ne : k ≢ count = omega arith in get_or-set_other found count k p d ne;
        behind = e;
        distinct = distinct_push (take count found) p r.distinct fresh;
        only = λ q h. h;
        all = λ q h. holds-right (take count found) (p ∷ []) q h;
        within = omega arith;
      }

  -- there is no room for a place that was not found before
  pub overflows-one : {found : List P} {count : ℕ} {queue : List P} (p : P) → Ready limit found count queue → limit ≤ count → (Holds (take count found) p → ⊥) → Overflows limit (p ∷ []) found count
  overflows-one {found} {count} p r full fresh = record {
    new = p ∷ [];
    number = omega (arith, r.within);
    distinct = distinct_push (take count found) p r.distinct fresh;
    only = λ q h. h;
  }

  -- after places were added, another can be added
  pub ready-after : {asked found : List P} {count : ℕ} {queue found' : List P} {count' : ℕ} {queue' : List P} → Ready limit found count queue → Added limit asked found count queue found' count' queue' → Ready limit found' count' queue'
  ready-after {queue = queue} r a = record {
    fits = omega (arith, r.fits, a.long);
    within = a.within;
    waits = omega (arith, r.waits, a.number, ap length a.behind, length-append queue a.new);
    distinct = subst (λ (xs : List P). Distinct xs) (sym a.front) a.distinct;
  }

  -- places added after others are the same as all of them added at once
  pub added_then : {ps qs found : List P} {count : ℕ} {queue found₁ : List P} {count₁ : ℕ} {queue₁ found₂ : List P} {count₂ : ℕ} {queue₂ : List P} → Added limit ps found count queue found₁ count₁ queue₁ → Added limit qs found₁ count₁ queue₁ found₂ count₂ queue₂ → Added limit (ps ++ qs) found count queue found₂ count₂ queue₂
  added_then {ps} {qs} {found} {count} {queue} {count₁ = count₁} {count₂ = count₂} a b =
      let F = take count found in
      let both : (F ++ a.new) ++ b.new ≡ F ++ (a.new ++ b.new) = append_assoc F a.new b.new in
      let later : count₁ ≤ count₂ = omega (arith, b.number) in
      let front : take count₂ _ ≡ F ++ (a.new ++ b.new) = b.front ∙ ap (λ (xs : List P). xs ++ b.new) a.front ∙ both in
      record {
        new = a.new ++ b.new;
        front = front;
        number = omega (arith, a.number, b.number, length-append a.new b.new);
        long = b.long ∙ a.long;
        rest = λ k d h. b.rest k d h ∙ a.rest k d (omega (arith, later, h));
        behind = b.behind ∙ ap (λ (xs : List P). xs ++ b.new) a.behind ∙ append_assoc queue a.new b.new;
        distinct = subst (λ (xs : List P). Distinct xs) (ap (λ (xs : List P). xs ++ b.new) a.front ∙ both) b.distinct;
        only = λ p h. ⊎_elim (λ l. holds-left ps qs p (a.only p l)) (λ r. holds-right ps qs p (b.only p r)) (holds-cases a.new b.new p h);
        all = λ p h. subst (λ (xs : List P). Holds xs p) (ap (λ (xs : List P). xs ++ b.new) a.front ∙ both)
            (⊎_elim (λ l. holds-left _ b.new p (subst (λ (xs : List P). Holds xs p) (sym a.front) (a.all p l))) (λ r. b.all p r) (holds-cases ps qs p h));
        within = b.within;
      }

  -- places for which there is no room after others have none together with these
  pub overflows-then : {ps qs found : List P} {count : ℕ} {queue found₁ : List P} {count₁ : ℕ} {queue₁ : List P} → Added limit ps found count queue found₁ count₁ queue₁ → Overflows limit qs found₁ count₁ → Overflows limit (ps ++ qs) found count
  overflows-then {ps} {qs} {found} {count} a b =
      let F = take count found in
      record {
        new = a.new ++ b.new;
        number = omega (arith, a.number, b.number, length-append a.new b.new);
        distinct = subst (λ (xs : List P). Distinct xs) (ap (λ (xs : List P). xs ++ b.new) a.front ∙ append_assoc F a.new b.new) b.distinct;
        only = λ p h. ⊎_elim (λ l. holds-left ps qs p (a.only p l)) (λ r. holds-right ps qs p (b.only p r)) (holds-cases a.new b.new p h);
      }

  -- the step of a loop over the places that are asked for
  pub added_more : {found : List P} {count : ℕ} {queue found₁ : List P} {count₁ : ℕ} {queue₁ found₂ : List P} {count₂ : ℕ} {queue₂ : List P} (asked : List P) (i : ℕ) (x : P) → i < length asked → x ≡ get_or asked i x → Added limit (take i asked) found count queue found₁ count₁ queue₁ → Added limit (x ∷ []) found₁ count₁ queue₁ found₂ count₂ queue₂ → Added limit (take (i + 1) asked) found count queue found₂ count₂ queue₂
  added_more {found} {count} {queue} {found₂ = found₂} {count₂ = count₂} {queue₂ = queue₂} asked i x lt e a b =
      subst (λ (xs : List P). Added limit xs found count queue found₂ count₂ queue₂)
      (ap (λ y. take i asked ++ y ∷ []) e ∙ sym (take_more asked i x lt)) (added_then a b)

  pub overflows-more : {found : List P} {count : ℕ} {queue found₁ : List P} {count₁ : ℕ} {queue₁ : List P} (asked : List P) (i : ℕ) (x : P) → i < length asked → x ≡ get_or asked i x → Added limit (take i asked) found count queue found₁ count₁ queue₁ → Overflows limit (x ∷ []) found₁ count₁ → Overflows limit asked found count
  overflows-more {found} {count} asked i x lt e a b =
      let here : take i asked ++ x ∷ [] ≡ take (i + 1) asked = ap (λ y. take i asked ++ y ∷ []) e ∙ sym (take_more asked i x lt) in
      let t = overflows-then a b in
      record {
        new = t.new;
        number = t.number;
        distinct = t.distinct;
        only = λ p h. subst (λ (xs : List P). Holds xs p) (take-append-drop (i + 1) asked)
            (holds-left (take (i + 1) asked) (drop (i + 1) asked) p (subst (λ (xs : List P). Holds xs p) here (t.only p h)));
      }

module _ {P : Type 0} {next : P → List P} {from : List P} {limit : ℕ} {before : List P} where
  -- after the places to start from were added, all that was found waits
  pub search-start : {queue₀ found : List P} {count : ℕ} {queue : List P} → queue₀ ≡ [] → Ready limit before 0 queue₀ → Added limit from before 0 queue₀ found count queue → Searching next from limit found found count queue
  search-start e r a =
      let all : _ ≡ a.new = a.behind ∙ ap (λ (xs : List P). xs ++ a.new) e in
      record {
        ready = ready-after r a;
        sound = λ p h. start (a.only p (subst (λ (xs : List P). Holds xs p) a.front h));
        queued = λ p h. start (a.only p (subst (λ (xs : List P). Holds xs p) all h));
        starts = λ p h. subst (λ (xs : List P). Holds xs p) (sym a.front) (a.all p h);
        closed = λ p h. inl (subst (λ (xs : List P). Holds xs p) (sym all) (subst (λ (xs : List P). Holds xs p) a.front h));
        long = refl;
        rest = λ k d h. refl;
      }

  -- a place was taken from the queue, or none waited, and what was found stays as it was
  pub search-taken : {found found' : List P} {count count' : ℕ} {queue queue' : List P} → found' ≡ found → count' ≡ count → queue ≡ queue' → Searching next from limit before found count queue → Searching next from limit before found' count' queue'
  search-taken {found} {found'} {count} {count'} {queue} {queue'} f c q s =
      let one = subst (λ (xs : List P). Searching next from limit before found count xs) q s in
      let two = subst (λ (n : ℕ). Searching next from limit before found n queue') (sym c) one in
      subst (λ (xs : List P). Searching next from limit before xs count' queue') (sym f) two

  -- a place was taken from the queue, and those next to it were added
  pub search-step : {found : List P} {count : ℕ} {x : P} {queue found' : List P} {count' : ℕ} {queue' : List P} → Searching next from limit before found count (x ∷ queue) → Added limit (next x) found count queue found' count' queue' → Searching next from limit before found' count' queue'
  search-step {found} {count} {x} {queue} {found'} {count'} {queue'} s a =
      let F = take count found in
      let r = ready-taken s.ready in
      let split : (p : P) → Holds (take count' found') p → Holds F p ⊎ Holds a.new p =
      λ p h. holds-cases F a.new p (subst (λ (xs : List P). Holds xs p) a.front h) in
      let fresh : (p : P) → Holds a.new p → Reached next from p = λ p h. step (s.queued x (inl refl)) (a.only p h) in
      let kept : (p : P) → Holds (F ++ a.new) p → Holds (take count' found') p = λ p h. subst (λ (xs : List P). Holds xs p) (sym a.front) h in
      let waits : (p : P) → Holds (queue ++ a.new) p → Holds queue' p = λ p h. subst (λ (xs : List P). Holds xs p) (sym a.behind) h in
      record {
        ready = ready-after r a;
        sound = λ p h. ⊎_elim (λ l. s.sound p l) (λ n. fresh p n) (split p h);
        queued = λ p h. ⊎_elim (λ l. s.queued p (inr l)) (λ n. fresh p n) (holds-cases queue a.new p (subst (λ (xs : List P). Holds xs p) a.behind h));
        starts = λ p h. kept p (holds-left F a.new p (s.starts p h));
        closed = λ p h. ⊎_elim
            (λ l. ⊎_elim
            (⊎_elim
            (λ e. inr (λ q m. kept q (a.all q (subst (λ (y : P). Holds (next y) q) (sym e) m))))
            (λ w. inl (waits p (holds-left queue a.new p w))))
            (λ c. inr (λ q m. kept q (holds-left F a.new q (c q m))))
            (s.closed p l))
            (λ n. inl (waits p (holds-right queue a.new p n)))
            (split p h);
        long = a.long ∙ s.long;
        rest = λ k d h. a.rest k d h ∙ s.rest k d (omega (arith, a.number, h));
      }

  -- where none waits, each place that can be reached was found: by induction on the way to it
  reached-found : {found : List P} {count : ℕ} → Searching next from limit before found count [] → (p : P) → Reached next from p → Holds (take count found) p
  reached-found s p (start h) = s.starts p h
  reached-found s q (step {p} r h) = ⊎_elim (λ z. absurd z) (λ c. c q h) (s.closed p (reached-found s p r))

  pub search-end : {found : List P} {count : ℕ} → Searching next from limit before found count [] → AllReached next from (take count found)
  search-end s = record { distinct = s.ready.distinct; sound = s.sound; complete = reached-found s }

  -- the places behind those that were found are as before the whole search
  pub search-rest : {asked origin queue₀ : List P} {count₀ : ℕ} {queue₁ : List P} {count₁ : ℕ} {found : List P} {count : ℕ} {queue : List P} → Added limit asked origin count₀ queue₀ before count₁ queue₁ → count₁ ≤ count → Searching next from limit before found count queue → drop count found ≡ drop count origin
  search-rest {origin = origin} {found = found} {count = count} a later s =
      same_lists (drop count found) (drop count origin) (length-drop count found ∙ ap (λ n. n - count) (s.long ∙ a.long) ∙ sym (length-drop count origin))
      (λ k d h. get_or-drop count found k d ∙ s.rest (count + k) d (omega arith) ∙ a.rest (count + k) d (omega (arith, later)) ∙ sym (get_or-drop count origin k d))

  -- without room for all places next to one that was found, or for all to start from, more than the limit can be reached
  pub search-fault : {found : List P} {count : ℕ} {x : P} {queue : List P} → Searching next from limit before found count (x ∷ queue) → Overflows limit (next x) found count → MoreThan next from limit
  search-fault {found} {count} {x} s t =
      let inside : count ≤ length found = omega (arith, s.ready.fits, s.ready.within) in
      record {
        places = take count found ++ t.new;
        number = omega (arith, length-append (take count found) t.new, length-take-le count found inside, t.number);
        distinct = t.distinct;
        sound = λ p h. ⊎_elim (λ l. s.sound p l) (λ n. step (s.queued x (inl refl)) (t.only p n)) (holds-cases (take count found) t.new p h);
      }

  pub start-fault : Overflows limit from before 0 → MoreThan next from limit
  start-fault t = record { places = t.new; number = omega (arith, t.number); distinct = t.distinct; sound = λ p h. start (t.only p h) }
