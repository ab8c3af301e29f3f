-- The answers that wait, one more and one less.
use Rattle.std.specs.Prelude.{◌≡◌, ℕ, zero, suc, ◌+◌, ◌<◌, ◌≤◌, Bool, true, false, cond, not, List, [], ◌∷◌, ◌++◌, length, is_ok, Some, None, Ok, Err, Option, Result, ◌==◌, ◌≢◌, nat_eq, refl}
use Rattle.std.proofs.Common.{sym, ap, ◌∙◌, ⊎_elim, arith}
use Rattle.std.proofs.Math.Path.{fun_ext}
use Rattle.std.specs.List.{slice_get, remove, count_by, position, position_or_len}
use Rattle.std.proofs.lemmas.List.{append-nil}
use Rattle.std.proofs.lemmas.List.Recursion.{is_count_by, is_position_or_len}
use Rattle.std.proofs.lemmas.List.Sums.{prefix_len-le-length}
use Rattle.std.proofs.lemmas.Bool.Decides.{nat_tests}
use Rattle.std.proofs.lemmas.Bool.{and_from, and_parts, cases_eq, cond-true, cond-false, eq-eqb, ne_eqb, eqb-true, eqb-false}
use Rattle.fault.specs.declared.service.ServiceFault.{ServiceFault}
use Rattle.fault.specs.declared.service.ServiceFault.TheVariants.{NoAnswer}
use Rattle.process.specs.Processes.{is_node_number}
use Rattle.service.specs.declared.answer.Answer.{Answer}
use Rattle.service.specs.declared.waiting.Waiting.{Waiting}
use Rattle.service.specs.Answers.{in_range}
use Rattle.service.specs.Entries.{entry, answers_for, place_for, is_sound, all_sound}
use Rattle.service.specs.Waits.{Waits, oldest, rest, taken, added, waiting_to, waiting_in_all}
use Rattle.service.specs.EntriesLemmas.{node-range}

-- ---- the entries for a node, in the words of std

count-is : (es : List Waiting) (n : ℕ) → length (answers_for es n) ≡ count_by (λ e. e.node == n) es
count-is es n = is_count_by (λ l. length (answers_for l n)) (λ e. e.node == n) refl (λ e l. one-or-none (e.node == n) e.answer (answers_for l n)) es
  where
    one-or-none : (b : Bool) (a : Answer) (l : List Answer) → length (cond b (a ∷ l) l) ≡ cond b (1 + length l) (length l)
    one-or-none true a l = omega arith
    one-or-none false a l = refl

pub counted : (es : List Waiting) (n k : ℕ) → k ≡ count_by (λ e. e.node == n) es → k ≡ length (answers_for es n)
counted es n k e = e ∙ sym (count-is es n)

place-is : (es : List Waiting) (n : ℕ) → place_for es n ≡ position_or_len (λ e. e.node == n) es
place-is es n = is_position_or_len (λ l. place_for l n) (λ e. e.node == n) refl (λ e l. here-or-later (e.node == n) (place_for l n)) es
  where
    here-or-later : (b : Bool) (k : ℕ) → cond b 0 (suc k) ≡ cond b 0 (1 + k)
    here-or-later true k = refl
    here-or-later false k = omega arith

pub placed : (es : List Waiting) (n i : ℕ) → Some i ≡ position (λ e. e.node == n) es → i ≡ place_for es n
placed es n i e = let is = place-is es n in grind (arith, nat_tests)

-- no entry is for the node
none-for : (es : List Waiting) (n : ℕ) → place_for es n ≡ length es → answers_for es n ≡ []
none-for [] n e = refl
none-for (d ∷ es) n e = here-or-later (d.node == n) e (none-for es n)
  where
    here-or-later : (b : Bool) → cond b 0 (suc (place_for es n)) ≡ suc (length es) → (place_for es n ≡ length es → answers_for es n ≡ []) → cond b (d.answer ∷ answers_for es n) (answers_for es n) ≡ []
    here-or-later true e later = absurd (omega arith)
    here-or-later false e later = later (omega arith)

place-most : (es : List Waiting) (n : ℕ) → place_for es n ≤ length es
place-most es n = omega (arith, place-is es n, prefix_len-le-length (λ e. not (e.node == n)) es)

pub not_placed : (es : List Waiting) (n : ℕ) → None ≡ position (λ e. e.node == n) es → answers_for es n ≡ []
not_placed es n e =
    let most = place-most es n in
    let is = place-is es n in
    let all : length es ≤ position_or_len (λ e. e.node == n) es = grind (arith, nat_tests) in
    none-for es n (omega arith)

-- ---- one entry more

answers-append : (es : List Waiting) (e : Waiting) (m : ℕ) → answers_for (es ++ e ∷ []) m ≡ answers_for es m ++ cond (e.node == m) (e.answer ∷ []) []
answers-append [] e m = refl
answers-append (d ∷ es) e m = under (d.node == m) d.answer _ (answers_for es m) _ (answers-append es e m)
  where
    under : (b : Bool) (a : Answer) (xs ys zs : List Answer) → xs ≡ ys ++ zs → cond b (a ∷ xs) xs ≡ cond b (a ∷ ys) ys ++ zs
    under true a xs ys zs h = ap (λ l. a ∷ l) h
    under false a xs ys zs h = h

pub answers_push : (es : List Waiting) (n : ℕ) (a : Answer) → answers_for (es ++ entry n a ∷ []) ≡ added (answers_for es) n a
answers_push es n a =
    fun_ext (λ m.
    answers-append es (entry n a) m
    ∙ ⊎_elim
    (λ (same : m ≡ n). ap (λ l. answers_for es m ++ l) (cond-true (n == m) _ _ (eq-eqb n m (sym same))) ∙ sym (cond-true (m == n) _ _ (eq-eqb m n same)))
    (λ (other : m ≡ n → ⊥). ap (λ l. answers_for es m ++ l) (cond-false (n == m) _ _ (ne_eqb n m (λ h. other (sym h)))) ∙ append-nil (answers_for es m) ∙ sym (cond-false (m == n) _ _ (ne_eqb m n other)))
    (cases_eq m n))

pub sound-push : (es : List Waiting) (e : Waiting) → all_sound es ≡ true → is_sound e ≡ true → all_sound (es ++ e ∷ []) ≡ true
sound-push [] e h k = and_from _ _ k refl
sound-push (d ∷ es) e h k = let p = and_parts (is_sound d) (all_sound es) h in and_from _ _ p.0 (sound-push es e p.1 k)

-- ---- the first entry for a node, out of its place

-- the answer of the entry
abbrev answer_in : Option Waiting → ℕ → Result Answer ServiceFault
answer_in None n = Err (NoAnswer n)
answer_in (Some e) n = Ok e.answer

oldest-placed : (es : List Waiting) (n : ℕ) → answer_in (slice_get es (place_for es n)) n ≡ oldest (answers_for es n) n
oldest-placed [] n = refl
oldest-placed (e ∷ es) n = here-or-later (e.node == n) (oldest-placed es n)
  where
    here-or-later : (b : Bool) → answer_in (slice_get es (place_for es n)) n ≡ oldest (answers_for es n) n → answer_in (slice_get (e ∷ es) (cond b 0 (suc (place_for es n)))) n ≡ oldest (cond b (e.answer ∷ answers_for es n) (answers_for es n)) n
    here-or-later true later = refl
    here-or-later false later = later

module _ (e : Waiting) (es : List Waiting) (n m : ℕ) where
  gone-here : e.node ≡ n → answers_for es m ≡ taken (answers_for (e ∷ es)) n m
  gone-here here =
      ⊎_elim
      (λ (same : m ≡ n). sym (cond-true (m == n) _ _ (eq-eqb m n same) ∙ ap rest (cond-true (e.node == m) _ _ (eq-eqb e.node m (here ∙ sym same)))))
      (λ (other : m ≡ n → ⊥). sym (cond-false (m == n) _ _ (ne_eqb m n other) ∙ cond-false (e.node == m) _ _ (ne_eqb e.node m (λ h. other (sym h ∙ here)))))
      (cases_eq m n)

  gone-later : (left : List Waiting) → (e.node ≢ n) → answers_for left m ≡ taken (answers_for es) n m → answers_for (e ∷ left) m ≡ taken (answers_for (e ∷ es)) n m
  gone-later left apart more =
      ⊎_elim
      (λ (same : m ≡ n).
      let none : nat_eq e.node m ≡ false = ne_eqb e.node m (λ h. apart (h ∙ same)) in
      let is = eq-eqb m n same in
      cond-false (e.node == m) _ _ none ∙ more ∙ cond-true (m == n) _ _ is ∙ sym (cond-true (m == n) _ _ is ∙ ap rest (cond-false (e.node == m) _ _ none)))
      (λ (other : m ≡ n → ⊥).
      let no = ne_eqb m n other in
      ap (λ l. cond (e.node == m) (e.answer ∷ l) l) (more ∙ cond-false (m == n) _ _ no) ∙ sym (cond-false (m == n) _ _ no))
      (cases_eq m n)

gone : (es : List Waiting) (n m : ℕ) → answers_for (remove es (place_for es n)) m ≡ taken (answers_for es) n m
gone [] n m = nothing (m == n)
  where
    nothing : (b : Bool) → [] ≡ cond b (rest []) []
    nothing true = refl
    nothing false = refl
gone (e ∷ es) n m = here-or-later (e.node == n) refl (gone es n m)
  where
    here-or-later : (b : Bool) → (e.node == n) ≡ b → answers_for (remove es (place_for es n)) m ≡ taken (answers_for es) n m → answers_for (remove (e ∷ es) (cond b 0 (suc (place_for es n)))) m ≡ taken (answers_for (e ∷ es)) n m
    here-or-later true is later = gone-here e es n m (eqb-true e.node n is)
    here-or-later false is later = gone-later e es n m (remove es (place_for es n)) (eqb-false e.node n is) later

-- where no answer waits for node n, none is taken
taken_none : (waits : Waits) (n m : ℕ) → waits n ≡ [] → taken waits n m ≡ waits m
taken_none waits n m none =
    ⊎_elim
    (λ (same : m ≡ n). let e = ap waits same ∙ none in cond-true (m == n) _ _ (eq-eqb m n same) ∙ ap rest e ∙ sym e)
    (λ (other : m ≡ n → ⊥). cond-false (m == n) _ _ (ne_eqb m n other))
    (cases_eq m n)

after-taking : (es : List Waiting) (n : ℕ) → answers_for (remove es (place_for es n)) ≡ cond (is_ok (oldest (answers_for es n) n)) (taken (answers_for es) n) (answers_for es)
after-taking es n = some_or_none (answers_for es n) refl
  where
    some_or_none : (l : List Answer) → answers_for es n ≡ l → answers_for (remove es (place_for es n)) ≡ cond (is_ok (oldest l n)) (taken (answers_for es) n) (answers_for es)
    some_or_none [] is = fun_ext (λ m. gone es n m ∙ taken_none (answers_for es) n m is)
    some_or_none (a ∷ l) is = fun_ext (gone es n)

-- the entry at its place is told, and the others are left
pub record TakenOut (es left : List Waiting) (n : ℕ) (r : Result Answer ServiceFault) : Type 0 where
  pub reply : r ≡ oldest (answers_for es n) n
  pub after : answers_for left ≡ cond (is_ok r) (taken (answers_for es) n) (answers_for es)

pub taken_out : (es left : List Waiting) (n place : ℕ) (o : Option Waiting) → place ≡ place_for es n → o ≡ slice_get es place → left ≡ remove es place → TakenOut es left n (answer_in o n)
taken_out es left n place o is told closed =
    let reply : answer_in o n ≡ oldest (answers_for es n) n = ap (λ x. answer_in x n) (told ∙ ap (slice_get es) is) ∙ oldest-placed es n in
    record { reply = reply; after = ap answers_for (closed ∙ ap (remove es) is) ∙ after-taking es n ∙ ap (λ r. cond (is_ok r) (taken (answers_for es) n) (answers_for es)) (sym reply) }

pub sound-removed : (es : List Waiting) (i : ℕ) → all_sound es ≡ true → all_sound (remove es i) ≡ true
sound-removed [] zero h = refl
sound-removed [] (suc i) h = refl
sound-removed (e ∷ es) zero h = (and_parts (is_sound e) (all_sound es) h).1
sound-removed (e ∷ es) (suc i) h = let p = and_parts (is_sound e) (all_sound es) h in and_from _ _ p.0 (sound-removed es i p.1)

-- ---- how many wait over all nodes

nothing-waits : (m : ℕ) → waiting_to m (λ n. []) ≡ 0
nothing-waits zero = refl
nothing-waits (suc m) = omega (arith, nothing-waits m)

module _ (waits : Waits) (k : ℕ) (a : Answer) where
  abbrev with_first : Waits
  with_first n = cond (k == n) (a ∷ waits n) (waits n)

  waiting-below : (m : ℕ) → m < k → waiting_to m with_first ≡ waiting_to m waits
  waiting-below zero h = refl
  waiting-below (suc m) h =
      let here : length (with_first (suc m)) ≡ length (waits (suc m)) = ap length (cond-false (k == suc m) _ _ (ne_eqb k (suc m) (λ e. omega arith))) in
      omega (arith, waiting-below m (omega arith), here)

  waiting-more : (m : ℕ) → 1 ≤ k → k ≤ m → waiting_to m with_first ≡ waiting_to m waits + 1
  waiting-more zero low high = absurd (omega arith)
  waiting-more (suc m) low high =
      ⊎_elim
      (λ (same : k ≡ suc m).
      let here : length (with_first (suc m)) ≡ length (waits (suc m)) + 1 = omega (arith, ap length (cond-true (k == suc m) (a ∷ waits (suc m)) (waits (suc m)) (eq-eqb k (suc m) same))) in
      omega (arith, waiting-below m (omega arith), here))
      (λ (other : k ≡ suc m → ⊥).
      let here : length (with_first (suc m)) ≡ length (waits (suc m)) = ap length (cond-false (k == suc m) _ _ (ne_eqb k (suc m) other)) in
      omega (arith, waiting-more m low (omega arith), here))
      (cases_eq k (suc m))

waiting-sum : (m : ℕ) (es : List Waiting) → m ≡ 40 → all_sound es ≡ true → waiting_to m (answers_for es) ≡ length es
waiting-sum m [] most h = nothing-waits m
waiting-sum m (e ∷ es) most h =
    let p = and_parts (is_sound e) (all_sound es) h in
    let r = node-range e.node (and_parts (is_node_number e.node) (in_range e.answer) p.0).0 in
    omega (arith, waiting-more (answers_for es) e.node e.answer m r.0 (omega arith), waiting-sum m es most p.1)

-- each entry waits for one of the nodes
pub waiting-entries : (es : List Waiting) → all_sound es ≡ true → waiting_in_all (answers_for es) ≡ length es
unfolding waiting_in_all
waiting-entries es h = waiting-sum 40 es refl h
