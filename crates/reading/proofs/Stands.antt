-- What was read of a line, back to the words that stand in it.
use Rattle.std.proofs.Common.{◌≡◌, ℕ, ◌^◌, ◌<◌, true, eqb, List, [], ◌∷◌, ◌++◌, map, drop, ℤ, Some, Ok, Err, decimal, Result, sym, refl, ap, ◌∙◌, subst, append_assoc, append-nil, arith}
use Rattle.std.specs.Fmt.{signed_decimal}
use Rattle.std.proofs.lemmas.Bool.{and_parts, eqb-true, false≢true}
use Rattle.fault.specs.declared.line.LineFault.{LineFault}
use Rattle.fault.specs.declared.line.LineFault.TheVariants.{Form}
use Rattle.process.specs.declared.flow.Guard.{Guard}
use Rattle.process.specs.declared.flow.Guard.TheVariants as guards
use Rattle.process.specs.declared.flow.Operator.{Operator}
use Rattle.process.specs.declared.node.Kind.{Kind}
use Rattle.process.specs.declared.node.Kind.TheVariants as kinds
use Rattle.text.specs.declared.words.Keyword.{Keyword}
use Rattle.text.specs.declared.words.Keyword.TheVariants as keywords
use Rattle.text.specs.Numbers.{some_digits, figure_shape}
use Rattle.text.specs.Words.{Token, keyword, number, figure, operator, spelling, symbol, word_of}
use Rattle.text.proofs.Tokens.{Reads, reads-from-word}
use Rattle.reading.specs.Fields.{and_then, Words, Parsed, field, as_value, as_operator, as_kind, as_guard, counted_field, figure_field, task_kind, kind_named, guard_named, condition, condition_value, guard_field}
use Rattle.reading.specs.Writings.{figure_word, kind_words, guard_words}
use Rattle.reading.proofs.Forms.{err-not-ok, ok_same, and-then-ok, field-ok, number_ok, figure-ok, value-ok, operator-ok, counted-ok, valued-ok}

-- the pieces begin with the words, and what follows them reads as more
pub record Stands (ws ps : List (List ℕ)) (more : Words) : Type 0 where
  pub rest : List (List ℕ)
  pub here : ps ≡ ws ++ rest
  pub left : map word_of rest ≡ more

-- some words, and after them others
pub then-stands : (ws vs ps : List (List ℕ)) (mid more : Words) (a : Stands ws ps mid) → Stands vs a.rest more → Stands (ws ++ vs) ps more
then-stands ws vs ps mid more a b = record { rest = b.rest; here = a.here ∙ ap (λ r. ws ++ r) b.here ∙ sym (append_assoc ws vs b.rest); left = b.left }

-- no word, and one word in front of others
none-stands : (ps : List (List ℕ)) (more : Words) → map word_of ps ≡ more → Stands [] ps more
none-stands ps more of = record { rest = ps; here = refl; left = of }

led-stands : (w : List ℕ) (ws vs ps : List (List ℕ)) (more after : Words) → w ∷ ws ≡ vs → more ≡ after → Stands ws ps more → Stands vs (w ∷ ps) after
led-stands w ws vs ps more after front same a = record { rest = a.rest; here = ap (λ l. w ∷ l) a.here ∙ ap (λ l. l ++ a.rest) front; left = a.left ∙ same }

none_more : (ps : List (List ℕ)) → map word_of ps ≡ [] → ps ≡ []
none_more [] e = refl
none_more (w ∷ ps) e = absurd (let z : ◌≡◌ {A = ℕ} 0 1 = cc in omega arith)

-- where nothing is left, the words are all pieces
pub all-stands : (ws ps : List (List ℕ)) (more : Words) → Stands ws ps more → more ≡ [] → ps ≡ ws
all-stands ws ps more a none = a.here ∙ ap (λ r. ws ++ r) (none_more a.rest (a.left ∙ none)) ∙ append-nil ws

-- the bytes of the next word
pub next-stands : (ps : List (List ℕ)) (t : Token) (more : Words) → map word_of ps ≡ Some t ∷ more → (w : List ℕ) × Stands (w ∷ []) ps more × Reads w t
next-stands [] t more e = absurd (let z : ◌≡◌ {A = ℕ} 0 1 = cc in omega arith)
next-stands (w ∷ ps) t more e = (w, record { rest = ps; here = refl; left = cc }, reads-from-word w t (cc))

-- a figure word begins with `v`
after-v : (w : List ℕ) → figure_shape w ≡ true → w ≡ 118 ∷ drop 1 w
after-v [] h = absurd (false≢true h)
after-v (b ∷ w) h = ap (λ x. x ∷ w) (eqb-true b 118 (and_parts (eqb b 118) (some_digits w) h).0)

-- ---- the fields of one word

module _ (line : ℕ) (ps : List (List ℕ)) (ts : Words) (of : map word_of ps ≡ ts) where
  pub number-stands : (high : ℕ) → high < 2 ^ 31 → (v : Result ℕ LineFault × Words) (n : ℕ) → counted_field high line ts ≡ Ok v → v.0 ≡ Ok n → Stands (decimal n ∷ []) ps v.1
  number-stands high few v n e is =
      let p = number_ok high line ts v e in
      let q = next-stands ps (number p.0) v.1 (of ∙ p.1) in
      subst (λ w. Stands (w ∷ []) ps v.1) (sym q.2.0 ∙ (counted-ok line high p.0 n few (p.2 ∙ is)).same) q.1

  pub value-stands : (v : Result ℤ LineFault × Words) (c : ℤ) → field as_value line ts ≡ Ok v → v.0 ≡ Ok c → Stands (signed_decimal c ∷ []) ps v.1
  value-stands v c e is =
      let p = value-ok line ts v e in
      let q = next-stands ps (number p.0) v.1 (of ∙ p.1) in
      subst (λ w. Stands (w ∷ []) ps v.1) (sym q.2.0 ∙ (valued-ok line p.0 c (p.2 ∙ is)).same) q.1

  operator-stands : (v : Result Operator LineFault × Words) (o : Operator) → field as_operator line ts ≡ Ok v → v.0 ≡ Ok o → Stands (symbol o ∷ []) ps v.1
  operator-stands v o e is =
      let p = operator-ok line ts v e in
      let q = next-stands ps (operator p.0) v.1 (of ∙ p.1) in
      subst (λ w. Stands (w ∷ []) ps v.1) (q.2 ∙ ap symbol (ok_same p.0 o (p.2 ∙ is))) q.1

  figure-stands : (v : Result ℕ LineFault × Words) (x : ℕ) → figure_field line ts ≡ Ok v → v.0 ≡ Ok x → Stands (figure_word x ∷ []) ps v.1
  figure-stands v x e is =
      let p = figure-ok line ts v e in
      let q = next-stands ps (figure p.0) v.1 (of ∙ p.1) in
      let digits : drop 1 q.0 ≡ decimal x = ap (drop 1) (sym q.2.0) ∙ (counted-ok line 16 (drop 1 p.0) x (omega arith) (p.2 ∙ is)).same in
      subst (λ w. Stands (w ∷ []) ps v.1) (after-v q.0 q.2.1 ∙ ap (λ l. 118 ∷ l) digits) q.1

-- ---- the kind of a node

module _ (line : ℕ) (w : List ℕ) (ps : List (List ℕ)) (ts : Words) (of : map word_of ps ≡ ts) (v : Result Kind LineFault × Words) (kind : Kind) (is : v.0 ≡ Ok kind) where
  -- a kind of one word
  bare : (k : Kind) → kind_words k ≡ w ∷ [] → ◌≡◌ {A = Parsed Kind} (Ok (Ok k, ts)) (Ok v) → Stands (kind_words kind) (w ∷ ps) v.1
  bare k spelled e =
      let p = ok_same (Ok k, ts) v e in
      let same : k ≡ kind = ok_same k kind (ap (λ r. r.0) p ∙ is) in
      led-stands w [] (kind_words kind) ps ts v.1 (sym spelled ∙ ap kind_words same) (ap (λ r. r.1) p) (none-stands ps ts of)

  task : w ≡ spelling keywords.Task → task_kind line ts ≡ Ok v → Stands (kind_words kind) (w ∷ ps) v.1
  task spelled e =
      let p = and-then-ok (figure_field line ts) (λ f. Ok (and_then f.0 (λ x. Ok (kinds.Task x)), f.1)) v e in
      let q = ok_same (and_then p.0.0 (λ x. Ok (kinds.Task x)), p.0.1) v p.2 in
      let r = and-then-ok p.0.0 (λ x. Ok (kinds.Task x)) kind (ap (λ r. r.0) q ∙ is) in
      let same : kinds.Task r.0 ≡ kind = ok_same (kinds.Task r.0) kind r.2 in
      led-stands w (figure_word r.0 ∷ []) (kind_words kind) ps p.0.1 v.1
      (ap (λ l. l ∷ figure_word r.0 ∷ []) spelled ∙ ap kind_words same)
      (ap (λ r. r.1) q)
      (figure-stands line ps ts of p.0 r.0 p.1 r.1)

  kind-stands-named : (k : Keyword) → w ≡ spelling k → kind_named line k ts ≡ Ok v → Stands (kind_words kind) (w ∷ ps) v.1
  kind-stands-named keywords.Process s e = absurd (err-not-ok (Form line) v e)
  kind-stands-named keywords.Node s e = absurd (err-not-ok (Form line) v e)
  kind-stands-named keywords.Flow s e = absurd (err-not-ok (Form line) v e)
  kind-stands-named keywords.Start s e = bare kinds.Start (ap (λ l. l ∷ []) (sym s)) e
  kind-stands-named keywords.End s e = bare kinds.End (ap (λ l. l ∷ []) (sym s)) e
  kind-stands-named keywords.Xor s e = bare kinds.Exclusive (ap (λ l. l ∷ []) (sym s)) e
  kind-stands-named keywords.And s e = bare kinds.Parallel (ap (λ l. l ∷ []) (sym s)) e
  kind-stands-named keywords.Or s e = bare kinds.Inclusive (ap (λ l. l ∷ []) (sym s)) e
  kind-stands-named keywords.Task s e = task s e
  kind-stands-named keywords.Default s e = absurd (err-not-ok (Form line) v e)
  kind-stands-named keywords.If s e = absurd (err-not-ok (Form line) v e)
  kind-stands-named keywords.Answer s e = absurd (err-not-ok (Form line) v e)

  kind-stands-as : (t : Token) → Reads w t → as_kind line t ts ≡ Ok v → Stands (kind_words kind) (w ∷ ps) v.1
  kind-stands-as (keyword k) s e = kind-stands-named k s e
  kind-stands-as (number x) s e = absurd (err-not-ok (Form line) v e)
  kind-stands-as (figure x) s e = absurd (err-not-ok (Form line) v e)
  kind-stands-as (operator o) s e = absurd (err-not-ok (Form line) v e)

pub kind-stands : (line : ℕ) (ps : List (List ℕ)) (ts : Words) → map word_of ps ≡ ts → (v : Result Kind LineFault × Words) (kind : Kind) → field as_kind line ts ≡ Ok v → v.0 ≡ Ok kind → Stands (kind_words kind) ps v.1
kind-stands line ps ts of v kind e is =
    let p = field-ok as_kind line ts v e in
    let q = next-stands ps p.0 p.1.0 (of ∙ p.1.1) in
    subst (λ l. Stands (kind_words kind) l v.1) (sym q.1.here) (kind-stands-as line q.0 q.1.rest p.1.0 q.1.left v kind is p.0 q.2 p.1.2)

-- ---- the guard of a flow

-- each part of a condition that has a value
record Parts (x : Result ℕ LineFault) (o : Result Operator LineFault) (c : Result ℤ LineFault) (g : Guard) : Type 0 where
  figure : ℕ
  operator : Operator
  value : ℤ
  x_is : x ≡ Ok figure
  o_is : o ≡ Ok operator
  c_is : c ≡ Ok value
  same : (w : List ℕ) → w ≡ spelling keywords.If → w ∷ figure_word figure ∷ symbol operator ∷ signed_decimal value ∷ [] ≡ guard_words g

condition-parts : (x : Result ℕ LineFault) (o : Result Operator LineFault) (c : Result ℤ LineFault) (g : Guard) → condition_value x o c ≡ Ok g → Parts x o c g
condition-parts (Ok x) (Ok o) (Ok c) g e = record { figure = x; operator = o; value = c; x_is = refl; o_is = refl; c_is = refl; same = λ w s. ap (λ l. l ∷ figure_word x ∷ symbol o ∷ signed_decimal c ∷ []) s ∙ ap guard_words (ok_same _ g e) }
condition-parts (Ok x) (Ok o) (Err f) g e = absurd (err-not-ok f g e)
condition-parts (Ok x) (Err f) c g e = absurd (err-not-ok f g e)
condition-parts (Err f) o c g e = absurd (err-not-ok f g e)

module _ (line : ℕ) (w : List ℕ) (ps : List (List ℕ)) (ts : Words) (of : map word_of ps ≡ ts) (v : Result Guard LineFault × Words) (guard : Guard) (is : v.0 ≡ Ok guard) where
  default : w ≡ spelling keywords.Default → ◌≡◌ {A = Parsed Guard} (Ok (Ok guards.Default, ts)) (Ok v) → Stands (guard_words guard) (w ∷ ps) v.1
  default spelled e =
      let p = ok_same (Ok guards.Default, ts) v e in
      let same : guards.Default ≡ guard = ok_same guards.Default guard (ap (λ r. r.0) p ∙ is) in
      led-stands w [] (guard_words guard) ps ts v.1 (ap (λ l. l ∷ []) spelled ∙ ap guard_words same) (ap (λ r. r.1) p) (none-stands ps ts of)

  when : w ≡ spelling keywords.If → condition line ts ≡ Ok v → Stands (guard_words guard) (w ∷ ps) v.1
  when spelled e =
      let x = and-then-ok (figure_field line ts) _ v e in
      let o = and-then-ok (field as_operator line x.0.1) _ v x.2 in
      let c = and-then-ok (field as_value line o.0.1) _ v o.2 in
      let p = ok_same (condition_value x.0.0 o.0.0 c.0.0, c.0.1) v c.2 in
      let q = condition-parts x.0.0 o.0.0 c.0.0 guard (ap (λ r. r.0) p ∙ is) in
      let a = figure-stands line ps ts of x.0 q.figure x.1 q.x_is in
      let b = operator-stands line a.rest x.0.1 a.left o.0 q.operator o.1 q.o_is in
      let d = value-stands line b.rest o.0.1 b.left c.0 q.value c.1 q.c_is in
      led-stands w (figure_word q.figure ∷ symbol q.operator ∷ signed_decimal q.value ∷ []) (guard_words guard) ps c.0.1 v.1
      (q.same w spelled)
      (ap (λ r. r.1) p)
      (then-stands _ (symbol q.operator ∷ signed_decimal q.value ∷ []) ps x.0.1 c.0.1 a (then-stands _ (signed_decimal q.value ∷ []) a.rest o.0.1 c.0.1 b d))

  guard-stands-named : (k : Keyword) → w ≡ spelling k → guard_named line k ts ≡ Ok v → Stands (guard_words guard) (w ∷ ps) v.1
  guard-stands-named keywords.Process s e = absurd (err-not-ok (Form line) v e)
  guard-stands-named keywords.Node s e = absurd (err-not-ok (Form line) v e)
  guard-stands-named keywords.Flow s e = absurd (err-not-ok (Form line) v e)
  guard-stands-named keywords.Start s e = absurd (err-not-ok (Form line) v e)
  guard-stands-named keywords.End s e = absurd (err-not-ok (Form line) v e)
  guard-stands-named keywords.Xor s e = absurd (err-not-ok (Form line) v e)
  guard-stands-named keywords.And s e = absurd (err-not-ok (Form line) v e)
  guard-stands-named keywords.Or s e = absurd (err-not-ok (Form line) v e)
  guard-stands-named keywords.Task s e = absurd (err-not-ok (Form line) v e)
  guard-stands-named keywords.Default s e = default s e
  guard-stands-named keywords.If s e = when s e
  guard-stands-named keywords.Answer s e = absurd (err-not-ok (Form line) v e)

  guard-stands-as : (t : Token) → Reads w t → as_guard line t ts ≡ Ok v → Stands (guard_words guard) (w ∷ ps) v.1
  guard-stands-as (keyword k) s e = guard-stands-named k s e
  guard-stands-as (number x) s e = absurd (err-not-ok (Form line) v e)
  guard-stands-as (figure x) s e = absurd (err-not-ok (Form line) v e)
  guard-stands-as (operator o) s e = absurd (err-not-ok (Form line) v e)

-- no guard, where no word is left
plain : (ps : List (List ℕ)) (ts : Words) → map word_of ps ≡ ts → (v : Result Guard LineFault × Words) (guard : Guard) → ◌≡◌ {A = Parsed Guard} (Ok (Ok guards.Plain, ts)) (Ok v) → v.0 ≡ Ok guard → Stands (guard_words guard) ps v.1
plain ps ts of v guard e is =
    let p = ok_same (Ok guards.Plain, ts) v e in
    subst (λ g. Stands (guard_words g) ps v.1) (ok_same guards.Plain guard (ap (λ r. r.0) p ∙ is)) (none-stands ps v.1 (of ∙ ap (λ r. r.1) p))

pub guard-stands : (line : ℕ) (ps : List (List ℕ)) (ts : Words) → map word_of ps ≡ ts → (v : Result Guard LineFault × Words) (guard : Guard) → guard_field line ts ≡ Ok v → v.0 ≡ Ok guard → Stands (guard_words guard) ps v.1
guard-stands line ps [] of v guard e is = plain ps [] of v guard e is
guard-stands line ps (t ∷ ts) of v guard e is =
    let p = field-ok as_guard line (t ∷ ts) v e in
    let q = next-stands ps p.0 p.1.0 (of ∙ p.1.1) in
    subst (λ l. Stands (guard_words guard) l v.1) (sym q.1.here) (guard-stands-as line q.0 q.1.rest p.1.0 q.1.left v guard is p.0 q.2 p.1.2)
