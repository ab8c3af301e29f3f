-- What a line that is read looks like.
use Rattle.std.proofs.Common.{◌≡◌, ℕ, ◌^◌, ◌<◌, ◌≤◌, Bool, true, false, cond, List, [], ◌∷◌, drop, ℤ, pos, negsuc, nat_abs, Some, None, Ok, Err, decimal, Option, Result, sym, refl, ap, ◌∙◌, subst, arith}
use Rattle.std.specs.Option.{option_map, ok_or}
use Rattle.std.proofs.lemmas.Int.{ints}
use Rattle.std.proofs.lemmas.Bool.{and_from, le-leb}
use Rattle.fault.specs.declared.line.LineFault.{LineFault}
use Rattle.fault.specs.declared.line.LineFault.TheVariants.{Form, Number}
use Rattle.process.specs.declared.flow.Operator.{Operator}
use Rattle.process.specs.Processes.{is_number}
use Rattle.text.specs.declared.words.Keyword.{Keyword}
use Rattle.text.specs.declared.words.Keyword.TheVariants as keywords
use Rattle.text.specs.Numbers.{numeral, Names}
use Rattle.text.specs.Texts.{text_check}
use Rattle.text.specs.Words.{Token, keyword, number, figure, operator, words_of}
use Rattle.text.proofs.Numerals.{numeral-names}
use Rattle.reading.specs.Fields.{and_then, Words, Parsed, field, as_counted, as_figure, as_value, as_operator, counted, valued, counted_field, number_field, figure_field}
use Rattle.reading.specs.Lines.{ended, process_entry, opens_process, as_process, first_line, later_lines, all_lines, in_line, lines_of, process_read}

module _ {X : Type 0} {E : Type 0} where
  pub err-not-ok : (e : E) (x : X) → ◌≡◌ {A = Result X E} (Err e) (Ok x) → ⊥
  err-not-ok e x q = let z : ◌≡◌ {A = ℕ} 0 1 = cc in omega arith

  pub ok_same : (x y : X) → ◌≡◌ {A = Result X E} (Ok x) (Ok y) → x ≡ y
  ok_same x y q = cc

-- both steps went through
pub and-then-ok : {X Y E : Type 0} (r : Result X E) (next : X → Result Y E) (y : Y) → and_then r next ≡ Ok y → (x : X) × (r ≡ Ok x) × (next x ≡ Ok y)
and-then-ok (Ok x) next y e = (x, refl, e)
and-then-ok (Err f) next y e = absurd (err-not-ok f y e)

-- a test that was passed, or failed, to go on
pub cond-first : {X E : Type 0} (b : Bool) (r : Result X E) (e : E) (x : X) → cond b r (Err e) ≡ Ok x → (b ≡ true) × (r ≡ Ok x)
cond-first true r e x q = (refl, q)
cond-first false r e x q = absurd (err-not-ok e x q)

pub cond-second : {X E : Type 0} (b : Bool) (r : Result X E) (e : E) (x : X) → cond b (Err e) r ≡ Ok x → (b ≡ false) × (r ≡ Ok x)
cond-second true r e x q = absurd (err-not-ok e x q)
cond-second false r e x q = (refl, q)

-- the next word, and what it was read as
pub field-ok : {X : Type 0} (reads : ℕ → Token → Words → Parsed X) (line : ℕ) (ts : Words) (v : Result X LineFault × Words) → field reads line ts ≡ Ok v → (t : Token) × ((more : Words) × (ts ≡ Some t ∷ more) × (reads line t more ≡ Ok v))
field-ok reads line [] v e = absurd (err-not-ok (Form line) v e)
field-ok reads line (None ∷ ts) v e = absurd (err-not-ok (Form line) v e)
field-ok reads line (Some t ∷ ts) v e = (t, (ts, refl, e))

-- a number field is a number word
as_counted-ok : (high line : ℕ) (t : Token) (ts : Words) (v : Result ℕ LineFault × Words) → as_counted high line t ts ≡ Ok v → (w : List ℕ) × (t ≡ number w) × ((counted line high w, ts) ≡ v)
as_counted-ok high line (keyword k) ts v e = absurd (err-not-ok (Form line) v e)
as_counted-ok high line (number w) ts v e = (w, refl, ok_same (counted line high w, ts) v e)
as_counted-ok high line (figure w) ts v e = absurd (err-not-ok (Form line) v e)
as_counted-ok high line (operator o) ts v e = absurd (err-not-ok (Form line) v e)

pub number_ok : (high line : ℕ) (ts : Words) (v : Result ℕ LineFault × Words) → counted_field high line ts ≡ Ok v → (w : List ℕ) × (ts ≡ Some (number w) ∷ v.1) × (counted line high w ≡ v.0)
number_ok high line ts v e =
    let p = field-ok (as_counted high) line ts v e in
    let q = as_counted-ok high line p.0 p.1.0 v p.1.2 in
    (q.0, p.1.1 ∙ (λ i. Some (q.1 i) ∷ (q.2 i).1), ap (λ x. x.0) q.2)

-- a figure field is a figure word
as_figure-ok : (line : ℕ) (t : Token) (ts : Words) (v : Result ℕ LineFault × Words) → as_figure line t ts ≡ Ok v → (w : List ℕ) × (t ≡ figure w) × ((counted line 16 (drop 1 w), ts) ≡ v)
as_figure-ok line (keyword k) ts v e = absurd (err-not-ok (Form line) v e)
as_figure-ok line (number w) ts v e = absurd (err-not-ok (Form line) v e)
as_figure-ok line (figure w) ts v e = (w, refl, ok_same (counted line 16 (drop 1 w), ts) v e)
as_figure-ok line (operator o) ts v e = absurd (err-not-ok (Form line) v e)

pub figure-ok : (line : ℕ) (ts : Words) (v : Result ℕ LineFault × Words) → figure_field line ts ≡ Ok v → (w : List ℕ) × (ts ≡ Some (figure w) ∷ v.1) × (counted line 16 (drop 1 w) ≡ v.0)
figure-ok line ts v e =
    let p = field-ok as_figure line ts v e in
    let q = as_figure-ok line p.0 p.1.0 v p.1.2 in
    (q.0, p.1.1 ∙ (λ i. Some (q.1 i) ∷ (q.2 i).1), ap (λ x. x.0) q.2)

-- a value field is a number word
as_value-ok : (line : ℕ) (t : Token) (ts : Words) (v : Result ℤ LineFault × Words) → as_value line t ts ≡ Ok v → (w : List ℕ) × (t ≡ number w) × ((valued line w, ts) ≡ v)
as_value-ok line (keyword k) ts v e = absurd (err-not-ok (Form line) v e)
as_value-ok line (number w) ts v e = (w, refl, ok_same (valued line w, ts) v e)
as_value-ok line (figure w) ts v e = absurd (err-not-ok (Form line) v e)
as_value-ok line (operator o) ts v e = absurd (err-not-ok (Form line) v e)

pub value-ok : (line : ℕ) (ts : Words) (v : Result ℤ LineFault × Words) → field as_value line ts ≡ Ok v → (w : List ℕ) × (ts ≡ Some (number w) ∷ v.1) × (valued line w ≡ v.0)
value-ok line ts v e =
    let p = field-ok as_value line ts v e in
    let q = as_value-ok line p.0 p.1.0 v p.1.2 in
    (q.0, p.1.1 ∙ (λ i. Some (q.1 i) ∷ (q.2 i).1), ap (λ x. x.0) q.2)

-- an operator field is an operator
as_operator-ok : (line : ℕ) (t : Token) (ts : Words) (v : Result Operator LineFault × Words) → as_operator line t ts ≡ Ok v → (o : Operator) × (t ≡ operator o) × ((Ok o, ts) ≡ v)
as_operator-ok line (keyword k) ts v e = absurd (err-not-ok (Form line) v e)
as_operator-ok line (number w) ts v e = absurd (err-not-ok (Form line) v e)
as_operator-ok line (figure w) ts v e = absurd (err-not-ok (Form line) v e)
as_operator-ok line (operator o) ts v e = (o, refl, ok_same (Ok o, ts) v e)

pub operator-ok : (line : ℕ) (ts : Words) (v : Result Operator LineFault × Words) → field as_operator line ts ≡ Ok v → (o : Operator) × (ts ≡ Some (operator o) ∷ v.1) × (Ok o ≡ v.0)
operator-ok line ts v e =
    let p = field-ok as_operator line ts v e in
    let q = as_operator-ok line p.0 p.1.0 v p.1.2 in
    (q.0, p.1.1 ∙ (λ i. Some (q.1 i) ∷ (q.2 i).1), ap (λ x. x.0) q.2)

-- a number from 1 on that is read is the writing of the number
counted-some : (line high : ℕ) (w : List ℕ) (n : ℕ) (r : Option ℤ) → ok_or (option_map nat_abs r) (Number line) ≡ Ok n → (v : ℤ) × (r ≡ Some v) × (nat_abs v ≡ n)
counted-some line high w n None e = absurd (err-not-ok (Number line) n e)
counted-some line high w n (Some v) e = (v, refl, ok_same (nat_abs v) n e)

-- the word writes n, which lies from 1 to high
pub record Counts (high : ℕ) (w : List ℕ) (n : ℕ) : Type 0 where
  pub low : 1 ≤ n
  pub most : n ≤ high
  pub same : w ≡ decimal n

counts : (high : ℕ) (w : List ℕ) (n : ℕ) (v : ℤ) → nat_abs v ≡ n → Names w (pos 1) (pos high) v → Counts high w n
counts high w n (pos m) e h = record { low = omega (arith, ints, h.from); most = omega (arith, ints, h.to); same = h.same ∙ ap decimal e }
counts high w n (negsuc m) e h = absurd (omega (arith, ints, h.from))

pub counted-ok : (line high : ℕ) (w : List ℕ) (n : ℕ) → high < 2 ^ 31 → counted line high w ≡ Ok n → Counts high w n
counted-ok line high w n few e =
    let p = counted-some line high w n (numeral (pos 1) (pos high) w) e in
    counts high w n p.0 p.2 (numeral-names (pos 1) (pos high) (omega arith) few w p.0 p.1)

-- a value that is read is the writing of the value
valued-some : (line : ℕ) (c : ℤ) (r : Option ℤ) → ok_or r (Number line) ≡ Ok c → r ≡ Some c
valued-some line c None e = absurd (err-not-ok (Number line) c e)
valued-some line c (Some v) e = ap Some (ok_same v c e)

pub valued-ok : (line : ℕ) (w : List ℕ) (c : ℤ) → valued line w ≡ Ok c → Names w (negsuc 999999999) (pos 1000000000) c
valued-ok line w c e = numeral-names (negsuc 999999999) (pos 1000000000) (omega arith) (omega arith) w c (valued-some line c (numeral (negsuc 999999999) (pos 1000000000) w) e)

opens-ok : (line : ℕ) (k : Keyword) (ts : Words) (n : ℕ) → opens_process line k ts ≡ Ok n → (k ≡ keywords.Process) × (process_entry line ts ≡ Ok n)
opens-ok line keywords.Process ts n e = (refl, e)
opens-ok line keywords.Node ts n e = absurd (err-not-ok (Form line) n e)
opens-ok line keywords.Flow ts n e = absurd (err-not-ok (Form line) n e)
opens-ok line keywords.Start ts n e = absurd (err-not-ok (Form line) n e)
opens-ok line keywords.End ts n e = absurd (err-not-ok (Form line) n e)
opens-ok line keywords.Xor ts n e = absurd (err-not-ok (Form line) n e)
opens-ok line keywords.And ts n e = absurd (err-not-ok (Form line) n e)
opens-ok line keywords.Or ts n e = absurd (err-not-ok (Form line) n e)
opens-ok line keywords.Task ts n e = absurd (err-not-ok (Form line) n e)
opens-ok line keywords.Default ts n e = absurd (err-not-ok (Form line) n e)
opens-ok line keywords.If ts n e = absurd (err-not-ok (Form line) n e)
opens-ok line keywords.Answer ts n e = absurd (err-not-ok (Form line) n e)

as_process-ok : (line : ℕ) (t : Token) (ts : Words) (n : ℕ) → as_process line t ts ≡ Ok n → (t ≡ keyword keywords.Process) × (process_entry line ts ≡ Ok n)
as_process-ok line (keyword k) ts n e = let p = opens-ok line k ts n e in (ap keyword p.0, p.1)
as_process-ok line (number w) ts n e = absurd (err-not-ok (Form line) n e)
as_process-ok line (figure w) ts n e = absurd (err-not-ok (Form line) n e)
as_process-ok line (operator o) ts n e = absurd (err-not-ok (Form line) n e)

-- the words of a first line: `process` and a number
pub record FirstWords (ts : Words) (n : ℕ) : Type 0 where
  pub word : List ℕ
  pub counts : Counts 65535 word n
  pub all : ts ≡ Some (keyword keywords.Process) ∷ Some (number word) ∷ []

pub ended-ok : (line : ℕ) (ts : Words) → ended line ts ≡ Ok tt → ts ≡ []
ended-ok line [] e = refl
ended-ok line (t ∷ ts) e = absurd (err-not-ok (Form line) tt e)

entry-ok : (line : ℕ) (ts : Words) (n : ℕ) → process_entry line ts ≡ Ok n → FirstWords (Some (keyword keywords.Process) ∷ ts) n
entry-ok line ts n e =
    let p = and-then-ok (number_field line ts) _ n e in
    let q = number_ok 65535 line ts p.0 p.1 in
    let r = and-then-ok (ended line p.0.1) (λ u. p.0.0) n p.2 in
    record {
      word = q.0;
      counts = counted-ok line 65535 q.0 n (omega arith) (q.2 ∙ r.2);
      all = ap (λ l. Some (keyword keywords.Process) ∷ l) (q.1 ∙ ap (λ l. Some (number q.0) ∷ l) (ended-ok line p.0.1 r.1));
    }

pub first-ok : (line : ℕ) (ts : Words) (n : ℕ) → first_line line ts ≡ Ok n → FirstWords ts n
first-ok line [] n e = absurd (err-not-ok (Form line) n e)
first-ok line (None ∷ ts) n e = absurd (err-not-ok (Form line) n e)
first-ok line (Some t ∷ ts) n e =
    let p = as_process-ok line t ts n e in
    subst (λ x. FirstWords (Some x ∷ ts) n) (sym p.0) (entry-ok line ts n p.1)

pub first-number : (line : ℕ) (ts : Words) (n : ℕ) → first_line line ts ≡ Ok n → is_number n ≡ true
first-number line ts n e = let c = (first-ok line ts n e).counts in and_from _ _ (le-leb 1 n c.low) (le-leb n 65535 c.most)

-- a first line at fault
pub first_bad : (text first : List ℕ) (more : List (List ℕ)) (f : LineFault) → text_check text ≡ Ok tt → lines_of text ≡ first ∷ more → first_line 1 (words_of first) ≡ Err f → process_read text ≡ Err f
first_bad text first more f a b c =
    (λ i. and_then (in_line (a i)) (λ u. all_lines (b i)))
    ∙ ap (λ r. and_then r (λ n. and_then (later_lines 2 ([], []) more) (λ s. Ok (record { number = n; nodes = s.0; flows = s.1 })))) c
