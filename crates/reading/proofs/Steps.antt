-- What a line after the first adds: one node or one flow, and the line is its writing.
use Rattle.std.proofs.Common.{◌≡◌, ℕ, ◌+◌, ◌<◌, true, not, ◌&&◌, eqb, leb, ◌⊎◌, List, [], ◌∷◌, ◌++◌, map, length, Some, None, Ok, decimal, sym, refl, ap, ◌∙◌, inl, inr, arith}
use Rattle.std.proofs.lemmas.Bool.{and_from, and_parts, eqb-true, leb-false, not-false}
use Rattle.fault.specs.declared.line.LineFault.TheVariants.{Form, Number, Sequence, TooMany, MissingNode}
use Rattle.process.specs.declared.flow.Flow.{Flow}
use Rattle.process.specs.declared.flow.Guard.{Guard}
use Rattle.process.specs.declared.node.Kind.{Kind}
use Rattle.process.specs.Processes.{is_node, kind_in_range, guard_in_range, flow_formed, node_added, flow_added}
use Rattle.text.specs.declared.words.Keyword.{Keyword}
use Rattle.text.specs.declared.words.Keyword.TheVariants as keywords
use Rattle.text.specs.Pieces.{pieces, joined}
use Rattle.text.specs.Words.{Token, keyword, number, figure, operator, spelling, word_of, words_of}
use Rattle.text.proofs.Joins.{joined-pieces}
use Rattle.text.proofs.Tokens.{Reads}
use Rattle.reading.specs.Fields.{and_then, Words, number_field, field, as_kind, guard_field}
use Rattle.reading.specs.Lines.{Sofar, ended, node_line, flow_line, opened_by, as_line, later_line}
use Rattle.reading.specs.Writings.{kind_words, guard_words, node_words, flow_words}
use Rattle.reading.proofs.Forms.{err-not-ok, ok_same, and-then-ok, cond-first, cond-second, ended-ok}
use Rattle.reading.proofs.Stands.{then-stands, all-stands, next-stands, number-stands, kind-stands, guard-stands}

-- ---- a node that is added

record AddedNode (nodes : List Kind) (n : ℕ) (kind : Kind) (ns : List Kind) : Type 0 where
  range : kind_in_range kind ≡ true
  few : length nodes < 40
  next : n ≡ length nodes + 1
  after : nodes ++ kind ∷ [] ≡ ns

node_added-ok : (nodes : List Kind) (line n : ℕ) (kind : Kind) (ns : List Kind) → node_added nodes line n kind ≡ Ok ns → AddedNode nodes n kind ns
node_added-ok nodes line n kind ns e =
    let a = cond-second (not (kind_in_range kind)) _ (Number line) ns e in
    let b = cond-second (leb 40 (length nodes)) _ (TooMany line) ns a.1 in
    let c = cond-second (not (eqb n (length nodes + 1))) _ (Sequence line) ns b.1 in
    record {
      range = not-false _ a.0;
      few = leb-false 40 (length nodes) b.0;
      next = eqb-true n (length nodes + 1) (not-false _ c.0);
      after = ok_same (nodes ++ kind ∷ []) ns c.1;
    }

-- the words after `node` write the kind that is added
record NodeLine (nodes : List Kind) (ps : List (List ℕ)) (ns : List Kind) : Type 0 where
  kind : Kind
  range : kind_in_range kind ≡ true
  few : length nodes < 40
  words : ps ≡ decimal (length nodes + 1) ∷ kind_words kind
  after : nodes ++ kind ∷ [] ≡ ns

node_ok : (line : ℕ) (nodes : List Kind) (ps : List (List ℕ)) (ts : Words) (ns : List Kind) → map word_of ps ≡ ts → node_line line nodes ts ≡ Ok ns → NodeLine nodes ps ns
node_ok line nodes ps ts ns of e =
    let n = and-then-ok (number_field line ts) _ ns e in
    let k = and-then-ok (field as_kind line n.0.1) _ ns n.2 in
    let u = and-then-ok (ended line k.0.1) (λ u. and_then n.0.0 (λ number. and_then k.0.0 (λ kind. node_added nodes line number kind))) ns k.2 in
    let m = and-then-ok n.0.0 _ ns u.2 in
    let j = and-then-ok k.0.0 _ ns m.2 in
    let a = node_added-ok nodes line m.0 j.0 ns j.2 in
    let s = number-stands line ps ts of 65535 (omega arith) n.0 m.0 n.1 m.1 in
    let t = kind-stands line s.rest n.0.1 s.left k.0 j.0 k.1 j.1 in
    let all = then-stands (decimal m.0 ∷ []) (kind_words j.0) ps n.0.1 k.0.1 s t in
    record {
      kind = j.0;
      range = a.range;
      few = a.few;
      words = all-stands _ ps k.0.1 all (ended-ok line k.0.1 u.1) ∙ ap (λ x. decimal x ∷ kind_words j.0) a.next;
      after = a.after;
    }

-- ---- a flow that is added

record AddedFlow (nodes : List Kind) (flows : List Flow) (n a b : ℕ) (guard : Guard) (fs : List Flow) : Type 0 where
  formed : flow_formed nodes (record { from = a; to = b; guard = guard }) ≡ true
  few : length flows < 64
  next : n ≡ length flows + 1
  after : flows ++ record { from = a; to = b; guard = guard } ∷ [] ≡ fs

flow_added-ok : (nodes : List Kind) (flows : List Flow) (line n a b : ℕ) (guard : Guard) (fs : List Flow) → flow_added nodes flows line n a b guard ≡ Ok fs → AddedFlow nodes flows n a b guard fs
flow_added-ok nodes flows line n a b guard fs e =
    let r = cond-second (not (guard_in_range guard)) _ (Number line) fs e in
    let f = cond-second (leb 64 (length flows)) _ (TooMany line) fs r.1 in
    let m = cond-second (not (eqb n (length flows + 1))) _ (Sequence line) fs f.1 in
    let j = cond-second (not (is_node nodes a && is_node nodes b)) _ (MissingNode line) fs m.1 in
    let there = and_parts (is_node nodes a) (is_node nodes b) (not-false _ j.0) in
    record {
      formed = and_from _ _ there.0 (and_from _ _ there.1 (not-false _ r.0));
      few = leb-false 64 (length flows) f.0;
      next = eqb-true n (length flows + 1) (not-false _ m.0);
      after = ok_same _ fs j.1;
    }

-- the words after `flow` write the flow that is added
record FlowLine (nodes : List Kind) (flows : List Flow) (ps : List (List ℕ)) (fs : List Flow) : Type 0 where
  flow : Flow
  formed : flow_formed nodes flow ≡ true
  few : length flows < 64
  words : ps ≡ decimal (length flows + 1) ∷ decimal flow.from ∷ decimal flow.to ∷ guard_words flow.guard
  after : flows ++ flow ∷ [] ≡ fs

flow-ok : (line : ℕ) (nodes : List Kind) (flows : List Flow) (ps : List (List ℕ)) (ts : Words) (fs : List Flow) → map word_of ps ≡ ts → flow_line line nodes flows ts ≡ Ok fs → FlowLine nodes flows ps fs
flow-ok line nodes flows ps ts fs of e =
    let n = and-then-ok (number_field line ts) _ fs e in
    let a = and-then-ok (number_field line n.0.1) _ fs n.2 in
    let b = and-then-ok (number_field line a.0.1) _ fs a.2 in
    let g = and-then-ok (guard_field line b.0.1) _ fs b.2 in
    let u = and-then-ok (ended line g.0.1) (λ u. and_then n.0.0 (λ number. and_then a.0.0 (λ from. and_then b.0.0 (λ to. and_then g.0.0 (λ guard. flow_added nodes flows line number from to guard))))) fs g.2 in
    let m = and-then-ok n.0.0 _ fs u.2 in
    let from = and-then-ok a.0.0 _ fs m.2 in
    let to = and-then-ok b.0.0 _ fs from.2 in
    let guard = and-then-ok g.0.0 _ fs to.2 in
    let added = flow_added-ok nodes flows line m.0 from.0 to.0 guard.0 fs guard.2 in
    let s = number-stands line ps ts of 65535 (omega arith) n.0 m.0 n.1 m.1 in
    let t = number-stands line s.rest n.0.1 s.left 65535 (omega arith) a.0 from.0 a.1 from.1 in
    let v = number-stands line t.rest a.0.1 t.left 65535 (omega arith) b.0 to.0 b.1 to.1 in
    let w = guard-stands line v.rest b.0.1 v.left g.0 guard.0 g.1 guard.1 in
    let vw = then-stands (decimal to.0 ∷ []) (guard_words guard.0) t.rest b.0.1 g.0.1 v w in
    let tvw = then-stands (decimal from.0 ∷ []) _ s.rest a.0.1 g.0.1 t vw in
    let all = then-stands (decimal m.0 ∷ []) _ ps n.0.1 g.0.1 s tvw in
    record {
      flow = record { from = from.0; to = to.0; guard = guard.0 };
      formed = added.formed;
      few = added.few;
      words = all-stands _ ps g.0.1 all (ended-ok line g.0.1 u.1) ∙ ap (λ x. decimal x ∷ decimal from.0 ∷ decimal to.0 ∷ guard_words guard.0) added.next;
      after = added.after;
    }

-- ---- a line after the first

-- one more node, while there is no flow
pub record NodeStep (s : Sofar) (l : List ℕ) (t : Sofar) : Type 0 where
  pub kind : Kind
  pub range : kind_in_range kind ≡ true
  pub few : length s.0 < 40
  pub none : length s.1 ≡ 0
  pub line : l ≡ joined 32 (node_words (length s.0 + 1) kind)
  pub after : (s.0 ++ kind ∷ [], s.1) ≡ t

-- one more flow
pub record FlowStep (s : Sofar) (l : List ℕ) (t : Sofar) : Type 0 where
  pub flow : Flow
  pub formed : flow_formed s.0 flow ≡ true
  pub few : length s.1 < 64
  pub line : l ≡ joined 32 (flow_words (length s.1 + 1) flow)
  pub after : (s.0, s.1 ++ flow ∷ []) ≡ t

abbrev pub Step : Sofar → List ℕ → Sofar → Type 0
Step s l t = NodeStep s l t ⊎ FlowStep s l t

module _ (line : ℕ) (s : Sofar) (l : List ℕ) (t : Sofar) (w : List ℕ) (ps : List (List ℕ)) (all : pieces 32 l ≡ w ∷ ps) (ts : Words) (of : map word_of ps ≡ ts) where
  whole : (ws : List (List ℕ)) → w ∷ ps ≡ ws → l ≡ joined 32 ws
  whole ws e = sym (joined-pieces 32 l) ∙ ap (joined 32) (all ∙ e)

  node-step : w ≡ spelling keywords.Node → opened_by line s keywords.Node ts ≡ Ok t → NodeStep s l t
  node-step spelled e =
      let a = cond-first (eqb (length s.1) 0) _ (Form line) t e in
      let b = and-then-ok (node_line line s.0 ts) (λ ns. Ok (ns, s.1)) t a.1 in
      let n = node_ok line s.0 ps ts b.0 of b.1 in
      record {
        kind = n.kind;
        range = n.range;
        few = n.few;
        none = eqb-true (length s.1) 0 a.0;
        line = whole _ (λ i. spelled i ∷ n.words i);
        after = ap (λ ns. (ns, s.1)) n.after ∙ ok_same (b.0, s.1) t b.2;
      }

  flow-step : w ≡ spelling keywords.Flow → opened_by line s keywords.Flow ts ≡ Ok t → FlowStep s l t
  flow-step spelled e =
      let b = and-then-ok (flow_line line s.0 s.1 ts) (λ fs. Ok (s.0, fs)) t e in
      let f = flow-ok line s.0 s.1 ps ts b.0 of b.1 in
      record {
        flow = f.flow;
        formed = f.formed;
        few = f.few;
        line = whole _ (λ i. spelled i ∷ f.words i);
        after = ap (λ fs. (s.0, fs)) f.after ∙ ok_same (s.0, b.0) t b.2;
      }

  opened-ok : (k : Keyword) → w ≡ spelling k → opened_by line s k ts ≡ Ok t → Step s l t
  opened-ok keywords.Process sp e = absurd (err-not-ok (Form line) t e)
  opened-ok keywords.Node sp e = inl (node-step sp e)
  opened-ok keywords.Flow sp e = inr (flow-step sp e)
  opened-ok keywords.Start sp e = absurd (err-not-ok (Form line) t e)
  opened-ok keywords.End sp e = absurd (err-not-ok (Form line) t e)
  opened-ok keywords.Xor sp e = absurd (err-not-ok (Form line) t e)
  opened-ok keywords.And sp e = absurd (err-not-ok (Form line) t e)
  opened-ok keywords.Or sp e = absurd (err-not-ok (Form line) t e)
  opened-ok keywords.Task sp e = absurd (err-not-ok (Form line) t e)
  opened-ok keywords.Default sp e = absurd (err-not-ok (Form line) t e)
  opened-ok keywords.If sp e = absurd (err-not-ok (Form line) t e)
  opened-ok keywords.Answer sp e = absurd (err-not-ok (Form line) t e)

  as-line-ok : (x : Token) → Reads w x → as_line s line x ts ≡ Ok t → Step s l t
  as-line-ok (keyword k) sp e = opened-ok k sp e
  as-line-ok (number x) sp e = absurd (err-not-ok (Form line) t e)
  as-line-ok (figure x) sp e = absurd (err-not-ok (Form line) t e)
  as-line-ok (operator o) sp e = absurd (err-not-ok (Form line) t e)

later-ok : (line : ℕ) (s : Sofar) (l : List ℕ) (t : Sofar) (ts : Words) → words_of l ≡ ts → later_line line s ts ≡ Ok t → Step s l t
later-ok line s l t [] of e = absurd (err-not-ok (Form line) t e)
later-ok line s l t (None ∷ ts) of e = absurd (err-not-ok (Form line) t e)
later-ok line s l t (Some x ∷ ts) of e =
    let p = next-stands (pieces 32 l) x ts of in
    as-line-ok line s l t p.0 p.1.rest p.1.here ts p.1.left x p.2 e

-- a line that is read is a node or a flow as it is written
pub line_step : (line : ℕ) (s : Sofar) (l : List ℕ) (t : Sofar) → later_line line s (words_of l) ≡ Ok t → Step s l t
line_step line s l t e = later-ok line s l t (words_of l) refl e
