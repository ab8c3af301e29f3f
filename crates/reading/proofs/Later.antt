-- The lines after the first: the nodes and flows that they add, of which they are the writing.
use Rattle.std.proofs.Common.{◌≡◌, ℕ, ◌+◌, ◌<◌, List, [], ◌∷◌, ◌++◌, map, length, Ok, sym, refl, ap, ◌∙◌, subst, ⊎_elim, append_assoc, append-nil, arith}
use Rattle.std.proofs.lemmas.List.{length_push}
use Rattle.process.specs.declared.flow.Flow.{Flow}
use Rattle.process.specs.declared.node.Kind.{Kind}
use Rattle.process.proofs.Formed.{formed-node, formed-flow}
use Rattle.text.specs.Pieces.{joined}
use Rattle.text.specs.Words.{words_of}
use Rattle.reading.specs.Lines.{Process, Sofar, later_line, later_lines}
use Rattle.reading.specs.Writings.{node_words, flow_words, node_lines, flow_lines, Formed}
use Rattle.reading.proofs.Forms.{ok_same, and-then-ok}
use Rattle.reading.proofs.Steps.{NodeStep, FlowStep, Step, line_step}

-- the lines write the nodes and the flows that they add to s, and no node comes after a flow
pub record Added (s : Sofar) (ls : List (List ℕ)) (t : Sofar) : Type 0 where
  pub nodes : List Kind
  pub flows : List Flow
  pub nodes_are : s.0 ++ nodes ≡ t.0
  pub flows_are : s.1 ++ flows ≡ t.1
  pub ordered : 0 < length s.1 → nodes ≡ []
  pub lines : ls ≡ map (joined 32) (node_lines (length s.0 + 1) nodes ++ flow_lines (length s.1 + 1) flows)

module _ (ns : List Kind) (fs : List Flow) (l : List ℕ) (ls : List (List ℕ)) (t : Sofar) where
  node-first : (kind : Kind) → length fs ≡ 0 → l ≡ joined 32 (node_words (length ns + 1) kind) → Added (ns ++ kind ∷ [], fs) ls t → Added (ns, fs) (l ∷ ls) t
  node-first kind none here a = record {
    nodes = kind ∷ a.nodes;
    flows = a.flows;
    nodes_are = sym (append_assoc ns (kind ∷ []) a.nodes) ∙ a.nodes_are;
    flows_are = a.flows_are;
    ordered = λ some. absurd (omega arith);
    lines = (λ i. here i ∷ a.lines i) ∙ ap (λ n. map (joined 32) (node_words (length ns + 1) kind ∷ (node_lines (n + 1) a.nodes ++ flow_lines (length fs + 1) a.flows))) (length_push ns kind);
  }

  flow-first : (flow : Flow) → l ≡ joined 32 (flow_words (length fs + 1) flow) → Added (ns, fs ++ flow ∷ []) ls t → Added (ns, fs) (l ∷ ls) t
  flow-first flow here a =
      let none : a.nodes ≡ [] = a.ordered (omega (arith, length_push fs flow)) in
      record {
        nodes = [];
        flows = flow ∷ a.flows;
        nodes_are = ap (λ l. ns ++ l) (sym none) ∙ a.nodes_are;
        flows_are = sym (append_assoc fs (flow ∷ []) a.flows) ∙ a.flows_are;
        ordered = λ some. refl;
        lines = (λ i. here i ∷ a.lines i) ∙ (λ i. map (joined 32) (flow_words (length fs + 1) flow ∷ (node_lines (length ns + 1) (none i) ++ flow_lines (length_push fs flow i + 1) a.flows)));
      }

pub lines-added : (line : ℕ) (s : Sofar) (ls : List (List ℕ)) (t : Sofar) → later_lines line s ls ≡ Ok t → Added s ls t
lines-added line s [] t e =
    let same = ok_same s t e in
    record { nodes = []; flows = []; nodes_are = append-nil s.0 ∙ ap (λ x. x.0) same; flows_are = append-nil s.1 ∙ ap (λ x. x.1) same; ordered = λ some. refl; lines = refl }
lines-added line s (l ∷ ls) t e =
    let p = and-then-ok (later_line line s (words_of l)) (λ t. later_lines (line + 1) t ls) t e in
    let more = lines-added (line + 1) p.0 ls t p.2 in
    ⊎_elim
    (λ (n : NodeStep s l p.0). node-first s.0 s.1 l ls t n.kind n.none n.line (subst (λ x. Added x ls t) (sym n.after) more))
    (λ (f : FlowStep s l p.0). flow-first s.0 s.1 l ls t f.flow f.line (subst (λ x. Added x ls t) (sym f.after) more))
    (line_step line s l p.0 p.1)

-- ---- each process on the way is well formed

abbrev process_from : ℕ → Sofar → Process
process_from number s = record { number = number; nodes = s.0; flows = s.1 }

step-formed : (number : ℕ) (s : Sofar) (l : List ℕ) (t : Sofar) → Formed (process_from number s) → Step s l t → Formed (process_from number t)
step-formed number s l t h =
    ⊎_elim
    (λ (n : NodeStep s l t). subst (λ x. Formed (process_from number x)) n.after
    (record { numbers = formed-node number s.0 s.1 h.numbers n.kind n.range; few_nodes = omega (arith, length_push s.0 n.kind); few_flows = h.few_flows }))
    (λ (f : FlowStep s l t). subst (λ x. Formed (process_from number x)) f.after
    (record { numbers = formed-flow number s.0 s.1 h.numbers f.flow f.formed; few_nodes = h.few_nodes; few_flows = omega (arith, length_push s.1 f.flow) }))

pub lines-formed : (number line : ℕ) (s : Sofar) (ls : List (List ℕ)) (t : Sofar) → Formed (process_from number s) → later_lines line s ls ≡ Ok t → Formed (process_from number t)
lines-formed number line s [] t h e = subst (λ x. Formed (process_from number x)) (ok_same s t e) h
lines-formed number line s (l ∷ ls) t h e =
    let p = and-then-ok (later_line line s (words_of l)) (λ t. later_lines (line + 1) t ls) t e in
    lines-formed number (line + 1) p.0 ls t (step-formed number s l p.0 h (line_step line s l p.0 p.1)) p.2
