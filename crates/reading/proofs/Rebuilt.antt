-- The lines of a writing, read back: first the nodes, then the flows.
use Rattle.std.proofs.Common.{◌≡◌, ℕ, ◌+◌, ◌≤◌, true, List, [], ◌∷◌, ◌++◌, map, length, Ok, sym, ap, ◌∙◌, append_assoc, append-nil, arith}
use Rattle.std.proofs.lemmas.List.{length_push}
use Rattle.std.proofs.lemmas.Bool.{and_parts}
use Rattle.process.specs.declared.flow.Flow.{Flow}
use Rattle.process.specs.declared.node.Kind.{Kind}
use Rattle.process.specs.Processes.{kind_in_range, flow_formed, kinds_in_range, flows_formed}
use Rattle.text.specs.Pieces.{joined}
use Rattle.text.specs.Words.{words_of, word_of}
use Rattle.reading.specs.Lines.{Sofar, later_line, later_lines}
use Rattle.reading.specs.Writings.{node_words, flow_words, node_lines, flow_lines}
use Rattle.reading.proofs.Checked.{line-words}
use Rattle.reading.proofs.Fine.{FineLine, node-fine, flow-fine}
use Rattle.reading.proofs.Rereads.{and-then-from, node-later, flow-later}

-- one line, and then the others
next-line : (line : ℕ) (s t u : Sofar) (ws : List (List ℕ)) (ls : List (List ℕ)) → FineLine ws → later_line line s (map word_of ws) ≡ Ok t → later_lines (line + 1) t ls ≡ Ok u → later_lines line s (joined 32 ws ∷ ls) ≡ Ok u
next-line line s t u ws ls fine e more = and-then-from (later_line line s (words_of (joined 32 ws))) (λ t. later_lines (line + 1) t ls) t u (ap (later_line line s) (line-words ws fine) ∙ e) more

pub flows-back : (nodes : List Kind) → length nodes ≤ 40 → (more : List Flow) (line : ℕ) (flows : List Flow) → flows_formed nodes more ≡ true → length flows + length more ≤ 64
    → later_lines line (nodes, flows) (map (joined 32) (flow_lines (length flows + 1) more)) ≡ Ok (nodes, flows ++ more)
flows-back nodes room [] line flows h few = ap (λ fs. Ok (nodes, fs)) (sym (append-nil flows))
flows-back nodes room (f ∷ more) line flows h few =
    let p = and_parts (flow_formed nodes f) (flows_formed nodes more) h in
    let push = length_push flows f in
    next-line line (nodes, flows) (nodes, flows ++ f ∷ []) (nodes, flows ++ f ∷ more) (flow_words (length flows + 1) f) (map (joined 32) (flow_lines (length flows + 1 + 1) more)) (flow-fine nodes (length flows + 1) f room (omega arith) p.0)
    (flow-later line nodes room flows f p.0 (omega arith))
    (ap (λ n. later_lines (line + 1) (nodes, flows ++ f ∷ []) (map (joined 32) (flow_lines (n + 1) more))) (sym push)
    ∙ flows-back nodes room more (line + 1) (flows ++ f ∷ []) p.1 (omega arith)
    ∙ ap (λ fs. Ok (nodes, fs)) (append_assoc flows (f ∷ []) more))

-- what follows the nodes is read as it is after them, in whichever line it stands
pub nodes-back : (more : List Kind) (line : ℕ) (nodes : List Kind) (ls : List (List (List ℕ))) (t : Sofar) → kinds_in_range more ≡ true → length nodes + length more ≤ 40
    → ((at : ℕ) → later_lines at (nodes ++ more, []) (map (joined 32) ls) ≡ Ok t)
    → later_lines line (nodes, []) (map (joined 32) (node_lines (length nodes + 1) more ++ ls)) ≡ Ok t
nodes-back [] line nodes ls t h few then = ap (λ ns. later_lines line (ns, []) (map (joined 32) ls)) (sym (append-nil nodes)) ∙ then line
nodes-back (k ∷ more) line nodes ls t h few then =
    let p = and_parts (kind_in_range k) (kinds_in_range more) h in
    let push = length_push nodes k in
    next-line line (nodes, []) (nodes ++ k ∷ [], []) t (node_words (length nodes + 1) k) (map (joined 32) (node_lines (length nodes + 1 + 1) more ++ ls)) (node-fine (length nodes + 1) k (omega arith) p.0)
    (node-later line nodes k p.0 (omega arith))
    (ap (λ n. later_lines (line + 1) (nodes ++ k ∷ [], []) (map (joined 32) (node_lines (n + 1) more ++ ls))) (sym push)
    ∙ nodes-back more (line + 1) (nodes ++ k ∷ []) ls t p.1 (omega arith)
    (λ at. ap (λ ns. later_lines at (ns, []) (map (joined 32) ls)) (append_assoc nodes (k ∷ []) more) ∙ then at))
