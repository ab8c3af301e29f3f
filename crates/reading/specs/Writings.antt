-- How a process is written down: line by line, word by word, digit by digit. A process has one writing.
use Rattle.std.specs.Prelude.{◌≡◌, ℕ, ◌+◌, ◌≤◌, true, List, [], ◌∷◌, ◌++◌, length, decimal, ◌≢◌}
use Rattle.std.specs.Fmt.{signed_decimal}
use Rattle.process.specs.declared.flow.Flow.{Flow}
use Rattle.process.specs.declared.flow.Guard.{Guard}
use Rattle.process.specs.declared.flow.Guard.TheVariants as guards
use Rattle.process.specs.declared.node.Kind.{Kind}
use Rattle.process.specs.declared.node.Kind.TheVariants as kinds
use Rattle.process.specs.Processes.{well_formed}
use Rattle.text.specs.declared.words.Keyword.TheVariants as keywords
use Rattle.text.specs.Pieces.{joined}
use Rattle.text.specs.Words.{spelling, symbol}
use Rattle.reading.specs.Lines.{Process}

-- figure x is written `v` and its number
abbrev pub figure_word : ℕ → List ℕ
figure_word x = 118 ∷ decimal x

abbrev pub kind_words : Kind → List (List ℕ)
kind_words kinds.Start = spelling keywords.Start ∷ []
kind_words kinds.End = spelling keywords.End ∷ []
kind_words (kinds.Task x) = spelling keywords.Task ∷ figure_word x ∷ []
kind_words kinds.Exclusive = spelling keywords.Xor ∷ []
kind_words kinds.Parallel = spelling keywords.And ∷ []
kind_words kinds.Inclusive = spelling keywords.Or ∷ []

abbrev pub guard_words : Guard → List (List ℕ)
guard_words guards.Plain = []
guard_words guards.Default = spelling keywords.Default ∷ []
guard_words (guards.If c) = spelling keywords.If ∷ figure_word c.figure ∷ symbol c.operator ∷ signed_decimal c.value ∷ []

-- the words of a line
abbrev pub process_words : ℕ → List (List ℕ)
process_words n = spelling keywords.Process ∷ decimal n ∷ []

abbrev pub node_words : ℕ → Kind → List (List ℕ)
node_words n kind = spelling keywords.Node ∷ decimal n ∷ kind_words kind

abbrev pub flow_words : ℕ → Flow → List (List ℕ)
flow_words n f = spelling keywords.Flow ∷ decimal n ∷ decimal f.from ∷ decimal f.to ∷ guard_words f.guard

-- nodes and flows are numbered in line order
abbrev pub node_lines : ℕ → List Kind → List (List (List ℕ))
node_lines n [] = []
node_lines n (k ∷ ks) = node_words n k ∷ node_lines (n + 1) ks

abbrev pub flow_lines : ℕ → List Flow → List (List (List ℕ))
flow_lines n [] = []
flow_lines n (f ∷ fs) = flow_words n f ∷ flow_lines (n + 1) fs

-- one `process`, then the nodes, then the flows
abbrev pub process_lines : Process → List (List (List ℕ))
process_lines p = process_words p.number ∷ (node_lines 1 p.nodes ++ flow_lines 1 p.flows)

-- a line is its words with one space between neighbours, and a line feed
abbrev pub text_of : List (List (List ℕ)) → List ℕ
text_of [] = []
text_of (ws ∷ ls) = joined 32 ws ++ (10 ∷ text_of ls)

unfoldable pub written : Process → List ℕ
written p = text_of (process_lines p)

-- each number lies in its range, each flow joins nodes that are there, and there are at most 40 nodes and 64 flows
pub record Formed (p : Process) : Type 0 where
  pub numbers : well_formed p.number p.nodes p.flows ≡ true
  pub few_nodes : length p.nodes ≤ 40
  pub few_flows : length p.flows ≤ 64

-- the text is the writing of x, which is well formed, and of no other
pub record DescribesAs {X : Type 0} (write : X → List ℕ) (Well : X → Type 0) (text : List ℕ) (x : X) : Type 0 where
  pub writing : text ≡ write x
  pub formed : Well x
  pub only : (y : X) → Well y → text ≡ write y → y ≡ x

-- the text is the writing of nothing that is well formed
abbrev pub DescribesNone : {X : Type 0} → (X → List ℕ) → (X → Type 0) → List ℕ → Type 0
DescribesNone {X} write Well text = (x : X) → Well x → text ≢ write x

-- the text is the writing of p and of no other process
abbrev pub Describes : List ℕ → Process → Type 0
Describes text p = DescribesAs written Formed text p

-- the text is the writing of no process
abbrev pub DescribesNothing : List ℕ → Type 0
DescribesNothing text = DescribesNone written Formed text
