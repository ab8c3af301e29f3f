-- What a draft holds.
use Rattle.std.specs.Prelude.{◌≡◌, ℕ, ◌+◌, cond, not, List, Ok, Err, Result, ◌==◌, nat_le}
use Rattle.fault.specs.declared.line.LineFault.{LineFault}
use Rattle.fault.specs.declared.line.LineFault.TheVariants.{Sequence, TooMany}
use Rattle.process.specs.declared.draft.Draft.{Draft}
use Rattle.process.specs.declared.flow.Flow.{Flow}
use Rattle.process.specs.declared.flow.Guard.{Guard}
use Rattle.process.specs.declared.node.Kind.{Kind}
use Rattle.process.specs.Processes.{node_added, flow_added}
use Rattle.process.specs.Rows.{items}

abbrev pub number_of : Draft → ℕ
number_of d = d.number

abbrev pub nodes_of : Draft → List Kind
nodes_of d = items d.nodes

abbrev pub flows_of : Draft → List Flow
flows_of d = items d.flows

-- one more item, with number n, of a list of `count` items that has room for `most`: the one too many comes first, then a number that is not the next
abbrev pub next_check : ℕ → ℕ → ℕ → ℕ → Result (Unit {0}) LineFault
next_check most count line n = cond (nat_le most count) (Err (TooMany line)) (cond (not (n == count + 1)) (Err (Sequence line)) (Ok tt))

-- a node was added, or refused and nothing changed
abbrev pub NodeAdded : Draft → ℕ → ℕ → Kind → Result (Unit {0}) LineFault → Draft → Type 0
NodeAdded d line n kind (Ok u) d' = (node_added (nodes_of d) line n kind ≡ Ok (nodes_of d')) × (number_of d' ≡ number_of d) × (flows_of d' ≡ flows_of d)
NodeAdded d line n kind (Err fault) d' = (node_added (nodes_of d) line n kind ≡ Err fault) × (d' ≡ d)

-- a flow was added, or refused and nothing changed
abbrev pub FlowAdded : Draft → ℕ → ℕ → ℕ → ℕ → Guard → Result (Unit {0}) LineFault → Draft → Type 0
FlowAdded d line n a b guard (Ok u) d' = (flow_added (nodes_of d) (flows_of d) line n a b guard ≡ Ok (flows_of d')) × (number_of d' ≡ number_of d) × (nodes_of d' ≡ nodes_of d)
FlowAdded d line n a b guard (Err fault) d' = (flow_added (nodes_of d) (flows_of d) line n a b guard ≡ Err fault) × (d' ≡ d)
