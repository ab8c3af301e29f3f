-- The numbers in a process, and what one more node or flow makes of it.
use Rattle.std.specs.Prelude.{ℕ, ◌+◌, Bool, true, cond, not, ◌&&◌, List, [], ◌∷◌, ◌++◌, length, ℤ, pos, negsuc, Ok, Err, Result, ◌==◌, int_le, nat_le}
use Rattle.fault.specs.declared.line.LineFault.{LineFault}
use Rattle.fault.specs.declared.line.LineFault.TheVariants.{Number, Sequence, TooMany, MissingNode}
use Rattle.process.specs.declared.flow.Flow.{Flow}
use Rattle.process.specs.declared.flow.Guard.{Guard}
use Rattle.process.specs.declared.flow.Guard.TheVariants as guards
use Rattle.process.specs.declared.node.Kind.{Kind}
use Rattle.process.specs.declared.node.Kind.TheVariants as kinds

-- a process, a node and a flow have a number from 1 to 65,535
abbrev pub is_number : ℕ → Bool
is_number n = nat_le 1 n && nat_le n 65535

-- a process has at most 40 nodes, numbered from 1
abbrev pub is_node_number : ℕ → Bool
is_node_number n = nat_le 1 n && nat_le n 40

-- figures are numbered from 1 to 16
abbrev pub is_figure : ℕ → Bool
is_figure x = nat_le 1 x && nat_le x 16

-- the value of a figure lies from -1,000,000,000 to 1,000,000,000
abbrev pub is_value : ℤ → Bool
is_value c = int_le (negsuc 999999999) c && int_le c (pos 1000000000)

abbrev pub kind_in_range : Kind → Bool
kind_in_range kinds.Start = true
kind_in_range kinds.End = true
kind_in_range (kinds.Task x) = is_figure x
kind_in_range kinds.Exclusive = true
kind_in_range kinds.Parallel = true
kind_in_range kinds.Inclusive = true

abbrev pub guard_in_range : Guard → Bool
guard_in_range guards.Plain = true
guard_in_range guards.Default = true
guard_in_range (guards.If c) = is_figure c.figure && is_value c.value

-- nodes are numbered from 1
abbrev pub is_node : List Kind → ℕ → Bool
is_node nodes n = nat_le 1 n && nat_le n (length nodes)

-- the flow joins nodes that are there, and its numbers lie in their ranges
abbrev pub flow_formed : List Kind → Flow → Bool
flow_formed nodes f = is_node nodes f.from && (is_node nodes f.to && guard_in_range f.guard)

abbrev pub kinds_in_range : List Kind → Bool
kinds_in_range [] = true
kinds_in_range (k ∷ ks) = kind_in_range k && kinds_in_range ks

abbrev pub flows_formed : List Kind → List Flow → Bool
flows_formed nodes [] = true
flows_formed nodes (f ∷ fs) = flow_formed nodes f && flows_formed nodes fs

-- each number lies in its range, and each flow joins nodes that are there
abbrev pub well_formed : ℕ → List Kind → List Flow → Bool
well_formed number nodes flows = is_number number && (kinds_in_range nodes && flows_formed nodes flows)

-- one more node, which stands in a line of the text: a number out of its range comes first, then the 41st node, then a number that is not the next
abbrev pub node_added : List Kind → ℕ → ℕ → Kind → Result (List Kind) LineFault
node_added nodes line n kind =
    cond (not (kind_in_range kind)) (Err (Number line))
    (cond (nat_le 40 (length nodes)) (Err (TooMany line))
    (cond (not (n == length nodes + 1)) (Err (Sequence line))
    (Ok (nodes ++ kind ∷ []))))

-- one more flow: the same, with the 65th flow, and last a node that is missing
abbrev pub flow_added : List Kind → List Flow → ℕ → ℕ → ℕ → ℕ → Guard → Result (List Flow) LineFault
flow_added nodes flows line n a b guard =
    cond (not (guard_in_range guard)) (Err (Number line))
    (cond (nat_le 64 (length flows)) (Err (TooMany line))
    (cond (not (n == length flows + 1)) (Err (Sequence line))
    (cond (not (is_node nodes a && is_node nodes b)) (Err (MissingNode line))
    (Ok (flows ++ record { from = a; to = b; guard = guard } ∷ [])))))
