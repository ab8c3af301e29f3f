-- The rules of a sound model that speak of one node or one flow at a time. Node n and flow n stand at place n - 1.
use Rattle.std.specs.Prelude.{ℕ, zero, suc, ◌+◌, ◌-◌, Bool, true, false, cond, not, ◌&&◌, ◌||◌, List, [], ◌∷◌, length, take, Ok, Err, Result, ◌==◌, nat_eq, nat_le, slice_index_or}
use Rattle.fault.specs.declared.model.ModelFault.{ModelFault}
use Rattle.fault.specs.declared.model.ModelFault.TheVariants.{StartsAndEnds, FlowCount, SelfLoop, Guard, SecondDefault}
use Rattle.process.specs.declared.flow.Flow.{Flow}
use Rattle.process.specs.declared.flow.Guard as the-guard
use Rattle.process.specs.declared.flow.Guard.TheVariants as guards
use Rattle.process.specs.declared.node.Kind.{Kind}
use Rattle.process.specs.declared.node.Kind.TheVariants as kinds

abbrev pub kind_at : List Kind → ℕ → Kind
kind_at nodes zero = kinds.Start
kind_at nodes (suc k) = slice_index_or nodes k kinds.Start

abbrev pub no_flow : Flow
no_flow = record { from = 0; to = 0; guard = guards.Plain }

abbrev pub flow_at : List Flow → ℕ → Flow
flow_at flows zero = no_flow
flow_at flows (suc k) = slice_index_or flows k no_flow

-- how many of a list pass a test
abbrev pub how_many : {X : Type 0} → (X → Bool) → List X → ℕ
how_many test [] = 0
how_many test (x ∷ xs) = cond (test x) 1 0 + how_many test xs

abbrev pub is_start : Kind → Bool
is_start kinds.Start = true
is_start kinds.End = false
is_start (kinds.Task x) = false
is_start kinds.Exclusive = false
is_start kinds.Parallel = false
is_start kinds.Inclusive = false

abbrev pub is_end : Kind → Bool
is_end kinds.Start = false
is_end kinds.End = true
is_end (kinds.Task x) = false
is_end kinds.Exclusive = false
is_end kinds.Parallel = false
is_end kinds.Inclusive = false

-- how many flows enter node n, and how many leave it
abbrev pub inbound : List Flow → ℕ → ℕ
inbound flows n = how_many (λ f. nat_eq f.to n) flows

abbrev pub outgoing : List Flow → ℕ → ℕ
outgoing flows n = how_many (λ f. nat_eq f.from n) flows

-- The start has one outgoing flow and none inbound, an end the reverse, a task one of each, a gateway at least one of each.
abbrev pub count_right : Kind → ℕ → ℕ → Bool
count_right kinds.Start i o = i == 0 && o == 1
count_right kinds.End i o = i == 1 && o == 0
count_right (kinds.Task x) i o = i == 1 && o == 1
count_right kinds.Exclusive i o = nat_le 1 i && nat_le 1 o
count_right kinds.Parallel i o = nat_le 1 i && nat_le 1 o
count_right kinds.Inclusive i o = nat_le 1 i && nat_le 1 o

-- An exclusive or inclusive gateway with two or more outgoing flows chooses among them.
abbrev pub chooses : Kind → ℕ → Bool
chooses kinds.Start o = false
chooses kinds.End o = false
chooses (kinds.Task x) o = false
chooses kinds.Exclusive o = nat_le 2 o
chooses kinds.Parallel o = false
chooses kinds.Inclusive o = nat_le 2 o

-- A flow that is chosen has a condition or is the default; every other flow has neither.
abbrev pub guard_right : Bool → the-guard.Guard → Bool
guard_right chosen guards.Plain = not chosen
guard_right chosen guards.Default = chosen
guard_right chosen (guards.If c) = chosen

abbrev pub is_default : the-guard.Guard → Bool
is_default guards.Plain = false
is_default guards.Default = true
is_default (guards.If c) = false

-- the rules for node n and for flow n
abbrev pub count_rule : List Kind → List Flow → ℕ → Bool
count_rule nodes flows n = count_right (kind_at nodes n) (inbound flows n) (outgoing flows n)

-- no flow leads from a node to itself
abbrev pub loop_rule : List Flow → ℕ → Bool
loop_rule flows n = not ((flow_at flows n).from == (flow_at flows n).to)

abbrev pub guard_rule : List Kind → List Flow → ℕ → Bool
guard_rule nodes flows n = guard_right (chooses (kind_at nodes (flow_at flows n).from) (outgoing flows (flow_at flows n).from)) (flow_at flows n).guard

-- no lower flow from the same node is a default too
abbrev pub default_rule : List Flow → ℕ → Bool
default_rule flows n = not (is_default (flow_at flows n).guard) || how_many (λ f. (f.from == (flow_at flows n).from) && is_default f.guard) (take (n - 1) flows) == 0

-- the lowest of the numbers 1 to n that breaks the rule, as a fault
abbrev pub next_checked : (ℕ → Bool) → (ℕ → ModelFault) → ℕ → Result (Unit {0}) ModelFault → Result (Unit {0}) ModelFault
next_checked rule fault n (Ok u) = cond (rule n) (Ok tt) (Err (fault n))
next_checked rule fault n (Err f) = Err f

abbrev pub checked : (ℕ → Bool) → (ℕ → ModelFault) → ℕ → Result (Unit {0}) ModelFault
checked rule fault zero = Ok tt
checked rule fault (suc n) = next_checked rule fault (suc n) (checked rule fault n)

-- there is exactly one start and at least one end
abbrev pub ends_right : List Kind → Bool
ends_right nodes = how_many is_start nodes == 1 && nat_le 1 (how_many is_end nodes)

-- one check after another: the first fault counts
abbrev pub then : Result (Unit {0}) ModelFault → Result (Unit {0}) ModelFault → Result (Unit {0}) ModelFault
then (Ok u) later = later
then (Err f) later = Err f

-- each rule over the whole process, in this order
abbrev pub rules_check : List Kind → List Flow → Result (Unit {0}) ModelFault
rules_check nodes flows =
    then (cond (ends_right nodes) (Ok tt) (Err StartsAndEnds))
    (then (checked (count_rule nodes flows) FlowCount (length nodes))
    (then (checked (loop_rule flows) SelfLoop (length flows))
    (then (checked (guard_rule nodes flows) Guard (length flows))
    (checked (default_rule flows) SecondDefault (length flows)))))
