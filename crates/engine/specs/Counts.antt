-- What a count holds.
use Rattle.std.specs.Prelude.{ℕ, Bool, List, ℤ}
use Rattle.process.specs.declared.flow.Flow.{Flow}
use Rattle.process.specs.declared.node.Kind.{Kind}
use Rattle.process.specs.declared.sets.FlowSet.{FlowSet}
use Rattle.process.specs.Processes.{is_node}
use Rattle.model.specs.Models as models
use Rattle.model.specs.Rules.{kind_at}
use Rattle.paths.specs.declared.routing.Routing.{Routing}
use Rattle.paths.specs.Routings as routings
use Rattle.marking.specs.Markings as markings
use Rattle.marking.specs.Nodes.{Ready}
use Rattle.engine.specs.declared.counts.SetUp.{SetUp}
use Rattle.engine.specs.declared.counts.Begun.{Begun}

-- the model of a count that is set up
abbrev pub model_of : SetUp → Routing
model_of s = s.routing.now

-- the model of a begun count, its nodes and flows
abbrev pub routing_of : Begun → Routing
routing_of b = markings.routing_of b.marking

abbrev pub nodes_in : Routing → List Kind
nodes_in r = models.nodes_of (routings.model_of r)

abbrev pub flows_in : Routing → List Flow
flows_in r = routings.flows_of r

abbrev pub nodes_of : Begun → List Kind
nodes_of b = nodes_in (routing_of b)

abbrev pub flows_of : Begun → List Flow
flows_of b = flows_in (routing_of b)

abbrev pub tokens_of : Begun → FlowSet
tokens_of b = markings.tokens_of b.marking

abbrev pub figures_of : Begun → List ℤ
figures_of b = b.figures

-- the model has a node n
abbrev pub has_node : Begun → ℕ → Bool
has_node b n = is_node (nodes_of b) n

abbrev pub kind_of : Begun → ℕ → Kind
kind_of b n = kind_at (nodes_of b) n

-- node n is ready
abbrev pub IsReady : Begun → ℕ → Type 0
IsReady b n = Ready (nodes_of b) (flows_of b) (tokens_of b) n
