-- What a marking holds.
use Rattle.std.specs.Prelude.{List}
use Rattle.process.specs.declared.flow.Flow.{Flow}
use Rattle.process.specs.declared.node.Kind.{Kind}
use Rattle.process.specs.declared.sets.FlowSet.{FlowSet}
use Rattle.model.specs.Models as models
use Rattle.paths.specs.declared.routing.Routing.{Routing}
use Rattle.paths.specs.Routings as routings
use Rattle.marking.specs.declared.marking.Marking.{Marking}

abbrev pub routing_of : Marking → Routing
routing_of m = m.routing.now

abbrev pub tokens_of : Marking → FlowSet
tokens_of m = m.tokens

abbrev pub nodes_of : Marking → List Kind
nodes_of m = models.nodes_of (routings.model_of (routing_of m))

abbrev pub flows_of : Marking → List Flow
flows_of m = routings.flows_of (routing_of m)
