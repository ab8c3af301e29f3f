-- What a routing holds.
use Rattle.std.specs.Prelude.{List}
use Rattle.process.specs.declared.flow.Flow.{Flow}
use Rattle.process.specs.declared.sets.FlowSet.{FlowSet}
use Rattle.model.specs.declared.model.Model.{Model}
use Rattle.model.specs.Models as models
use Rattle.paths.specs.declared.routing.Routing.{Routing}

abbrev pub model_of : Routing → Model
model_of r = r.model

abbrev pub flows_of : Routing → List Flow
flows_of r = models.flows_of (model_of r)

abbrev pub sources_of : Routing → List FlowSet
sources_of r = r.sources
