-- What a model holds.
use Rattle.std.specs.Prelude.{ℕ, List, [], ◌∷◌}
use Rattle.process.specs.declared.draft.Draft.{Draft}
use Rattle.process.specs.declared.flow.Flow.{Flow}
use Rattle.process.specs.declared.flow.Guard.TheVariants.{Plain}
use Rattle.process.specs.declared.node.Kind.{Kind}
use Rattle.process.specs.declared.node.Kind.TheVariants.{Start, End}
use Rattle.process.specs.Drafts as drafts
use Rattle.model.specs.declared.model.Model.{Model}

abbrev pub draft_of : Model → Draft
draft_of m = m.process

abbrev pub number_of : Model → ℕ
number_of m = drafts.number_of (draft_of m)

abbrev pub nodes_of : Model → List Kind
nodes_of m = drafts.nodes_of (draft_of m)

abbrev pub flows_of : Model → List Flow
flows_of m = drafts.flows_of (draft_of m)

-- a new place holds process 1: a start, an end, and a flow from the one to the other
abbrev pub first_nodes : List Kind
first_nodes = Start ∷ End ∷ []

abbrev pub first_flows : List Flow
first_flows = record { from = 1; to = 2; guard = Plain } ∷ []
