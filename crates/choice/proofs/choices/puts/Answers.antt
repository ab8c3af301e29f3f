use Rattle.std.proofs.Common.{◌<◌, sym, ap, ◌∙◌, arith}
use Rattle.std.proofs.lemmas.Bool.{le-leb}
use Rattle.process.specs.declared.node.Kind.TheVariants.{Exclusive, Inclusive}
use Rattle.model.specs.declared.model.Model.{Model}
use Rattle.model.specs.Models as models
use Rattle.model.specs.Rules.{kind_at, outgoing}
use Rattle.paths.specs.Routings.{model_of, flows_of}
use Rattle.choice.specs.Choices.{SomeWay}
use Rattle.choice.proofs.Choosing.{few-not-choosing, Choice, way-of-all, choice-made, way-of-choice, no_way}
use Rattle.choice.proofs.Counted.{outgoing-are}
use Rattle.choice.proofs.choices.puts.Goals as goal
use Rattle.choice.proofs.choices.puts.Goals.{After-flows-flows, Joined-kind, in-Exclusive, in-Inclusive}

-- with fewer than two outgoing flows, all of them get a token
all-of-few : (c : goal.After-flows-flows) → c.len-outgoing_count.result < 2
    → SomeWay (models.nodes_of (model_of c.args.routing.now)) (flows_of c.args.routing.now) c.args.figures.now c.args.node c.outgoing-outgoing.result
all-of-few c few =
    let r = c.args.routing.now in
    let n = c.args.node in
    let nodes = models.nodes_of (model_of r) in
    let count = outgoing-are r n c.len-outgoing_count.result c.outgoing-outgoing.result c.outgoing-outgoing.ensures c.len-outgoing_count.ensures in
    way-of-all nodes (flows_of r) c.args.figures.now n c.outgoing-outgoing.result
    (few-not-choosing (kind_at nodes n) (outgoing (flows_of r) n) (omega (arith, count))) c.outgoing-outgoing.ensures

-- where the gateway chooses, the set has what it chooses
choice-of : (c : goal.Joined-kind) → Choice (models.nodes_of (model_of c.args.routing.now)) (flows_of c.args.routing.now) c.args.figures.now c.args.node c.match-kind.chosen
choice-of c =
    let r = c.args.routing.now in
    let n = c.args.node in
    let same-flows = c.flows-flows.ensures.value ∙ ap models.flows_of c.model-model.ensures in
    let same_kind = ap (λ (m : Model). kind_at (models.nodes_of m) n) c.model-model.ensures in
    let count = outgoing-are r n c.len-outgoing_count.result c.outgoing-outgoing.result c.outgoing-outgoing.ensures c.len-outgoing_count.ensures in
    let made = choice-made (models.nodes_of (model_of r)) (flows_of r) c.args.figures.now n in
    elim c.match-kind.branch [
      | in-Exclusive w ↦
          made Exclusive c.flows-flows.result.now w.exclusive-chosen.result c.match-kind.chosen (w.in-Exclusive.ensures ∙ same_kind)
          (le-leb 2 (outgoing (flows_of r) n) (omega (arith, count, w.if-outgoing_count-ge2.true))) same-flows w.chosen-is w.exclusive-chosen.ensures
      | in-Inclusive w ↦
          made Inclusive c.flows-flows.result.now w.inclusive-chosen.result c.match-kind.chosen (w.in-Inclusive.ensures ∙ same_kind)
          (le-leb 2 (outgoing (flows_of r) n) (omega (arith, count, w.if-outgoing_count-ge2-2.true))) same-flows w.chosen-is w.inclusive-chosen.ensures
    ]

pub returns-in_default : goal.returns-in_default
returns-in_default c = all-of-few (goal.at.returns-in_default c).After-flows-flows c.if-outgoing_count-ge2.false

pub returns-in_default-2 : goal.returns-in_default-2
returns-in_default-2 c = all-of-few (goal.at.returns-in_default-2 c).After-flows-flows c.if-outgoing_count-ge2-2.false

pub returns-then-is_empty : goal.returns-then-is_empty
returns-then-is_empty c =
    let r = c.args.routing.now in
    no_way (models.nodes_of (model_of r)) (flows_of r) c.args.figures.now c.args.node c.match-kind.chosen (choice-of (goal.at.returns-then-is_empty c).Joined-kind)
    (sym c.is_empty.ensures ∙ c.if-is_empty.true)

pub returns : goal.returns
returns c =
    let r = c.args.routing.now in
    way-of-choice (models.nodes_of (model_of r)) (flows_of r) c.args.figures.now c.args.node c.match-kind.chosen (choice-of (goal.at.returns c).Joined-kind)
    (sym c.is_empty.ensures ∙ c.if-is_empty.false)
