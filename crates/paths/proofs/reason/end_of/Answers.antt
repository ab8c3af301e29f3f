use Rattle.process.proofs.Ordered.{next-some, next-none}
use Rattle.paths.specs.Routings.{model_of, flows_of, sources_of}
use Rattle.paths.proofs.Known.{tables-right}
use Rattle.paths.proofs.Nodes.{flows-few}
use Rattle.paths.proofs.Reasons.{some_end, lowest_end}
use Rattle.paths.proofs.reason.end_of.Goals as goal

pub unreachable-requires : goal.unreachable-requires
unreachable-requires c =
    let r = c.args.routing.now in
    some_end (flows_of r) (flows-few (model_of r)) (sources_of r) (tables-right r).reach c.args.tokens c.inbound.result c.args.gateway c.inbound.ensures
    c.difference-empty.result c.reached_from.result c.args.holder c.difference-empty.ensures c.reached_from.ensures
    c.requires (next-none c.reached_from.result 0 c.in_default.ensures)

pub returns : goal.returns
returns c =
    let r = c.args.routing.now in
    lowest_end (flows_of r) (flows-few (model_of r)) (sources_of r) (tables-right r).reach c.args.tokens c.inbound.result c.args.gateway c.inbound.ensures
    c.difference-empty.result c.reached_from.result c.args.holder c.difference-empty.ensures c.reached_from.ensures
    c.in-Some.end (next-some c.reached_from.result 0 c.in-Some.end c.in-Some.ensures)
