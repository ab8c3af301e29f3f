use Rattle.paths.specs.Routings.{model_of}
use Rattle.paths.proofs.Nodes.{flows-few}
use Rattle.marking.specs.Markings.{routing_of, tokens_of, nodes_of, flows_of}
use Rattle.marking.proofs.Taking.{takes_all, takes-lowest, takes_none}
use Rattle.marking.proofs.marking.Marking.takes.Goals as goal

pub returns-in-Some : goal.returns-in-Some
returns-in-Some c =
    let m = c.args.self.now in
    let n = c.args.node in
    let both = c.intersection-coming_in in
    takes-lowest (nodes_of m) (flows_of m) (flows-few (model_of (routing_of m))) (tokens_of m) n c.kind.result c.kind.ensures c.inbound.result both.result c.inbound.ensures both.ensures
    c.in-Exclusive.is c.in-Some.lowest c.single.result c.in-Some.ensures c.single.ensures

pub returns-in-None : goal.returns-in-None
returns-in-None c =
    let m = c.args.self.now in
    let n = c.args.node in
    let both = c.intersection-coming_in in
    takes_none (nodes_of m) (flows_of m) (flows-few (model_of (routing_of m))) (tokens_of m) n c.kind.result c.kind.ensures c.inbound.result both.result c.inbound.ensures both.ensures
    c.in-Exclusive.is c.in-None.ensures

pub returns-in-Start : goal.returns-in-Start
returns-in-Start c =
    let m = c.args.self.now in
    let n = c.args.node in
    let both = c.intersection-coming_in in
    takes_all (nodes_of m) (flows_of m) (flows-few (model_of (routing_of m))) (tokens_of m) n c.kind.result c.kind.ensures c.inbound.result both.result c.inbound.ensures both.ensures
    c.in-Start.is
