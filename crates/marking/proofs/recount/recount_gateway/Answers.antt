use Rattle.std.proofs.Common.{sym, subst, arith}
use Rattle.graph.specs.Ring.{entries}
use Rattle.paths.specs.Paths.{HoldingNumber}
use Rattle.paths.specs.Routings.{model_of, flows_of}
use Rattle.paths.proofs.Holding.{number-held}
use Rattle.paths.proofs.Nodes.{flows-few}
use Rattle.marking.proofs.Pairs.{count-start, count_fits, count-all}
use Rattle.marking.proofs.recount.recount_gateway.Goals as goal

pub loop-flow-init : goal.loop-flow-init
loop-flow-init c =
    let held = c.holders-held_by in
    count-start c.args.tokens held.result (λ f h. ((held.ensures f).0 h).carries) c.args.gateway (entries c.line_up.new.work) c.line_up.ensures

pub overflow_add-number : goal.overflow_add-number
overflow_add-number c =
    let most = count_fits c.holders-held_by.result c.loop-flow.number (entries c.loop-flow.work) c.loop-flow.invariant c.in-Ok.field-0-0 c.in-Ok.flow (entries c.take.new.self) c.in-Ok.ensures.cases (sym c.if-contains.ensures) in
    omega arith

pub returns : goal.returns
returns c =
    let r = c.args.routing.now in
    let held = c.holders-held_by in
    let all = count-all held.result c.loop-flow.number (entries c.loop-flow.work) c.loop-flow.invariant c.in_default.ensures.cases.1 in
    subst (HoldingNumber (flows_of r) c.args.tokens c.args.gateway) (sym all)
    (number-held (flows_of r) (flows-few (model_of r)) c.args.tokens c.args.gateway held.result held.ensures)
