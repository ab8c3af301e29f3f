use Rattle.std.proofs.Common.{ap, ◌∙◌, subst}
use Rattle.process.specs.Left.{left}
use Rattle.process.specs.Sets.{joined}
use Rattle.paths.specs.Routings.{sources_of}
use Rattle.paths.proofs.Holding.{Joining, joining-start, joining-more, joining-all}
use Rattle.paths.proofs.routing.Routing.leading_to.Goals as goal

pub loop-end-init : goal.loop-end-init
loop-end-init c =
    joining-start (sources_of c.args.self.now) c.args.ends c.empty-found.result c.empty-found.ensures (left c.into_iter-end-iterator.result)
    (ap left c.into_iter-end-iterator.ensures.into_iter_gives ∙ c.iter-end-items.ensures)

pub loop-end-preserved : goal.loop-end-preserved
loop-end-preserved c =
    joining-more (sources_of c.args.self.now) c.args.ends c.loop-end.found c.union-found.result c.in-Some.end (left c.next.new.self)
    (c.union-found.ensures ∙ ap (joined c.loop-end.found) c.row.ensures)
    (subst (Joining (sources_of c.args.self.now) c.args.ends c.loop-end.found) c.in-Some.ensures.steps c.loop-end.invariant)

pub returns : goal.returns
returns c = joining-all (sources_of c.args.self.now) c.args.ends c.loop-end.found (left c.loop-end.end-iterator) c.in-None.ensures.steps.0 c.loop-end.invariant
