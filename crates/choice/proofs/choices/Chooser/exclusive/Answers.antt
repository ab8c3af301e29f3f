use Rattle.process.proofs.Ordered.{next-some, next-none}
use Rattle.choice.specs.Choices.{FirstOpen}
use Rattle.choice.proofs.Choosing.{none_open, exclusive-first, fallback}
use Rattle.choice.proofs.choices.Chooser.exclusive.Goals as goal

pub returns-in-Some : goal.returns-in-Some
returns-in-Some c =
    let held = c.open.result in
    let first = c.in-Some.first in
    exclusive-first c.args.self.now.flows.now c.args.self.now.figures.now c.args.self.now.node held c.open.ensures first c.single.result (next-some held 0 first c.in-Some.ensures) c.single.ensures

pub returns-in-None : goal.returns-in-None
returns-in-None c =
    let flows = c.args.self.now.flows.now in
    let figures = c.args.self.now.figures.now in
    let node = c.args.self.now.node in
    let held = c.open.result in
    fallback (FirstOpen flows figures node) flows figures node c.default.result (λ f p. p.0)
    (none_open flows figures node held c.open.ensures c.args.self.now.few (next-none held 0 c.in-None.ensures)) c.default.ensures
