use Rattle.std.proofs.Common.{sym, ◌∙◌}
use Rattle.choice.specs.Choices.{Open}
use Rattle.choice.proofs.Choosing.{none-open-all, inclusive-open, fallback}
use Rattle.choice.proofs.choices.Chooser.inclusive.Goals as goal

pub returns-then-is_empty : goal.returns-then-is_empty
returns-then-is_empty c =
    let flows = c.args.self.now.flows.now in
    let figures = c.args.self.now.figures.now in
    let node = c.args.self.now.node in
    fallback (Open flows figures node) flows figures node c.default.result (λ f p. p)
    (none-open-all flows figures node c.open-open.result c.open-open.ensures (sym c.is_empty.ensures ∙ c.if-is_empty.true)) c.default.ensures

pub returns : goal.returns
returns c =
    inclusive-open c.args.self.now.flows.now c.args.self.now.figures.now c.args.self.now.node c.open-open.result c.open-open.ensures (sym c.is_empty.ensures ∙ c.if-is_empty.false)
