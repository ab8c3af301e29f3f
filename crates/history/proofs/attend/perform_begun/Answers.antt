use Rattle.history.specs.Histories.{Performed}
use Rattle.history.proofs.Performs.{as_call, rest-begun}
use Rattle.history.proofs.attend.perform_begun.Goals as goal

pub returns-in-Step : goal.returns-in-Step
returns-in-Step g c = as_call c.in-Step.is (Performed.steps c.step.ensures)

pub returns-in-Run : goal.returns-in-Run
returns-in-Run g c = as_call c.in-Run.is (Performed.runs c.run.ensures)

pub returns-in-Figure : goal.returns-in-Figure
returns-in-Figure g c = as_call c.in-Figure.is (Performed.tells_figure c.figure.ensures)

pub returns-in-Ready : goal.returns-in-Ready
returns-in-Ready g c = as_call c.in-Ready.is (Performed.tells_ready c.ready.ensures)

pub returns-in-Holding : goal.returns-in-Holding
returns-in-Holding g c = as_call c.in-Holding.is (Performed.tells_holding c.holding.ensures)

pub returns-in-Why : goal.returns-in-Why
returns-in-Why g c = as_call c.in-Why.is (Performed.tells_why c.why-reason.ensures)

pub returns-in_default : goal.returns-in_default
returns-in_default g c = Performed.passes_over (rest-begun c.args.count.now c.args.call c.in_default.not-Step c.in_default.not-Run c.in_default.not-Figure c.in_default.not-Ready c.in_default.not-Holding c.in_default.not-Why)
