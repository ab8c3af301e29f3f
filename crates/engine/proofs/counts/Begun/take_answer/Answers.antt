use Rattle.std.proofs.Common.{sym, ◌∙◌, arith}
use Rattle.model.specs.Models.{draft_of}
use Rattle.paths.specs.Routings.{model_of}
use Rattle.engine.specs.Counts.{routing_of}
use Rattle.engine.proofs.Tasks.{task-figure}
use Rattle.engine.proofs.counts.Begun.take_answer.Goals as goal

pub overflow_sub-from : goal.overflow_sub-from
overflow_sub-from g c =
    let f = task-figure (draft_of (model_of (routing_of c.args.self.now))) c.args.node c.in-Task.figure (sym c.kind.ensures ∙ c.in-Task.is) in
    omega (arith, f.0, c.from-in-Task.ensures)

pub bounds-self-from : goal.bounds-self-from
bounds-self-from g c =
    let f = task-figure (draft_of (model_of (routing_of c.args.self.now))) c.args.node c.in-Task.figure (sym c.kind.ensures ∙ c.in-Task.is) in
    omega (arith, f.0, f.1, c.from-in-Task.ensures)
