use Rattle.std.proofs.Common.{rules}
use Rattle.listing.specs.Lines.{step_line}
use Rattle.listing.proofs.Pieces.{line-listed}
use Rattle.listing.proofs.lines.list_step.Goals as goal

pub returns : goal.returns
returns c = line-listed c.args.out.now (step_line c.args.step c.args.line c.args.is_task) _ c.args.place _ (search rules) c.write_step.ensures.wrote c.write_step.ensures.most
