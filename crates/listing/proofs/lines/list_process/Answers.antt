use Rattle.std.proofs.Common.{rules}
use Rattle.listing.specs.Lines.{process_line}
use Rattle.listing.proofs.Pieces.{line-listed}
use Rattle.listing.proofs.lines.list_process.Goals as goal

pub returns : goal.returns
returns c = line-listed c.args.out.now (process_line c.args.number) _ c.args.place _ (search rules) c.write_process.ensures.wrote c.write_process.ensures.most
