use Rattle.std.proofs.Common.{rules}
use Rattle.listing.specs.Lines.{stop_line}
use Rattle.listing.proofs.Pieces.{line-listed}
use Rattle.listing.proofs.lines.list_stop.Goals as goal

pub returns : goal.returns
returns c = line-listed c.args.out.now (stop_line c.args.stop c.args.steps) _ c.args.place _ (search rules) c.write_stop.ensures.wrote c.write_stop.ensures.most
