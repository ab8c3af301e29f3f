use Rattle.std.proofs.Common.{rules}
use Rattle.listing.specs.Lines.{refusal_line}
use Rattle.listing.proofs.Pieces.{line-listed}
use Rattle.listing.proofs.lines.list_refusal.Goals as goal

pub returns : goal.returns
returns c = line-listed c.args.out.now (refusal_line c.args.fault) _ c.args.place _ (search rules) c.write_refusal.ensures.wrote c.write_refusal.ensures.most
