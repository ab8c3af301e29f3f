use Rattle.std.proofs.Common.{rules}
use Rattle.listing.specs.Lines.{gateway_line}
use Rattle.listing.proofs.Pieces.{line-listed}
use Rattle.listing.proofs.lines.list_gateway.Goals as goal

pub returns : goal.returns
returns c = line-listed c.args.out.now (gateway_line c.args.gateway c.args.reason c.args.list.now) _ c.args.place _ (search rules) c.write_gateway.ensures.wrote c.write_gateway.ensures.most
