use Rattle.std.proofs.Common.{sym, subst}
use Rattle.paths.specs.Paths.{HoldingNumber}
use Rattle.paths.specs.Routings.{model_of, flows_of}
use Rattle.paths.proofs.Holding.{number-held}
use Rattle.paths.proofs.Nodes.{flows-few}
use Rattle.paths.proofs.rule.holding_number.Goals as goal

pub returns : goal.returns
returns c =
    let r = c.args.routing.now in
    subst (HoldingNumber (flows_of r) c.args.tokens c.args.gateway) (sym c.len.ensures)
    (number-held (flows_of r) (flows-few (model_of r)) c.args.tokens c.args.gateway c.holders.result c.holders.ensures)
