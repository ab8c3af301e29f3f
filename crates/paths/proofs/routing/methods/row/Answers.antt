use Rattle.std.proofs.Common.{refl, ap, ◌∙◌}
use Rattle.std.specs.Option.{unwrap_or}
use Rattle.process.specs.Sets.{no_flows}
use Rattle.process.proofs.ByNumber.{looked-up}
use Rattle.paths.specs.Tables.{row}
use Rattle.paths.proofs.routing.methods.row.Goals as goal

pub returns : goal.returns
unfolding no_flows
returns c =
    looked-up c.args.table.now no_flows (row c.args.table.now) refl (λ k. refl) c.args.number _ _ _ c.from.ensures c.numbered.ensures (c.unwrap_or.ensures ∙ ap (unwrap_or c.numbered.result) c.empty.ensures)
