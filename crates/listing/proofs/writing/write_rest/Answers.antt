use Rattle.std.proofs.Common.{◌+◌, ◌∷◌, length, take, get_or, decimal, sym, ap, arith, length-append}
use Rattle.std.proofs.lemmas.List.{take_all}
use Rattle.listing.specs.Lines.{after_commas}
use Rattle.listing.proofs.Lists.{after_more, after-part}
use Rattle.listing.proofs.Pieces.{then, same_text, wrote_nothing}
use Rattle.listing.proofs.writing.write_rest.Goals as goal

pub loop-flow-init : goal.loop-flow-init
loop-flow-init c = wrote_nothing _ _ (omega arith)

pub write_after_comma-end-requires : goal.write_after_comma-end-requires
write_after_comma-end-requires c =
    let flows = c.args.flows.now in
    let i = c.loop-flow.flow-index in
    let more = ap length (after_more flows i c.loop-flow-test.true) in
    let part = after-part flows (i + 1) in
    omega (arith, c.loop-flow.invariant.ends, length-append (after_commas (take i flows)) (44 ∷ decimal (get_or flows i 0)))

pub loop-flow-preserved : goal.loop-flow-preserved
loop-flow-preserved c =
    same_text (sym (after_more c.args.flows.now c.loop-flow.flow-index c.loop-flow-test.true)) (then c.loop-flow.invariant c.write_after_comma-end.ensures)

pub returns : goal.returns
returns c = same_text (ap after_commas (take_all c.loop-flow.flow-index c.args.flows.now c.loop-flow-test.false)) c.loop-flow.invariant
