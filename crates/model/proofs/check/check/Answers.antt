use Rattle.std.proofs.Common.{◌≡◌, ◌+◌, ◌<◌, false, length, Err, sym, ap, ◌∙◌, arith}
use Rattle.model.proofs.Checks.{checked-stop}
use Rattle.model.proofs.check.check.Goals as goal

pub returns-then-not-keeps : goal.returns-then-not-keeps
returns-then-not-keeps g c = λ rule broken asks tells.
    let i = c.loop-place.place in
    let inside : i < length c.args.items.now = omega (arith, c.loop-place-test.true) in
    let said : false ≡ rule (i + 1) = asks i c.index-items-place.result false inside c.index-items-place.is c.if-not-keeps.ensures in
    let told : c.fault.result ≡ broken (i + 1) = tells i c.fault.result inside c.fault.ensures in
    ap Err told ∙ sym (checked-stop rule broken i (c.loop-place.invariant rule broken asks) (length c.args.items.now) said (omega arith))
