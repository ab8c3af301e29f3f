use Rattle.std.proofs.Common.{◌-◌, ◌/◌, ◌^◌, ◌<◌, ◌≤◌, sym, ap, arith, rules, pow_mono, w64}
use Rattle.std.specs.List.{slice_get}
use Rattle.std.proofs.lemmas.Nat.Bits.{bit_at-trailing_zeros}
use Rattle.process.proofs.Ordered.{above-all, shifted-none, shifted-some, shifted-fits}
use Rattle.process.proofs.sets.FlowSet.next_after.Goals as goal

pub returns-then-number-ge64 : goal.returns-then-number-ge64
returns-then-number-ge64 c = ap (λ xs. slice_get xs 0) (sym (above-all c.args.self c.args.number c.if-number-ge64.true))

pub returns-then-higher-eq0 : goal.returns-then-higher-eq0
returns-then-higher-eq0 c = shifted-none c.args.self c.args.number c.if-higher-eq0.true

pub returns : goal.returns
returns c =
    let s = c.args.self in
    let n = c.args.number in
    let whole : s.bits < 2 ^ 64 = search rules in
    let narrow : 64 - n ≤ 64 = omega arith in
    let most : 2 ^ (64 - n) ≤ 2 ^ 64 = pow_mono narrow in
    let fits : s.bits / 2 ^ n < 2 ^ 64 = omega (arith, shifted-fits s n c.if-number-ge64.false whole, most) in
    let lowest = bit_at-trailing_zeros w64 (s.bits / 2 ^ n) (omega (arith, c.if-higher-eq0.false)) fits in
    shifted-some s n _ c.if-number-ge64.false whole lowest.1 lowest.2
