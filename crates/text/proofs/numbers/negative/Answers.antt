use Rattle.std.proofs.Common.{◌≡◌, ◌+◌, ◌-◌, subst, arith}
use Rattle.std.proofs.lemmas.Int.{ints}
use Rattle.text.specs.Numbers.{Writes}
use Rattle.text.proofs.Writings.{not-both}
use Rattle.text.proofs.numbers.negative.Goals as goal

pub returns-then-n-eq0 : goal.returns-then-n-eq0
returns-then-n-eq0 c = λ n w. not-both _ _ n c.if-n-eq0.true c.in_ok-n.ensures w

pub returns : goal.returns
returns c =
    let w = c.in_ok-n.ensures in
    let short = w.short in
    let back : c.in_ok-n.n ≡ c.in_ok-n.n - 1 + 1 = omega arith in
    (c.in_ok-n.n - 1, omega (arith, ints), subst (Writes c.args.digits.now) back w)
