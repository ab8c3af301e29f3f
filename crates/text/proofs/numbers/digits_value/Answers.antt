use Rattle.std.proofs.Common.{arith, rules}
use Rattle.std.proofs.lemmas.Int.Digits.{digits_value_more, digits_more}
use Rattle.text.proofs.Writings.{digit-there, short}
use Rattle.text.proofs.numbers.digits_value.Goals as goal

pub returns-in_err-digit : goal.returns-in_err-digit
returns-in_err-digit c = rw c.from_residual.ensures (λ d. c.in_err-digit.ensures.value (digit-there _ _ c.loop-byte-test.true d))

pub overflow_mul-n : goal.overflow_mul-n
overflow_mul-n c = let h = short c.args.digits.now c.loop-byte.byte-index c.loop-byte-test.true c.requires c.loop-byte.invariant.0 in search rules

pub overflow_add-n : goal.overflow_add-n
overflow_add-n c =
    let h = short c.args.digits.now c.loop-byte.byte-index c.loop-byte-test.true c.requires c.loop-byte.invariant.0 in
    let d = c.in_ok-digit.ensures.value in
    search rules

pub loop-byte-preserved : goal.loop-byte-preserved
loop-byte-preserved c =
    let d = c.in_ok-digit.ensures.value in (
      digits_more 10 _ _ c.loop-byte-test.true c.loop-byte.invariant.0 d.0,
      omega (arith, digits_value_more 10 c.args.digits.now c.loop-byte.byte-index c.loop-byte-test.true, d.1, c.loop-byte.invariant.1, c.from.ensures),
    )
