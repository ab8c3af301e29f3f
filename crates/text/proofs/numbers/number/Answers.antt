use Rattle.std.proofs.Common.{◌≡◌, ℤ, ◌&&◌, None, w32, w64, SFits, rules}
use lib.Signed.{le_z}
use Rattle.std.specs.Bool.{then_some}
use Rattle.std.proofs.lemmas.Int.{to_z-of_z}
use Rattle.text.specs.Numbers.{Names}
use Rattle.text.proofs.Numerals.{names-numeral, spells, too_wide, told}
use Rattle.text.proofs.numbers.number.Goals as goal

pub returns-in_err-integer : goal.returns-in_err-integer
returns-in_err-integer c =
    let a = c.args in
    let none : (v : ℤ) → Names a.word.now a.low a.high v → ⊥ = λ v n. c.in_err-integer.ensures v (spells a.low a.high c.ranges.low.sfits c.ranges.high.sfits a.word.now v n) in
    rw c.from_residual.ensures (record { value = names-numeral a.low a.high c.ranges.low.sfits c.ranges.high.sfits a.word.now None none; written = none })

pub returns-in_err-value : goal.returns-in_err-value
returns-in_err-value c =
    let a = c.args in
    let u = c.in_ok-integer.field-0 in
    let fits : SFits w64 u = search rules in
    let wide : SFits w32 u → ⊥ = search rules in
    let none = too_wide a.low a.high c.ranges.low.sfits c.ranges.high.sfits a.word.now u c.in_ok-integer.ensures (λ h. wide (record { sfits = h })) in
    rw c.from_residual-in_err-value.ensures (record { value = names-numeral a.low a.high c.ranges.low.sfits c.ranges.high.sfits a.word.now None none; written = none })

pub returns : goal.returns
returns c =
    let a = c.args in
    let u = c.in_ok-integer.field-0 in
    let fits : SFits w32 c.in_ok-value.value = search rules in
    let is : c.in_ok-value.value ≡ u = search rules in
    let within : c.contains.result ≡ (le_z a.low c.in_ok-value.value && le_z c.in_ok-value.value a.high) = search rules in
    let n = told a.low a.high c.ranges.low.sfits c.ranges.high.sfits a.word.now u c.in_ok-integer.ensures c.contains.result (rw is at within) in
    rw (c.then_some.ensures, to_z-of_z, is) (record { value = names-numeral a.low a.high c.ranges.low.sfits c.ranges.high.sfits a.word.now (then_some c.contains.result u) n; written = n })
