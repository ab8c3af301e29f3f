use Rattle.std.proofs.Common.{◌≡◌, ◌<◌, ◌≤◌, length, get_or, rules}
use Rattle.text.proofs.Writings.{not-empty, not-long, no-zero-first, read}
use Rattle.text.proofs.numbers.magnitude.Goals as goal

pub returns-in-empty : goal.returns-in-empty
returns-in-empty c = λ n w. let e : length c.args.digits.now ≡ 0 = search rules in not-empty _ n e w

pub returns-in-empty-2 : goal.returns-in-empty-2
returns-in-empty-2 c = λ n w.
    let zero : get_or c.args.digits.now 0 0 ≡ 48 = search rules in
    let more : 1 < length c.args.digits.now = search rules in
    no-zero-first _ n zero more w

pub returns-in_default : goal.returns-in_default
returns-in_default c = λ n w. let long : 10 < length c.args.digits.now = search rules in not-long _ n long w

pub returns-in_default-2 : goal.returns-in_default-2
returns-in_default-2 c =
    let some : 0 < length c.args.digits.now = search rules in
    let most : length c.args.digits.now ≤ 10 = search rules in
    read c.digits_value.result c.args.digits.now c.digits_value.ensures some most
    (λ z. search rules)
