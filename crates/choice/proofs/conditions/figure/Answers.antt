use Rattle.std.proofs.Common.{◌≡◌, pos, refl, rules}
use Rattle.process.proofs.ByNumber.{looked-up}
use Rattle.choice.specs.Conditions.{figure}
use Rattle.choice.proofs.conditions.figure.Goals as goal

pub returns : goal.returns
returns c =
    let figures = c.args.figures.now in
    let e : c.unwrap_or.result ≡ figure figures c.args.number = looked-up figures (pos 0) (figure figures) refl (λ k. refl) c.args.number _ _ _ c.from.ensures c.numbered.ensures c.unwrap_or.ensures in
    search (rules, e)
