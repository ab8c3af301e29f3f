use Rattle.std.proofs.Common.{sym, refl, subst}
use Rattle.process.proofs.ByNumber.{looked-up}
use Rattle.marking.specs.Kept.{number_at, Counted}
use Rattle.marking.specs.Markings.{tokens_of, nodes_of, flows_of}
use Rattle.marking.proofs.Deciding.{kept-right}
use Rattle.marking.proofs.marking.Marking.holding_number.Goals as goal

pub returns : goal.returns
returns c =
    let m = c.args.self.now in
    let n = c.args.node in
    subst (Counted (nodes_of m) (flows_of m) (tokens_of m) n)
    (sym (looked-up m.holding 0 (number_at m.holding) refl (λ k. refl) n _ _ _ c.from.ensures c.numbered.ensures c.unwrap_or.ensures)) (kept-right m n)
