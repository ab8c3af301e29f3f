use Rattle.std.proofs.Common.{◌==◌, ◌+◌, ◌∷◌, take, sym, ◌∙◌, rules, tests}
use Rattle.std.proofs.lemmas.Iterator.{YieldsList-from_slice}
use Rattle.std.proofs.lemmas.Iterator.Search.{position_from_yields_List}
use Rattle.std.proofs.lemmas.List.{take_rest}
use Rattle.text.specs.Pieces.{pieces}
use Rattle.text.proofs.Cuts.{cut-here, cut_none}
use Rattle.text.proofs.pieces.cut_at.Goals as goal

pub returns-in-Some-clause-pieces : goal.returns-in-Some-clause-pieces
returns-in-Some-clause-pieces c =
    let bs = c.args.bytes.now in
    let i = c.in-Some.offset in
    let at = position_from_yields_List (λ b. b == c.args.separator) _ _ c.position.result c.position.ensures.ran (YieldsList-from_slice bs cc) (λ x b q k. search (rules, tests)) in
    cut-here c.args.separator bs i (sym c.in-Some.is ∙ at) ∙ (λ j. take i bs ∷ pieces c.args.separator (sym (take_rest bs (i + 1)) j))

pub returns-in-None-clause-pieces : goal.returns-in-None-clause-pieces
returns-in-None-clause-pieces c =
    let bs = c.args.bytes.now in
    let at = position_from_yields_List (λ b. b == c.args.separator) _ _ c.position.result c.position.ensures.ran (YieldsList-from_slice bs cc) (λ x b q k. search (rules, tests)) in
    cut_none c.args.separator bs (sym c.in-None.is ∙ at)
