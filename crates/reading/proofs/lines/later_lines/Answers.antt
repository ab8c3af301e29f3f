use Rattle.std.proofs.Common.{◌≡◌, ◌+◌, length, Ok, Err, sym, ap, ◌∙◌, rules, tests}
use Rattle.std.proofs.lemmas.List.{length_push}
use Rattle.std.proofs.lemmas.Result.{err_from_is_err_and}
use Rattle.text.specs.Pieces.{pieces}
use Rattle.text.specs.Words.{words_of}
use Rattle.reading.specs.Lines.{later_line, later_lines}
use Rattle.reading.specs.Readings.{sofar}
use Rattle.reading.proofs.Turns.{turn-at, none-left, later-next, later-fault}
use Rattle.reading.proofs.lines.later_lines.Goals as goal

pub loop-index-preserved : goal.loop-index-preserved
loop-index-preserved c =
    let text = c.args.lines.now in
    let i = length c.loop-index.yielded in
    let l = c.in-Some.bytes.now in
    let t = turn-at _ _ _ text (cc) (cc) (cc) (λ x b q k. search (rules, tests)) (cc) c.loop-index.yielded _ c.loop-index.yielded_by _ _ c.in-Some.index c.in-Some.bytes c.in-Some.is c.next.ensures.steps in
    let s = sofar c.loop-index.draft in
    let at : c.new.result.line ≡ i + 2 = c.new.ensures.line ∙ ap (λ n. n + 2) t.number in
    let ok : later_line (i + 2) s (words_of l) ≡ Ok (sofar c.later_line.new.draft) =
    (λ j. later_line (sym at j) s (sym c.new.ensures.words j)) ∙ c.in_ok-later_line.ensures.0 in (
      rw length_push (later-next (pieces 10 text) i l t.left s (sofar c.later_line.new.draft) ok ∙ c.loop-index.invariant.0),
      c.in_ok-later_line.ensures.1 ∙ c.loop-index.invariant.1,
    )

pub returns-in_err-later_line : goal.returns-in_err-later_line
returns-in_err-later_line c =
    let text = c.args.lines.now in
    let i = length c.loop-index.yielded in
    let l = c.in-Some.bytes.now in
    let t = turn-at _ _ _ text (cc) (cc) (cc) (λ x b q k. search (rules, tests)) (cc) c.loop-index.yielded _ c.loop-index.yielded_by _ _ c.in-Some.index c.in-Some.bytes c.in-Some.is c.next.ensures.steps in
    let s = sofar c.loop-index.draft in
    let fault = c.in_err-later_line.field-0.0 in
    let at : c.new.result.line ≡ i + 2 = c.new.ensures.line ∙ ap (λ n. n + 2) t.number in
    let err : later_line (i + 2) s (words_of l) ≡ Err fault =
    (λ j. later_line (sym at j) s (sym c.new.ensures.words j)) ∙ c.in_err-later_line.ensures.0 in
    let p = err_from_is_err_and c.from_residual.result c.from_residual.ensures.1 in
    rw (p.1, p.2) (sym c.loop-index.invariant.0 ∙ later-fault (pieces 10 text) i l t.left s fault err)

pub returns : goal.returns
returns c =
    let text = c.args.lines.now in
    let none = none-left _ _ _ text (cc) (cc) (cc) (λ x b q k. search (rules, tests)) (cc) c.loop-index.yielded _ c.loop-index.yielded_by _ _ c.in-None.is c.next.ensures.steps in
    let i = length c.loop-index.yielded in
    (sym c.loop-index.invariant.0 ∙ ap (later_lines (i + 2) (sofar c.loop-index.draft)) none, c.loop-index.invariant.1)
