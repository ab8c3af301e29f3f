use Rattle.std.proofs.Common.{◌≡◌, ◌∷◌, Ok, Err, sym, ap, ◌∙◌}
use Rattle.std.proofs.lemmas.Result.{err_from_is_err_and}
use Rattle.std.proofs.lemmas.Bool.{both_ways}
use Rattle.process.specs.Processes.{is_number}
use Rattle.text.specs.Pieces.{pieces, pieces_in}
use Rattle.text.specs.Words.{words_of}
use Rattle.reading.specs.Lines.{first_line, lines_of}
use Rattle.reading.proofs.Forms.{first_bad, first-number}
use Rattle.reading.proofs.lines.read_lines.Goals as goal

pub returns-in_err-number : goal.returns-in_err-number
returns-in_err-number c =
    let p = err_from_is_err_and c.from_residual-in_err-number.result c.from_residual-in_err-number.ensures.1 in
    let text = c.args.text.now in
    let first = c.cut_at-cut.result.first.now in
    let lines : lines_of text ≡ first ∷ pieces_in 10 c.cut_at-cut.result.rest = ap (pieces 10) (sym c.in_ok-body.ensures.1) ∙ c.cut_at-cut.ensures.pieces in
    let line : first_line 1 (words_of first) ≡ Err c.in_err-number.field-0.0 =
    (λ i. first_line (sym c.new.ensures.line i) (sym c.new.ensures.words i)) ∙ sym c.in_err-number.ensures in
    rw (p.1, p.2) (first_bad text first _ _ c.in_ok-body.ensures.0 lines line)

pub returns-in_err-draft : goal.returns-in_err-draft
returns-in_err-draft c =
    let first = c.cut_at-cut.result.first.now in
    let line : first_line 1 (words_of first) ≡ Ok c.in_ok-number.number =
    (λ i. first_line (sym c.new.ensures.line i) (sym c.new.ensures.words i)) ∙ sym c.in_ok-number.ensures in
    absurd (both_ways (is_number c.in_ok-number.number) c.in_err-draft.ensures.0 (first-number 1 (words_of first) c.in_ok-number.number line))
