use Rattle.std.proofs.Common.{pos, nat_abs, ◌<ℤ◌, sym, ap, ◌∙◌, arith, w32, SFits, rules}
use Rattle.std.proofs.lemmas.Int.{ints, to_z-of_z}
use Rattle.listing.proofs.Numbers.{signed-minus}
use Rattle.listing.proofs.Pieces.{then, same_text, same_number}
use Rattle.listing.proofs.writing.write_answer.Goals as goal

pub returns-then-answer-lt0 : goal.returns-then-answer-lt0
returns-then-answer-lt0 c =
    let value = c.args.answer.value in
    let low : value <ℤ pos 0 = grind (arith, ints) in
    let fits : SFits w32 value = search rules in
    let size = c.from-size.ensures ∙ c.unsigned_abs.ensures.value ∙ ap nat_abs (to_z-of_z w32 value fits) in
    let w = c.write_text-digits.ensures in
    record {
      text = same_text (sym (signed-minus value low)) (then w (same_number size c.write_number.ensures.text));
      most = omega (arith, w.ends, c.write_number.ensures.most);
    }
