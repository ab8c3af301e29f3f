use Rattle.std.proofs.Common.{sym, ap, arith, rules}
use Rattle.listing.specs.Lines.{answer_part}
use Rattle.listing.proofs.Pieces.{then, same_text, wrote_nothing}
use Rattle.listing.proofs.lines.write_answer_part.Goals as goal

pub returns-then-not-is_task : goal.returns-then-not-is_task
returns-then-not-is_task c =
    record { text = same_text (sym (ap (λ b. answer_part b c.args.answer) c.if-not-is_task.true)) (wrote_nothing c.args.out.now c.args.place (search rules)); most = omega arith }

pub returns : goal.returns
returns c =
    let w = c.write_text-end.ensures in
    record {
      text = same_text (sym (ap (λ b. answer_part b c.args.answer) c.if-not-is_task.false)) (then w c.write_answer.ensures.text);
      most = omega (arith, w.ends, c.write_answer.ensures.most);
    }
