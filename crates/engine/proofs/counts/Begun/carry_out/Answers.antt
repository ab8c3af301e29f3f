use Rattle.std.proofs.Common.{ℕ, ◌+◌, set, refl, ap, ◌∙◌}
use Rattle.process.specs.Sets.{joined, without}
use Rattle.marking.specs.declared.marking.Marking.{Marking}
use Rattle.marking.specs.Markings.{tokens_of}
use Rattle.engine.specs.declared.line.Line.{Line}
use Rattle.engine.proofs.counts.Begun.carry_out.Goals as goal

pub returns : goal.returns
returns g c =
    let m = c.args.turn.movement in
    let t = c.take_answer-answer.ensures in
    let l : Line = record { node = c.args.turn.node; taken = m.taken; put = m.put; answer = c.take_answer-answer.result } in
    record {
      node = refl;
      allowed = record {
        passes = record { node = c.requires.node; ready = c.requires.ready; way = c.requires.clear.way; clear = c.requires.clear.free };
        takes = c.requires.clear.takes;
        puts = c.requires.clear.puts;
        answers = t.fits;
        tokens_left = c.change.ensures.tokens ∙ ap (λ (x : Marking). joined (without (tokens_of x) m.taken) m.put) t.marking;
        figures_left = t.figures;
      };
      room = c.requires.room;
      answered = t.answered;
      journal_is = ap (λ (k : ℕ). set c.args.journal.now k l) (c.from.ensures ∙ t.written);
      written = ap (λ (k : ℕ). k + 1) t.written;
      routing = c.change.ensures.routing ∙ ap (λ (x : Marking). x.routing) t.marking;
      instance = t.instance;
    }
