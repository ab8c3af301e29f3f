use Rattle.std.proofs.Common.{◌<◌, length, sym, ap, ◌∙◌, arith}
use Rattle.std.proofs.lemmas.Bool.{and_from}
use Rattle.process.specs.Rows.{items}
use Rattle.process.proofs.Formed.{pushed}
use Rattle.service.specs.Entries.{entry, answers_for, all_sound}
use Rattle.service.proofs.Entries.{sound-push, answers_push, waiting-entries}
use Rattle.service.proofs.Verdicts.{verdict-full, verdict-room}
use Rattle.service.proofs.pile.Pile.put.Goals as goal

pub returns-then-len-clause-reply : goal.returns-then-len-clause-reply
returns-then-len-clause-reply g c =
    let p = c.args.self.now in
    let total = waiting-entries (items p.entries) p.sound in
    verdict-full g.row.N (answers_for (items p.entries)) c.args.node c.args.answer c.if-not-is_node_number.ensures c.if-not-in_range.ensures (omega (arith, total, c.len.ensures, c.if-len.true))

pub invariant_of-self : goal.invariant_of-self
invariant_of-self g c =
    let p = c.args.self.now in
    let es = items p.entries in
    let room : length es < g.row.N = omega (arith, c.len.ensures, c.if-len.false) in
    let push = pushed es (items c.push.new.self) (entry c.args.node c.args.answer) g.row.N c.push.result c.push.ensures.told room c.push.ensures.after in
    let sound = and_from _ _ (sym c.if-not-is_node_number.ensures) (sym c.if-not-in_range.ensures) in
    record { sound = ap all_sound push ∙ sound-push es (entry c.args.node c.args.answer) p.sound sound }

pub returns : goal.returns
returns g c =
    let p = c.args.self.now in
    let es = items p.entries in
    let total = waiting-entries es p.sound in
    let room : length es < g.row.N = omega (arith, c.len.ensures, c.if-len.false) in
    let push = pushed es (items c.push.new.self) (entry c.args.node c.args.answer) g.row.N c.push.result c.push.ensures.told room c.push.ensures.after in
    record {
      reply = verdict-room g.row.N (answers_for es) c.args.node c.args.answer c.if-not-is_node_number.ensures c.if-not-in_range.ensures (omega (arith, total));
      after = ap answers_for push ∙ answers_push es c.args.node c.args.answer;
    }
