use Rattle.std.proofs.Common.{◌≡◌, ◌<◌, min, [], ◌∷◌, ◌++◌, length, take, sym, refl, ap, ◌∙◌, arith}
use Rattle.std.proofs.lemmas.List.{take_more, take_more_set, drop-set-lt, length-take-le, get_or-take}
use Rattle.history.specs.declared.call.Call.{Call}
use Rattle.history.specs.Histories.{History}
use Rattle.history.specs.Laws.{New}
use Rattle.history.proofs.Cuts.{take-shorter}
use Rattle.history.proofs.Histories.{history-push, history-as}
use Rattle.history.proofs.Holds.{attended}
use Rattle.history.proofs.attend.attend.Goals as goal

pub loop-place-init : goal.loop-place-init
loop-place-init g c = (History.ends, refl)

pub loop-place-preserved : goal.loop-place-preserved
loop-place-preserved g c =
    let i = c.loop-place.place in
    let calls = c.args.calls.now in
    let n = c.min-number.result in
    let reply = c.perform-reply.result.1 in
    let cut : length (take n calls) ≡ n = length-take-le n calls (omega (arith, c.min-number.ensures)) in
    let below : i < n = omega (arith, cut, c.loop-place-test.true) in
    let within : i < length calls = omega (arith, c.min-number.ensures) in
    let room : i < length c.loop-place.replies = omega (arith, c.min-number.ensures) in (
      history-as (ap (λ (x : Call). take i calls ++ x ∷ []) (get_or-take n calls i _ below) ∙ sym (take_more calls i _ within)) (sym (take_more_set c.loop-place.replies i reply room))
          (history-push c.loop-place.invariant.0 c.perform-reply.ensures),
      drop-set-lt (length calls) c.loop-place.replies i reply within ∙ c.loop-place.invariant.1,
    )

pub returns : goal.returns
returns g c =
    let calls = c.args.calls.now in
    let replies = c.loop-place.replies in
    let p = c.loop-place.place in
    let n = c.min-number.result in
    let cut : length (take n calls) ≡ n = length-take-le n calls (omega (arith, c.min-number.ensures)) in
    let short : p ≡ min (length calls) (length c.args.replies.now) = omega (arith, c.min-number.ensures) in
    let short' : p ≡ min (length replies) (length calls) = omega (arith, c.min-number.ensures) in
    let new : New c.args.routing.now c.args.instance c.new.result = record { of_model = ap (λ (r : _). r.now) c.new.ensures.routing; numbered = c.new.ensures.instance; zeroed = c.new.ensures.figures } in
    record {
      attended = attended c.args.routing.now c.args.instance c.new.result c.args.journal.now (g.S.Service.waits c.args.service.now)
          (take (length c.args.replies.now) calls) (take (length calls) replies) c.loop-place.count c.loop-place.journal (g.S.Service.waits c.loop-place.service) new
          (history-as (take-shorter calls (length c.args.replies.now) p short) (take-shorter replies (length calls) p short') c.loop-place.invariant.0);
      rest = c.loop-place.invariant.1;
    }
