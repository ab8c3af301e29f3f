use Rattle.std.proofs.Common.{◌≡◌, length, take, drop}
use Rattle.history.specs.Histories.{Moment, History}
use Rattle.history.proofs.attend.attend.Given as goal

abbrev pub invariant-loop-place : goal.invariant-loop-place
invariant-loop-place g l =
    let w = g.S.Service.waits in
    History (Moment.at l.initial.count l.initial.journal (w l.initial.service)) (take l.place l.calls) (take l.place l.replies) (Moment.at l.count l.journal (w l.service))
    × (drop (length l.calls) l.replies ≡ drop (length l.calls) l.initial.replies)
