-- As many lines stand as steps were told.
use Rattle.std.proofs.Common.{◌≡◌, ℕ, ◌+◌, List, Ok, Err, Result, ap, arith}
use Rattle.fault.specs.declared.count.CountFault.{CountFault}
use Rattle.service.specs.Waits.{Waits}
use Rattle.engine.specs.declared.counts.Begun.{Begun}
use Rattle.engine.specs.declared.line.Line.{Line}
use Rattle.engine.specs.Runs.{Runs}
use Rattle.engine.specs.Steps.{Stepped}
use Rattle.history.specs.declared.call.Call.{Call}
use Rattle.history.specs.declared.call.Reply.{Reply}
use Rattle.history.specs.Histories.{Moment, Performed, History}
use Rattle.history.specs.Laws.{written, accepted, steps_of, steps_told}

abbrev pub written_at : Moment → ℕ
written_at (Moment.at count journal waits) = written count

step-counted : (b : Begun) (journal : List Line) (waits : Waits) (n : ℕ) (r : Result Line CountFault) (b' : Begun) (journal' : List Line) (waits' : Waits) → Stepped b journal waits n r b' journal' waits' → b'.written ≡ b.written + accepted r
step-counted b journal waits n (Ok l) b' journal' waits' p = p.written
step-counted b journal waits n (Err fault) b' journal' waits' p = let same = ap (λ (x : Begun). x.written) p.same.count in omega (arith, same)

runs-counted : {budget : ℕ} {b : Begun} {journal : List Line} {waits : Waits} {k : ℕ} {b' : Begun} {journal' : List Line} {waits' : Waits} → Runs budget b journal waits k b' journal' waits' → b'.written ≡ b.written + k
runs-counted Runs.still = omega arith
runs-counted (Runs.again r goes w) = let before = runs-counted r in omega (arith, before, w.written)

call-counted : {m m' : Moment} {call : Call} {reply : Reply} → Performed m call reply m' → written_at m' ≡ written_at m + steps_of reply
call-counted (Performed.sets p) = omega arith
call-counted (Performed.begins p) = omega (arith, p.written)
call-counted (Performed.steps p) = step-counted _ _ _ _ _ _ _ _ p
call-counted (Performed.runs p) = runs-counted p.steps
call-counted (Performed.tells_figure p) = omega arith
call-counted (Performed.tells_ready p) = omega arith
call-counted (Performed.tells_holding p) = omega arith
call-counted (Performed.tells_why p) = omega arith
call-counted (Performed.passes_over u) = omega arith

pub history-counted : {m m' : Moment} {done : List Call} {told : List Reply} → History m done told m' → written_at m' ≡ written_at m + steps_told told
history-counted History.ends = omega arith
history-counted (History.then p h) = let one = call-counted p in let more = history-counted h in omega (arith, one, more)
