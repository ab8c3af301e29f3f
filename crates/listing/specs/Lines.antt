-- The text of each line, and what a call promises that writes one.
use Rattle.std.specs.Prelude.{◌≡◌, ℕ, ◌+◌, ◌<◌, ◌≤◌, Bool, true, false, List, [], ◌∷◌, ◌++◌, length, take, drop, Ok, Err, codes, decimal, Result}
use Rattle.std.specs.Fmt.{signed_decimal}
use Rattle.fault.specs.declared.console.ConsoleFault.{ConsoleFault}
use Rattle.fault.specs.declared.console.ConsoleFault.TheVariants.{NoRoom}
use Rattle.fault.specs.declared.record.FaultRecord.{FaultRecord}
use Rattle.process.specs.Sets.{above}
use Rattle.paths.specs.declared.reason.Reason.{Reason}
use Rattle.service.specs.declared.answer.Answer.{Answer}
use Rattle.engine.specs.declared.line.Line.{Line}
use Rattle.engine.specs.declared.run.Stop.{Stop}
use Rattle.engine.specs.declared.run.Stop.TheVariants.{Finished, Resting, Held, Spent, JournalFull}

-- each number after a comma
abbrev pub after_commas : List ℕ → List ℕ
after_commas [] = []
after_commas (n ∷ ns) = codes "," ++ (decimal n ++ after_commas ns)

-- the numbers with commas between them, or a minus where there is none
abbrev pub listed : List ℕ → List ℕ
listed [] = codes "-"
listed (n ∷ ns) = decimal n ++ after_commas ns

-- the pieces one after another, and a line feed
abbrev pub line_of : List (List ℕ) → List ℕ
line_of [] = codes "\n"
line_of (piece ∷ pieces) = piece ++ line_of pieces

abbrev pub process_line : ℕ → List ℕ
process_line number = line_of (codes "process " ∷ decimal number ∷ [])

-- a task's answer; the step of another node has none
abbrev pub answer_part : Bool → Answer → List ℕ
answer_part true answer = codes " answer " ++ signed_decimal answer.value
answer_part false answer = []

abbrev pub step_line : ℕ → Line → Bool → List ℕ
step_line step line is_task =
    line_of
    (codes "step " ∷ decimal step ∷ codes " node " ∷ decimal line.node ∷ codes " takes " ∷ listed (above line.taken 0) ∷ codes " puts " ∷ listed (above line.put 0) ∷ answer_part is_task line.answer ∷ [])

abbrev pub stop_name : Stop → List ℕ
stop_name Finished = codes "finished"
stop_name Resting = codes "resting"
stop_name Held = codes "held"
stop_name Spent = codes "spent"
stop_name JournalFull = codes "journal full"

abbrev pub stop_line : Stop → ℕ → List ℕ
stop_line stop steps = line_of (stop_name stop ∷ codes " after " ∷ decimal steps ∷ [])

-- the flow that holds the gateway back, and the path from it, which stands at the front of the list
abbrev pub gateway_line : ℕ → Reason → List ℕ → List ℕ
gateway_line gateway reason list =
    line_of
    (codes "gateway " ∷ decimal gateway ∷ codes " waits for flow " ∷ decimal reason.holder ∷ codes " by " ∷ listed (take reason.length list) ∷ [])

abbrev pub refusal_line : FaultRecord → List ℕ
refusal_line fault = line_of (codes "refused " ∷ decimal fault.number ∷ codes " layer " ∷ decimal fault.layer ∷ codes " place " ∷ decimal fault.place ∷ [])

-- Where 512 bytes stand from the place on, the line fits into them and stands there, `end` is where it ended, and the rest
-- of the buffer is as it was. Where fewer stand, the call is refused, and all of the buffer is as it was.
abbrev pub Listed : List ℕ → ℕ → List ℕ → Result ℕ ConsoleFault → List ℕ → Type 0
Listed out place text (Ok end) out' =
    (place + 512 ≤ length out)
    × (length text ≤ 512)
    × (end ≡ place + length text)
    × (out' ≡ take place out ++ (text ++ drop (place + length text) out))
Listed out place text (Err fault) out' = (length out < place + 512) × (fault ≡ NoRoom place) × (out' ≡ out)
