-- What an answer is.
use Rattle.std.specs.Prelude.{Bool, ℤ}
use Rattle.process.specs.Processes.{is_value}
use Rattle.service.specs.declared.answer.Answer.{Answer}

abbrev pub answer : ℤ → Answer
answer c = record { value = c }

-- a figure may have the value of the answer
abbrev pub in_range : Answer → Bool
in_range a = is_value a.value
