-- What may wait in a service with one answer.
use Rattle.std.specs.Prelude.{ℕ, Bool, true, ◌&&◌, Some, None, Option}
use Rattle.process.specs.Processes.{is_node_number}
use Rattle.service.specs.declared.answer.Answer.{Answer}
use Rattle.service.specs.Answers.{in_range}

abbrev pub may_wait : ℕ → Option Answer → Bool
may_wait n None = true
may_wait n (Some a) = is_node_number n && in_range a
