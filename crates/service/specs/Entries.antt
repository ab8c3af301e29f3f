-- Answers for several nodes, in the order in which they came.
use Rattle.std.specs.Prelude.{ℕ, suc, Bool, true, cond, ◌&&◌, List, [], ◌∷◌, ◌==◌}
use Rattle.process.specs.Processes.{is_node_number}
use Rattle.service.specs.declared.answer.Answer.{Answer}
use Rattle.service.specs.declared.waiting.Waiting.{Waiting}
use Rattle.service.specs.Answers.{in_range}

abbrev pub entry : ℕ → Answer → Waiting
entry n a = record { node = n; answer = a }

-- the answers for node n
abbrev pub answers_for : List Waiting → ℕ → List Answer
answers_for [] n = []
answers_for (e ∷ es) n = cond (e.node == n) (e.answer ∷ answers_for es n) (answers_for es n)

-- the place of the first entry for node n, or the number of entries where none is
abbrev pub place_for : List Waiting → ℕ → ℕ
place_for [] n = 0
place_for (e ∷ es) n = cond (e.node == n) 0 (suc (place_for es n))

-- a node can have the number, and a figure the value
abbrev pub is_sound : Waiting → Bool
is_sound e = is_node_number e.node && in_range e.answer

abbrev pub all_sound : List Waiting → Bool
all_sound [] = true
all_sound (e ∷ es) = is_sound e && all_sound es
