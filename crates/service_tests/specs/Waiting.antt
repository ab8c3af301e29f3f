-- What waits in it, and what is taken from a service.
use Rattle.std.specs.Prelude.{◌≡◌, ℕ, cond, not, List, [], ◌∷◌, Some, None, Ok, Err, Option, Result, ◌==◌}
use Rattle.fault.specs.declared.service.ServiceFault.{ServiceFault}
use Rattle.fault.specs.declared.service.ServiceFault.TheVariants.{NodeNumber, Value, NoAnswer}
use Rattle.process.specs.Processes.{is_node_number}
use Rattle.service.specs.declared.answer.Answer.{Answer}
use Rattle.service.specs.Answers.{in_range}
use Rattle.service.specs.Waits.{Waits}
use Rattle.service_tests.specs.declared.single.Single.{Single}

abbrev pub listed : Option Answer → List Answer
listed None = []
listed (Some a) = a ∷ []

abbrev pub waits_for : Single → Waits
waits_for s n = cond (n == s.node) (listed s.answer) []

-- whether the answer may wait: the number of its node comes first, then its value
abbrev pub single_verdict : ℕ → Answer → Result (Unit {0}) ServiceFault
single_verdict n a = cond (not (is_node_number n)) (Err (NodeNumber n)) (cond (not (in_range a)) (Err Value) (Ok tt))

-- the answer waits for its node, or it is refused
abbrev pub Made : ℕ → Answer → Result Single ServiceFault → Type 0
Made n a (Ok s) = (single_verdict n a ≡ Ok tt) × ((m : ℕ) → waits_for s m ≡ cond (m == n) (a ∷ []) [])
Made n a (Err fault) = single_verdict n a ≡ Err fault

-- the two oldest of the answers that wait for node n
abbrev pub two_oldest : List Answer → ℕ → Result (Answer × Answer) ServiceFault
two_oldest [] n = Err (NoAnswer n)
two_oldest (a ∷ []) n = Err (NoAnswer n)
two_oldest (a ∷ b ∷ answers) n = Ok (a, b)
