-- The answers that still wait for each node, oldest first: what a service is known by.
use Rattle.std.specs.Prelude.{◌≡◌, ℕ, zero, suc, ◌+◌, true, cond, not, List, [], ◌∷◌, ◌++◌, length, Ok, Err, Result, ◌==◌, nat_le}
use Rattle.std.specs.List.{AllByRecursion}
use Rattle.fault.specs.declared.service.ServiceFault.{ServiceFault}
use Rattle.fault.specs.declared.service.ServiceFault.TheVariants.{NodeNumber, Value, Full, NoAnswer}
use Rattle.process.specs.Processes.{is_node_number}
use Rattle.service.specs.declared.answer.Answer.{Answer}
use Rattle.service.specs.Answers.{in_range}

abbrev pub Waits : Type 0
Waits = ℕ → List Answer

abbrev pub Ranged : List Answer → Type 0
Ranged answers = AllByRecursion (λ a. in_range a ≡ true) answers

-- the oldest of the answers that wait for node n
abbrev pub oldest : List Answer → ℕ → Result Answer ServiceFault
oldest [] n = Err (NoAnswer n)
oldest (a ∷ answers) n = Ok a

abbrev pub rest : List Answer → List Answer
rest [] = []
rest (a ∷ answers) = answers

-- the oldest answer for node n is gone
abbrev pub taken : Waits → ℕ → Waits
taken waits n m = cond (m == n) (rest (waits m)) (waits m)

-- one more answer waits for node n
abbrev pub added : Waits → ℕ → Answer → Waits
added waits n a m = cond (m == n) (waits m ++ a ∷ []) (waits m)

-- how many answers wait for the nodes 1 to n
abbrev pub waiting_to : ℕ → Waits → ℕ
waiting_to zero waits = 0
waiting_to (suc n) waits = waiting_to n waits + length (waits (suc n))

-- and over all nodes
unfoldable pub waiting_in_all : Waits → ℕ
waiting_in_all waits = waiting_to 40 waits

-- whether one more answer may wait, of at most so many: the number of its node comes first, then its value, then the room
abbrev pub put_verdict : ℕ → Waits → ℕ → Answer → Result (Unit {0}) ServiceFault
put_verdict most waits n a =
    cond (not (is_node_number n)) (Err (NodeNumber n))
    (cond (not (in_range a)) (Err Value)
    (cond (nat_le most (waiting_in_all waits)) (Err (Full n)) (Ok tt)))

-- the answer stands behind those that wait for its node, or it is refused and nothing changed
abbrev pub Put : {X : Type 0} → (X → Waits) → X → ℕ → Answer → Result (Unit {0}) ServiceFault → X → Type 0
Put waits x n a (Ok u) x' = waits x' ≡ added (waits x) n a
Put waits x n a (Err fault) x' = x' ≡ x
