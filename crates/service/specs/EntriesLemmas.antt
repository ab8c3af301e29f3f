-- What waits among sound entries is in range, and for nodes 1 to 40.
use Rattle.std.specs.Prelude.{◌≡◌, ℕ, ◌<◌, ◌≤◌, Bool, true, false, cond, List, [], ◌∷◌, length, ◌==◌, nat_le, refl}
use Rattle.std.proofs.Common.{arith}
use Rattle.std.proofs.lemmas.Bool.{and_parts, eqb-true, leb-true}
use Rattle.process.specs.Processes.{is_node_number}
use Rattle.service.specs.declared.answer.Answer.{Answer}
use Rattle.service.specs.declared.waiting.Waiting.{Waiting}
use Rattle.service.specs.Answers.{in_range}
use Rattle.service.specs.Entries.{answers_for, is_sound, all_sound}
use Rattle.service.specs.Waits.{Ranged}

pub sound-ranged : (es : List Waiting) (n : ℕ) → all_sound es ≡ true → Ranged (answers_for es n)
sound-ranged [] n h = tt
sound-ranged (e ∷ es) n h =
    let p = and_parts (is_sound e) (all_sound es) h in
    either (e.node == n) (answers_for es n) (and_parts (is_node_number e.node) (in_range e.answer) p.0).1 (sound-ranged es n p.1)
  where
    either : (b : Bool) (l : List Answer) → in_range e.answer ≡ true → Ranged l → Ranged (cond b (e.answer ∷ l) l)
    either true l range more = (range, more)
    either false l range more = more

-- the number of a node
pub node-range : (n : ℕ) → is_node_number n ≡ true → (1 ≤ n) × (n ≤ 40)
node-range n h = let p = and_parts (nat_le 1 n) (nat_le n 40) h in (leb-true 1 n p.0, leb-true n 40 p.1)

pub sound-numbered : (es : List Waiting) (n : ℕ) → all_sound es ≡ true → 0 < length (answers_for es n) → (1 ≤ n) × (n ≤ 40)
sound-numbered [] n h some = absurd (omega arith)
sound-numbered (e ∷ es) n h some =
    let p = and_parts (is_sound e) (all_sound es) h in
    either (e.node == n) refl (node-range e.node (and_parts (is_node_number e.node) (in_range e.answer) p.0).0) (sound-numbered es n p.1) some
  where
    either : (b : Bool) → (e.node == n) ≡ b → (1 ≤ e.node) × (e.node ≤ 40) → (0 < length (answers_for es n) → (1 ≤ n) × (n ≤ 40)) → 0 < length (cond b (e.answer ∷ answers_for es n) (answers_for es n)) → (1 ≤ n) × (n ≤ 40)
    either true is range later more = let same = eqb-true e.node n is in omega (arith, same)
    either false is range later more = later more
