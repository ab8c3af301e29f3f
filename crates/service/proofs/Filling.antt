-- A pile that is filled with the lines of an order text.
use Rattle.std.proofs.Common.{◌≡◌, ℕ, zero, suc, ◌+◌, ◌<◌, ◌≤◌, true, List, [], ◌∷◌, map, length, get_or, take, Ok, Result, sym, refl, ap, ◌∙◌, subst, arith}
use Rattle.std.proofs.lemmas.List.{length-map, length-take-le, map_more}
use Rattle.std.proofs.lemmas.Bool.{and_from, and_parts}
use Rattle.fault.specs.declared.service.ServiceFault.{ServiceFault}
use Rattle.process.specs.Processes.{is_node_number, is_value}
use Rattle.reading.specs.declared.order.OrderLine.{OrderLine}
use Rattle.reading.specs.Orders.{order_in_range, orders_in_range}
use Rattle.service.specs.declared.pile.Pile.{Pile}
use Rattle.service.specs.Answers.{answer}
use Rattle.service.specs.Entries.{answers_for, all_sound}
use Rattle.service.specs.OrderFiles.{ordered, order_waits}
use Rattle.service.specs.Piles.{waits_in}
use Rattle.service.specs.Waits.{added, waiting_in_all, put_verdict, Put}
use Rattle.service.proofs.Entries.{answers_push, waiting-entries}
use Rattle.service.proofs.Verdicts.{verdict-room}

sound-front : (os : List OrderLine) (i : ℕ) → orders_in_range os ≡ true → all_sound (map ordered (take i os)) ≡ true
sound-front os zero h = refl
sound-front [] (suc i) h = refl
sound-front (o ∷ os) (suc i) h = let p = and_parts (order_in_range o) (orders_in_range os) h in and_from _ _ p.0 (sound-front os i p.1)

range_at : (os : List OrderLine) (i : ℕ) (d : OrderLine) → i < length os → orders_in_range os ≡ true → order_in_range (get_or os i d) ≡ true
range_at [] i d within h = absurd (omega arith)
range_at (o ∷ os) zero d within h = (and_parts (order_in_range o) (orders_in_range os) h).0
range_at (o ∷ os) (suc i) d within h = range_at os i d (omega arith) (and_parts (order_in_range o) (orders_in_range os) h).1

-- one line more finds room
module _ (os : List OrderLine) (range : orders_in_range os ≡ true) (few : length os ≤ 1489) (i : ℕ) (d : OrderLine) (within : i < length os) (p p' : Pile 1489) (r : Result (Unit {0}) ServiceFault) where
  pub filled_more : waits_in p ≡ order_waits (take i os)
      → r ≡ put_verdict 1489 (waits_in p) (get_or os i d).node (answer (get_or os i d).value)
      → Put waits_in p (get_or os i d).node (answer (get_or os i d).value) r p'
      → waits_in p' ≡ order_waits (take (i + 1) os)
  filled_more before reply put =
      let o = get_or os i d in
      let es = map ordered (take i os) in
      let good = and_parts (is_node_number o.node) (is_value o.value) (range_at os i d within range) in
      let total : waiting_in_all (waits_in p) ≡ length es = ap waiting_in_all before ∙ waiting-entries es (sound-front os i range) in
      let many : length es ≡ i = length-map (take i os) ordered ∙ length-take-le i os (omega arith) in
      let ok : r ≡ Ok tt = reply ∙ sym (verdict-room 1489 (waits_in p) o.node (answer o.value) (sym good.0) (sym good.1) (omega arith)) in
      subst (λ x. Put waits_in p o.node (answer o.value) x p') ok put
      ∙ ap (λ w. added w o.node (answer o.value)) before
      ∙ sym (answers_push es o.node (answer o.value))
      ∙ ap answers_for (sym (map_more ordered os i d within))
