-- No two reasons apply at once.
use Rattle.std.proofs.Common.{◌≡◌, ℕ, ◌<◌, ◌≤◌, Ok, Err, Result, sym, refl, ap, ◌∙◌, ⊎_elim, arith}
use Rattle.std.proofs.lemmas.Bool.{both_ways, cases_lt}
use Rattle.fault.specs.declared.count.CountFault.{CountFault}
use Rattle.fault.specs.declared.count.CountFault.TheVariants as faults
use Rattle.service.specs.Waits.{Waits}
use Rattle.engine.specs.declared.counts.Begun.{Begun}
use Rattle.engine.specs.declared.run.Stop.{Stop}
use Rattle.engine.specs.Questions.{NoReason}
use Rattle.engine.specs.Runs.{CanGo, GoesOn, Stops}
use Rattle.engine.specs.Steps.{Room, IsOccupied, Hinders, Refuses}
use Rattle.engine.specs.Verdicts.{OneVerdict}
use Rattle.engine.proofs.Turns.{hinders-blocks}

-- two numbers that are each the lowest of which something holds are one
pub lowest-same : (P : ℕ → Type 0) (m n : ℕ) → P m → ((k : ℕ) → k < m → P k → ⊥) → P n → ((k : ℕ) → k < n → P k → ⊥) → m ≡ n
lowest-same P m n p lower q below =
    ⊎_elim (λ (l : m < n). absurd (below m l p))
    (λ (l : n ≤ m). ⊎_elim (λ (l' : n < m). absurd (lower n l' q)) (λ (l' : m ≤ n). omega arith) (cases_lt n m))
    (cases_lt m n)

one-hindrance : {b : Begun} {waits : Waits} {n : ℕ} {fault other : CountFault} → Hinders b waits n fault → Hinders b waits n other → fault ≡ other
one-hindrance (Hinders.unanswered u) (Hinders.unanswered v) = refl
one-hindrance (Hinders.unanswered u) (Hinders.no_way v w) = absurd (v u)
one-hindrance (Hinders.unanswered u) (Hinders.occupied v w o l) = absurd (v u)
one-hindrance (Hinders.no_way u w) (Hinders.unanswered v) = absurd (u v)
one-hindrance (Hinders.no_way u w) (Hinders.no_way v x) = refl
one-hindrance (Hinders.no_way u w) (Hinders.occupied v x o l) = absurd (x w)
one-hindrance (Hinders.occupied u w o l) (Hinders.unanswered v) = absurd (u v)
one-hindrance (Hinders.occupied u w o l) (Hinders.no_way v x) = absurd (w x)
one-hindrance {b} {waits} {n} (Hinders.occupied {f = f} u w o l) (Hinders.occupied {f = k} v x p m) = ap (λ (i : ℕ). faults.Occupied i b.instance) (lowest-same (λ i. IsOccupied b n i) f k o l p m)

one_fault : {b : Begun} {places : ℕ} {waits : Waits} {n : ℕ} {fault other : CountFault} → Refuses b places waits n fault → Refuses b places waits n other → fault ≡ other
one_fault (Refuses.no_node e) (Refuses.no_node f) = refl
one_fault (Refuses.no_node e) (Refuses.not_ready f r) = absurd (both_ways _ e f)
one_fault (Refuses.no_node e) (Refuses.no_room f r m) = absurd (both_ways _ e f)
one_fault (Refuses.no_node e) (Refuses.hindered f r m h) = absurd (both_ways _ e f)
one_fault (Refuses.not_ready e r) (Refuses.no_node f) = absurd (both_ways _ f e)
one_fault (Refuses.not_ready e r) (Refuses.not_ready f q) = refl
one_fault (Refuses.not_ready e r) (Refuses.no_room f q m) = absurd (r q)
one_fault (Refuses.not_ready e r) (Refuses.hindered f q m h) = absurd (r q)
one_fault (Refuses.no_room e r m) (Refuses.no_node f) = absurd (both_ways _ f e)
one_fault (Refuses.no_room e r m) (Refuses.not_ready f q) = absurd (q r)
one_fault (Refuses.no_room e r m) (Refuses.no_room f q k) = refl
one_fault (Refuses.no_room e r m) (Refuses.hindered f q k h) = absurd (m k)
one_fault (Refuses.hindered e r m h) (Refuses.no_node f) = absurd (both_ways _ f e)
one_fault (Refuses.hindered e r m h) (Refuses.not_ready f q) = absurd (q r)
one_fault (Refuses.hindered e r m h) (Refuses.no_room f q k) = absurd (k m)
one_fault (Refuses.hindered e r m h) (Refuses.hindered f q k g) = one-hindrance h g

no_fault : {b : Begun} {places : ℕ} {waits : Waits} {n : ℕ} {fault : CountFault} → Refuses b places waits n fault → CanGo b waits n → Room b places → ⊥
no_fault (Refuses.no_node e) g m = both_ways _ e g.passes.node
no_fault (Refuses.not_ready e r) g m = r g.passes.ready
no_fault (Refuses.no_room e r k) g m = k m
no_fault (Refuses.hindered e r k h) g m = hinders-blocks h g

one_stop : {b : Begun} {places : ℕ} {waits : Waits} {budget k : ℕ} {stop other : Stop} → Stops b places waits budget k stop → Stops b places waits budget k other → stop ≡ other
one_stop (Stops.finished none) (Stops.finished none') = refl
one_stop (Stops.finished none) (Stops.resting token' unready') = absurd (both_ways _ (none token'.0) token'.1)
one_stop (Stops.finished none) (Stops.held token' ready' idle') = absurd (both_ways _ (none token'.0) token'.1)
one_stop (Stops.finished none) (Stops.spent token' goes' all') = absurd (both_ways _ (none token'.0) token'.1)
one_stop (Stops.finished none) (Stops.full token' goes' left' no-room') = absurd (both_ways _ (none token'.0) token'.1)
one_stop (Stops.resting token unready) (Stops.finished none') = absurd (both_ways _ (none' token.0) token.1)
one_stop (Stops.resting token unready) (Stops.resting token' unready') = refl
one_stop (Stops.resting token unready) (Stops.held token' ready' idle') = absurd (unready ready'.0 ready'.1 ready'.2)
one_stop (Stops.resting token unready) (Stops.spent token' goes' all') = absurd (unready goes'.0 goes'.1.passes.node goes'.1.passes.ready)
one_stop (Stops.resting token unready) (Stops.full token' goes' left' no-room') = absurd (unready goes'.0 goes'.1.passes.node goes'.1.passes.ready)
one_stop (Stops.held token ready idle) (Stops.finished none') = absurd (both_ways _ (none' token.0) token.1)
one_stop (Stops.held token ready idle) (Stops.resting token' unready') = absurd (unready' ready.0 ready.1 ready.2)
one_stop (Stops.held token ready idle) (Stops.held token' ready' idle') = refl
one_stop (Stops.held token ready idle) (Stops.spent token' goes' all') = absurd (idle goes'.0 goes'.1)
one_stop (Stops.held token ready idle) (Stops.full token' goes' left' no-room') = absurd (idle goes'.0 goes'.1)
one_stop (Stops.spent token goes all) (Stops.finished none') = absurd (both_ways _ (none' token.0) token.1)
one_stop (Stops.spent token goes all) (Stops.resting token' unready') = absurd (unready' goes.0 goes.1.passes.node goes.1.passes.ready)
one_stop (Stops.spent token goes all) (Stops.held token' ready' idle') = absurd (idle' goes.0 goes.1)
one_stop (Stops.spent token goes all) (Stops.spent token' goes' all') = refl
one_stop (Stops.spent token goes all) (Stops.full token' goes' left' no-room') = absurd (omega (arith, all, left'))
one_stop (Stops.full token goes left no_room) (Stops.finished none') = absurd (both_ways _ (none' token.0) token.1)
one_stop (Stops.full token goes left no_room) (Stops.resting token' unready') = absurd (unready' goes.0 goes.1.passes.node goes.1.passes.ready)
one_stop (Stops.full token goes left no_room) (Stops.held token' ready' idle') = absurd (idle' goes.0 goes.1)
one_stop (Stops.full token goes left no_room) (Stops.spent token' goes' all') = absurd (omega (arith, all', left))
one_stop (Stops.full token goes left no_room) (Stops.full token' goes' left' no-room') = refl

no_stop : {b : Begun} {places : ℕ} {waits : Waits} {budget k n : ℕ} {stop : Stop} → Stops b places waits budget k stop → GoesOn b places waits budget k n → ⊥
no_stop (Stops.finished none) g = both_ways _ (none g.token.0) g.token.1
no_stop {n = n} (Stops.resting token unready) g = unready n g.lowest.goes.passes.node g.lowest.goes.passes.ready
no_stop {n = n} (Stops.held token ready idle) g = idle n g.lowest.goes
no_stop (Stops.spent token goes all) g = omega (arith, all, g.budgeted)
no_stop (Stops.full token goes left no_room) g = no_room g.room

err-ok : {X : Type 0} {Y : Type 0} (f : Y) (x : X) → ◌≡◌ {A = Result X Y} (Err f) (Ok x) → ⊥
err-ok f x e = let differ : ◌≡◌ {A = ℕ} 0 1 = cc in omega arith

err-same : {X : Type 0} {Y : Type 0} (f g : Y) → ◌≡◌ {A = Result X Y} (Err f) (Err g) → f ≡ g
err-same f g e = cc

one_refusal : {b : Begun} {n : ℕ} {fault other : CountFault} → NoReason b n fault → NoReason b n other → fault ≡ other
one_refusal (NoReason.no_gateway e) (NoReason.no_gateway f) = err-same {X = Unit {0}} _ _ (sym e ∙ f)
one_refusal (NoReason.no_gateway e) (NoReason.ready f r) = absurd (err-ok _ _ (sym e ∙ f))
one_refusal (NoReason.no_gateway e) (NoReason.no_token f r t) = absurd (err-ok _ _ (sym e ∙ f))
one_refusal (NoReason.ready e r) (NoReason.no_gateway f) = absurd (err-ok _ _ (sym f ∙ e))
one_refusal (NoReason.ready e r) (NoReason.ready f q) = refl
one_refusal (NoReason.ready e r) (NoReason.no_token f q t) = absurd (q r)
one_refusal (NoReason.no_token e r t) (NoReason.no_gateway f) = absurd (err-ok _ _ (sym f ∙ e))
one_refusal (NoReason.no_token e r t) (NoReason.ready f q) = absurd (r q)
one_refusal (NoReason.no_token e r t) (NoReason.no_token f q u) = refl

pub one-verdict : OneVerdict
one-verdict =
    record {
      one_fault = λ b places waits n fault other r s. one_fault r s;
      no_fault = λ b places waits n fault g m r. no_fault r g m;
      one_stop = λ b places waits budget k stop other s t. one_stop s t;
      one_node = λ b places waits budget k n m g h. lowest-same (CanGo b waits) n m g.lowest.goes g.lowest.lowest h.lowest.goes h.lowest.lowest;
      no_stop = λ b places waits budget k n stop g s. no_stop s g;
      one_refusal = λ b n fault other r s. one_refusal r s;
    }
