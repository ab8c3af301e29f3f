-- A process is refused exactly if it is not sound.
use Rattle.std.proofs.Common.{◌≡◌, ℕ, zero, suc, ◌+◌, ◌≤◌, Bool, true, false, cond, eqb, leb, List, [], ◌∷◌, length, Ok, Err, Result, sym, refl, ap, ◌∙◌, ⊎_elim, arith}
use mathlib.Core.HLevel.{⊥_prop}
use mathlib.Core.Logic.{∥∥₁_elim}
use Rattle.std.proofs.lemmas.Bool.{and_parts, and_from, eqb-true, leb-true, eq-eqb, le-leb, cond-true, cases_order}
use Rattle.fault.specs.declared.model.ModelFault.{ModelFault}
use Rattle.fault.specs.declared.model.ModelFault.TheVariants.{StartsAndEnds, FlowCount, SelfLoop, Guard, SecondDefault, NotReached}
use Rattle.process.specs.declared.flow.Flow.{Flow}
use Rattle.process.specs.declared.node.Kind.{Kind}
use Rattle.model.specs.Rules.{how_many, is_start, is_end, ends_right, count_rule, loop_rule, guard_rule, default_rule, checked, next_checked, then, rules_check}
use Rattle.model.specs.Sound.{start_of, CanBeReached, Sound, FirstUnreached, Unsound, TheFault}
use Rattle.model.proofs.Checks.{checked-all}

pub ok-not-err : (f : ModelFault) → ◌≡◌ {A = Result (Unit {0}) ModelFault} (Ok tt) (Err f) → ⊥
ok-not-err f q = let z : ◌≡◌ {A = ℕ} 0 1 = cc in omega arith

same-err : (f g : ModelFault) → ◌≡◌ {A = Result (Unit {0}) ModelFault} (Err f) (Err g) → f ≡ g
same-err f g q = cc

then-parts : (a b : Result (Unit {0}) ModelFault) → then a b ≡ Ok tt → (a ≡ Ok tt) × (b ≡ Ok tt)
then-parts (Ok tt) b e = (refl, e)
then-parts (Err f) b e = absurd (ok-not-err f (sym e))

then-from : (a b : Result (Unit {0}) ModelFault) → a ≡ Ok tt → b ≡ Ok tt → then a b ≡ Ok tt
then-from (Ok tt) b e h = h
then-from (Err f) b e h = e

checked-fine : (rule : ℕ → Bool) (fault : ℕ → ModelFault) (n : ℕ) → ((k : ℕ) → 1 ≤ k → k ≤ n → rule k ≡ true) → checked rule fault n ≡ Ok tt
checked-fine rule fault zero all = refl
checked-fine rule fault (suc n) all =
    ap (next_checked rule fault (suc n)) (checked-fine rule fault n (λ k low high. all k low (omega arith)))
    ∙ cond-true (rule (suc n)) (Ok tt) (Err (fault (suc n))) (all (suc n) (omega arith) (omega arith))

ends-fine : (b : Bool) → ◌≡◌ {A = Result (Unit {0}) ModelFault} (cond b (Ok tt) (Err StartsAndEnds)) (Ok tt) → b ≡ true
ends-fine true e = refl
ends-fine false e = absurd (ok-not-err StartsAndEnds (sym e))

start-there : (ks : List Kind) → 1 ≤ how_many is_start ks → start_of ks ≤ length ks
start-there [] h = absurd (omega arith)
start-there (k ∷ ks) h =
    elim (is_start k) as (λ b. 1 ≤ cond b 1 0 + how_many is_start ks → cond b 1 (suc (start_of ks)) ≤ suc (length ks))
    [ true ↦ λ g. omega arith | false ↦ λ g. omega (arith, start-there ks (omega arith)) ] h

module _ (nodes : List Kind) (flows : List Flow) where
  rules-parts : rules_check nodes flows ≡ Ok tt → (ends_right nodes ≡ true) × (checked (count_rule nodes flows) FlowCount (length nodes) ≡ Ok tt) × (checked (loop_rule flows) SelfLoop (length flows) ≡ Ok tt) × (checked (guard_rule nodes flows) Guard (length flows) ≡ Ok tt) × (checked (default_rule flows) SecondDefault (length flows) ≡ Ok tt)
  rules-parts e =
      let a = then-parts (cond (ends_right nodes) (Ok tt) (Err StartsAndEnds)) _ e in
      let b = then-parts (checked (count_rule nodes flows) FlowCount (length nodes)) _ a.1 in
      let c = then-parts (checked (loop_rule flows) SelfLoop (length flows)) _ b.1 in
      let d = then-parts (checked (guard_rule nodes flows) Guard (length flows)) _ c.1 in
      (ends-fine (ends_right nodes) a.0, b.0, c.0, d.0, d.1)

  pub rules-start : rules_check nodes flows ≡ Ok tt → start_of nodes ≤ length nodes
  rules-start e =
      let p = and_parts (eqb (how_many is_start nodes) 1) (leb 1 (how_many is_end nodes)) (rules-parts e).0 in
      start-there nodes (omega (arith, eqb-true (how_many is_start nodes) 1 p.0))

  pub sound-made : rules_check nodes flows ≡ Ok tt → ((n : ℕ) → 1 ≤ n → n ≤ length nodes → CanBeReached nodes flows n) → Sound nodes flows
  sound-made e all =
      let r = rules-parts e in
      let p = and_parts (eqb (how_many is_start nodes) 1) (leb 1 (how_many is_end nodes)) r.0 in
      record {
        one_start = eqb-true (how_many is_start nodes) 1 p.0;
        some_end = leb-true 1 (how_many is_end nodes) p.1;
        counts = checked-all (count_rule nodes flows) FlowCount (length nodes) r.1;
        loops = checked-all (loop_rule flows) SelfLoop (length flows) r.2;
        guards = checked-all (guard_rule nodes flows) Guard (length flows) r.3;
        defaults = checked-all (default_rule flows) SecondDefault (length flows) r.4;
        reached = all;
      }

  sound-rules : Sound nodes flows → rules_check nodes flows ≡ Ok tt
  sound-rules s =
      then-from _ _ (cond-true (ends_right nodes) (Ok tt) (Err StartsAndEnds) (and_from _ _ (eq-eqb (how_many is_start nodes) 1 s.one_start) (le-leb 1 (how_many is_end nodes) s.some_end)))
      (then-from _ _ (checked-fine (count_rule nodes flows) FlowCount (length nodes) s.counts)
      (then-from _ _ (checked-fine (loop_rule flows) SelfLoop (length flows) s.loops)
      (then-from _ _ (checked-fine (guard_rule nodes flows) Guard (length flows) s.guards)
      (checked-fine (default_rule flows) SecondDefault (length flows) s.defaults))))

  pub unsound-not : (f : ModelFault) → Unsound nodes flows f → ∥ Sound nodes flows ∥₁ → ⊥
  unsound-not f u t = ∥∥₁_elim t ⊥_prop (λ s. ⊎_elim
      (λ e. ok-not-err f (sym (sound-rules s) ∙ e))
      (λ p. let first = p.1.2 in first.missed (s.reached p.1.0 first.low first.high))
      u)

  -- the lowest node that cannot be reached is one
  same-unreached : (m n : ℕ) → FirstUnreached nodes flows m → FirstUnreached nodes flows n → m ≡ n
  same-unreached m n a b =
      ⊎_elim (λ e. e)
      (⊎_elim (λ lt. absurd (a.missed (b.lower m a.low lt))) (λ gt. absurd (b.missed (a.lower n b.low gt))))
      (cases_order m n)

  -- a process has one fault
  pub the-fault : (f : ModelFault) → Unsound nodes flows f → TheFault nodes flows f
  the-fault f u = record {
    broken = u;
    only = λ g v. ⊎_elim
        (λ e. ⊎_elim (λ d. same-err g f (sym d ∙ e)) (λ q. absurd (ok-not-err f (sym q.0 ∙ e))) v)
        (λ p. ⊎_elim
        (λ d. absurd (ok-not-err g (sym p.0 ∙ d)))
        (λ q. q.1.1 ∙ ap NotReached (same-unreached q.1.0 p.1.0 q.1.2 p.1.2) ∙ sym p.1.1)
        v)
        u;
  }
