-- What a gateway that chooses puts tokens on, from the set of the flows whose conditions hold and the set of its defaults.
use Rattle.std.proofs.Common.{◌≡◌, ℕ, zero, suc, ◌<◌, ◌≤◌, Bool, true, false, eqb, ◌⊎◌, List, length, ℤ, Decides, sym, refl, ap, ◌∙◌, subst, inl, inr, ⊎_elim, arith}
use Rattle.std.proofs.lemmas.Bool.{eqb-true, eq-eqb, lt-leb, cases_order, both_ways, false≢true}
use Rattle.process.specs.declared.flow.Flow.{Flow}
use Rattle.process.specs.declared.node.Kind.{Kind}
use Rattle.process.specs.declared.node.Kind.TheVariants as kinds
use Rattle.process.specs.declared.sets.FlowSet.{FlowSet}
use Rattle.process.specs.Sets.{has, is_none, just, Next}
use Rattle.process.proofs.Membership.{has_one, none-in-zero, some_in}
use Rattle.model.specs.Rules.{kind_at, outgoing, chooses}
use Rattle.paths.specs.Paths.{Outgoing}
use Rattle.choice.specs.Choices.{choosing, Open, NoneOpen, FirstOpen, IsDefault, Fallback, Chosen, GetsBy, NoWayOn, SomeWay}

-- ---- the set of the flows whose conditions hold

module _ (flows : List Flow) (figures : List ℤ) (n : ℕ) (held : FlowSet) (opens : (f : ℕ) → Decides (has held f) (Open flows figures n f)) where
  -- it has none of the numbers of a flow
  pub none_open : length flows ≤ 64 → ((f : ℕ) → 0 < f → f ≤ 64 → has held f ≡ false) → NoneOpen flows figures n
  none_open few none f o = both_ways _ (none f o.0.0.0 (omega (arith, few, o.0.0.1))) ((opens f).1 o)

  -- it is empty
  pub none-open-all : is_none held ≡ true → NoneOpen flows figures n
  none-open-all z f o = both_ways _ (none-in-zero held z f) ((opens f).1 o)

  -- its lowest flow is the first whose condition holds
  first-open : (f : ℕ) → Next held 0 f → FirstOpen flows figures n f
  first-open f next = ((opens f).0 next.member, λ k l o. both_ways _ (next.first k o.0.0.0 l) ((opens k).1 o))

  -- there is only one first flow
  only-first : (f k : ℕ) → FirstOpen flows figures n f → FirstOpen flows figures n k → k ≡ f
  only-first f k p q = ⊎_elim (λ e. e) (λ o. absurd (⊎_elim (λ l. p.1 k l q.0) (λ l. q.1 f l p.0) o)) (cases_order k f)

  -- what an exclusive gateway puts a token on, if some condition holds
  pub exclusive-first : (f : ℕ) (put : FlowSet) → Next held 0 f → put ≡ just f → (k : ℕ) → Decides (has put k) (Chosen kinds.Exclusive flows figures n k)
  exclusive-first f put next e k = (
    λ h. inl (subst (FirstOpen flows figures n) (sym (eqb-true k f (sym member ∙ h))) first),
    λ p. member ∙ eq-eqb k f (⊎_elim (only-first f k first) (λ b. absurd (b.1 f first.0)) p),
  )
    where
      first : FirstOpen flows figures n f
      first = first-open f next

      member : has put k ≡ eqb k f
      member = ap (λ (s : FlowSet). has s k) e ∙ has_one f k next.higher next.range

  -- what an inclusive gateway puts a token on, if some condition holds
  pub inclusive-open : is_none held ≡ false → (k : ℕ) → Decides (has held k) (Chosen kinds.Inclusive flows figures n k)
  inclusive-open z k =
      let some = some_in held z in (
        λ h. inl ((opens k).0 h),
        λ p. ⊎_elim (opens k).1 (λ b. absurd (b.1 some.0 ((opens some.0).0 some.1))) p,
      )

-- ---- no condition holds

-- the default gets the token; P is what the gateway takes where some condition holds
pub fallback : (P : ℕ → Type 0) (flows : List Flow) (figures : List ℤ) (n : ℕ) (put : FlowSet) → ((f : ℕ) → P f → Open flows figures n f) → NoneOpen flows figures n
    → ((f : ℕ) → Decides (has put f) (IsDefault flows n f)) → (f : ℕ) → Decides (has put f) (P f ⊎ Fallback flows figures n f)
fallback P flows figures n put is_open none defaults f = (
  λ h. inr ((defaults f).0 h, none),
  λ p. ⊎_elim (λ q. absurd (none f (is_open f q))) (λ b. (defaults f).1 b.0) p,
)

-- ---- a node and the flows that it puts tokens on

-- a node with fewer than two outgoing flows does not choose
pub few-not-choosing : (kind : Kind) (k : ℕ) → k < 2 → chooses kind k ≡ false
few-not-choosing kinds.Start k h = refl
few-not-choosing kinds.End k h = refl
few-not-choosing (kinds.Task x) k h = refl
few-not-choosing kinds.Exclusive k h = lt-leb 2 k h
few-not-choosing kinds.Parallel k h = refl
few-not-choosing kinds.Inclusive k h = lt-leb 2 k h

-- the node chooses, and `put` has what it chooses
pub record Choice (nodes : List Kind) (flows : List Flow) (figures : List ℤ) (n : ℕ) (put : FlowSet) : Type 0 where
  pub chooses_one : choosing nodes flows n ≡ true
  pub right : (f : ℕ) → Decides (has put f) (Chosen (kind_at nodes n) flows figures n f)

module _ (nodes : List Kind) (flows : List Flow) (figures : List ℤ) (n : ℕ) where
  -- a node that does not choose puts a token on each outgoing flow
  pub way-of-all : (put : FlowSet) → choosing nodes flows n ≡ false → ((f : ℕ) → Decides (has put f) (Outgoing flows n f)) → SomeWay nodes flows figures n put
  way-of-all put no-choice leaves =
      record {
        way = λ w. both_ways _ no-choice w.chooses_one;
        gets = λ f. subst (λ (b : Bool). Decides (has put f) (GetsBy b (kind_at nodes n) flows figures n f)) (sym no-choice) (leaves f);
      }

  -- a choice by the kind of the node, from equal flows
  pub choice-made : (kind : Kind) (same-flows : List Flow) (same-put put : FlowSet) → kind ≡ kind_at nodes n → chooses kind (outgoing flows n) ≡ true
      → same-flows ≡ flows → put ≡ same-put → ((f : ℕ) → Decides (has same-put f) (Chosen kind same-flows figures n f)) → Choice nodes flows figures n put
  choice-made kind same-flows same-put put k two e p d =
      record {
        chooses_one = subst (λ (x : Kind). chooses x (outgoing flows n) ≡ true) k two;
        right = λ f.
            subst (λ (s : FlowSet). Decides (has s f) (Chosen (kind_at nodes n) flows figures n f)) (sym p)
            (subst (λ (x : Kind). Decides (has same-put f) (Chosen x flows figures n f)) k
            (subst (λ (fs : List Flow). Decides (has same-put f) (Chosen kind fs figures n f)) e (d f)));
      }

  -- a flow that is chosen has a condition that holds, or is a default
  chosen-way : (kind : Kind) (f : ℕ) → Chosen kind flows figures n f → Open flows figures n f ⊎ IsDefault flows n f
  chosen-way kinds.Start f p = absurd p
  chosen-way kinds.End f p = absurd p
  chosen-way (kinds.Task x) f p = absurd p
  chosen-way kinds.Exclusive f p = ⊎_elim (λ q. inl q.0) (λ b. inr b.0) p
  chosen-way kinds.Parallel f p = absurd p
  chosen-way kinds.Inclusive f p = ⊎_elim inl (λ b. inr b.0) p

  -- where no flow is the first whose condition holds, no condition holds
  no-first : ((f : ℕ) → FirstOpen flows figures n f → ⊥) → (m f : ℕ) → f < m → Open flows figures n f → ⊥
  no-first none zero f l o = omega arith
  no-first none (suc m) f l o = none f (o, λ k h. no-first none m k (omega arith))

  -- where a node that chooses chooses nothing, no condition holds
  none-chosen : (kind : Kind) → chooses kind (outgoing flows n) ≡ true → ((f : ℕ) → Chosen kind flows figures n f → ⊥) → NoneOpen flows figures n
  none-chosen kinds.Start t none = absurd (false≢true t)
  none-chosen kinds.End t none = absurd (false≢true t)
  none-chosen (kinds.Task x) t none = absurd (false≢true t)
  none-chosen kinds.Exclusive t none = λ f. no-first (λ k p. none k (inl p)) (suc f) f (omega arith)
  none-chosen kinds.Parallel t none = absurd (false≢true t)
  none-chosen kinds.Inclusive t none = λ f o. none f (inl o)

  -- a default would be chosen then
  default-chosen : (kind : Kind) (f : ℕ) → chooses kind (outgoing flows n) ≡ true → Fallback flows figures n f → Chosen kind flows figures n f
  default-chosen kinds.Start f t b = absurd (false≢true t)
  default-chosen kinds.End f t b = absurd (false≢true t)
  default-chosen (kinds.Task x) f t b = absurd (false≢true t)
  default-chosen kinds.Exclusive f t b = inr b
  default-chosen kinds.Parallel f t b = absurd (false≢true t)
  default-chosen kinds.Inclusive f t b = inr b

  -- something was chosen
  pub way-of-choice : (put : FlowSet) → Choice nodes flows figures n put → is_none put ≡ false → SomeWay nodes flows figures n put
  way-of-choice put choice some =
      record {
        way = λ w.
            let member = some_in put some in
            let f = member.0 in
            ⊎_elim (w.none_open f) (w.no_default f) (chosen-way (kind_at nodes n) f ((choice.right f).0 member.1));
        gets = λ f. subst (λ (b : Bool). Decides (has put f) (GetsBy b (kind_at nodes n) flows figures n f)) (sym choice.chooses_one) (choice.right f);
      }

  -- nothing was chosen
  pub no_way : (put : FlowSet) → Choice nodes flows figures n put → is_none put ≡ true → NoWayOn nodes flows figures n
  no_way put choice empty =
      let kind = kind_at nodes n in
      let none = λ (f : ℕ) (p : Chosen kind flows figures n f). both_ways _ (none-in-zero put empty f) ((choice.right f).1 p) in
      let closed = none-chosen kind choice.chooses_one none in
      record { chooses_one = choice.chooses_one; none_open = closed; no_default = λ f d. none f (default-chosen kind f choice.chooses_one (d, closed)) }
