-- What a begun count tells of its inclusive gateways.
use Rattle.std.proofs.Common.{◌≡◌, ℕ, Bool, true, false, cond, not, List, take, Ok, Err, Decides, Result, refl, ap, subst, arith}
use Rattle.std.proofs.lemmas.Bool.{both_ways, false≢true}
use Rattle.fault.specs.declared.count.CountFault.{CountFault}
use Rattle.process.specs.declared.node.Kind.{Kind}
use Rattle.paths.specs.declared.reason.Reason.{Reason}
use Rattle.paths.specs.Paths.{PathRule, TokenInbound, HoldingNumber, Why}
use Rattle.service.specs.Waits.{Waits}
use Rattle.history.specs.declared.call.Call.TheVariants as calls
use Rattle.history.specs.declared.call.Count.TheVariants.{Going}
use Rattle.history.specs.declared.call.Reply.{Reply}
use Rattle.history.specs.declared.call.Reply.TheVariants as replies
use Rattle.engine.specs.declared.counts.Begun.{Begun}
use Rattle.engine.specs.declared.line.Line.{Line}
use Rattle.engine.specs.Counts.{nodes_of, flows_of, tokens_of, IsReady}
use Rattle.history.specs.Histories.{Moment, Performed, empty_list}
use Rattle.history.specs.Laws.{Gateway, Told}
use Rattle.marking.specs.Nodes.{ReadyAs}
use Rattle.engine.specs.Questions.{is_inclusive, gateway_verdict, ReadyTold, HoldingTold, NoReason, WhyTold}

-- a node that is there and inclusive is not refused
verdict-ok : (there inclusive : Bool) (e f : CountFault) → there ≡ true → inclusive ≡ true → ◌≡◌ {A = Result (Unit {0}) CountFault} (cond (not there) (Err e) (cond (not inclusive) (Err f) (Ok tt))) (Ok tt)
verdict-ok true true e f p q = refl
verdict-ok true false e f p q = absurd (false≢true q)
verdict-ok false inclusive e f p q = absurd (false≢true p)

module _ (b : Begun) (n : ℕ) (gateway : Gateway (nodes_of b) n) where
  -- a question about an inclusive gateway is not refused
  not-refused : (fault : CountFault) → gateway_verdict b n ≡ Err fault → ⊥
  not-refused fault e =
      let ok : gateway_verdict b n ≡ Ok tt = verdict-ok _ _ _ _ gateway.0 (ap is_inclusive gateway.1) in
      let no : ◌≡◌ {A = ℕ} 0 1 = cc in omega arith

  -- to be ready is to meet the path rule
  meets-rule : IsReady b n ≡ PathRule (flows_of b) (tokens_of b) n
  meets-rule = ap (λ (kind : Kind). ReadyAs kind (flows_of b) (tokens_of b) n) gateway.1

  -- what `ready` replies
  ready-reply : (r : Result Bool CountFault) → ReadyTold b n r → (t : Bool) × (replies.Ready r ≡ replies.Ready (Ok t)) × Decides t (PathRule (flows_of b) (tokens_of b) n)
  ready-reply (Ok t) p = (t, refl, subst (λ (P : Type 0). Decides t P) meets-rule p.1)
  ready-reply (Err fault) p = absurd (both_ways _ p.0 gateway.0)

  -- what `holding` replies
  holding-reply : (r : Result ℕ CountFault) → HoldingTold b n r → (k : ℕ) × (replies.Holding r ≡ replies.Holding (Ok k)) × HoldingNumber (flows_of b) (tokens_of b) n k
  holding-reply (Ok k) p = (k, refl, p.1)
  holding-reply (Err fault) p = absurd (not-refused fault p)

  -- a gateway that waits with an inbound token has a reason
  has-reason : (PathRule (flows_of b) (tokens_of b) n → ⊥) → TokenInbound (flows_of b) (tokens_of b) n → {fault : CountFault} → NoReason b n fault → ⊥
  has-reason waits token (NoReason.no_gateway e) = not-refused _ e
  has-reason waits token (NoReason.ready e r) = waits (subst (λ (P : Type 0). P) meets-rule r)
  has-reason waits token (NoReason.no_token e r none) = none token

  -- what `why` replies
  why-reply : (r : Result Reason CountFault) (list : List ℕ) → (PathRule (flows_of b) (tokens_of b) n → ⊥) → TokenInbound (flows_of b) (tokens_of b) n → WhyTold b n empty_list r list → (w : Reason) × (after : List ℕ) × (replies.Why r list ≡ replies.Why (Ok w) after) × Why (flows_of b) (tokens_of b) n w.holder w.end (take w.length after)
  why-reply (Ok w) list waits token p = (w, list, refl, p.reason.why)
  why-reply (Err fault) list waits token p = absurd (has-reason waits token p.0)

module _ (b : Begun) (journal : List Line) (waits : Waits) where
  -- no call but the question itself is performed, so its reply is that of the count
  ready-told : (n : ℕ) (reply : Reply) (m : Moment) → Gateway (nodes_of b) n → Performed (Moment.at (Going b) journal waits) (calls.Ready n) reply m → (t : Bool) × (reply ≡ replies.Ready (Ok t)) × Decides t (PathRule (flows_of b) (tokens_of b) n)
  ready-told n reply m g (Performed.tells_ready p) = ready-reply b n g _ p
  ready-told n reply m g (Performed.passes_over u) = absurd u

  holding-told : (n : ℕ) (reply : Reply) (m : Moment) → Gateway (nodes_of b) n → Performed (Moment.at (Going b) journal waits) (calls.Holding n) reply m → (k : ℕ) × (reply ≡ replies.Holding (Ok k)) × HoldingNumber (flows_of b) (tokens_of b) n k
  holding-told n reply m g (Performed.tells_holding p) = holding-reply b n g _ p
  holding-told n reply m g (Performed.passes_over u) = absurd u

  why-told : (n : ℕ) (reply : Reply) (m : Moment) → Gateway (nodes_of b) n → (PathRule (flows_of b) (tokens_of b) n → ⊥) → TokenInbound (flows_of b) (tokens_of b) n → Performed (Moment.at (Going b) journal waits) (calls.Why n) reply m → (w : Reason) × (list : List ℕ) × (reply ≡ replies.Why (Ok w) list) × Why (flows_of b) (tokens_of b) n w.holder w.end (take w.length list)
  why-told n reply m g waiting token (Performed.tells_why p) = why-reply b n g _ _ waiting token p
  why-told n reply m g waiting token (Performed.passes_over u) = absurd u

  -- whatever is asked next about an inclusive gateway is told rightly
  pub told-rightly : Told (nodes_of b) (flows_of b) (tokens_of b) (Moment.at (Going b) journal waits)
  told-rightly = record { ready = ready-told; holding = holding-told; why = why-told }
