-- What the questions are answered.
use Rattle.std.specs.Prelude.{◌≡◌, ℕ, Bool, true, false, cond, not, List, ℤ, Ok, Err, Decides, Result}
use Rattle.fault.specs.declared.count.CountFault.{CountFault}
use Rattle.fault.specs.declared.count.CountFault.TheVariants as faults
use Rattle.process.specs.declared.node.Kind.{Kind}
use Rattle.process.specs.declared.node.Kind.TheVariants as kinds
use Rattle.process.specs.Processes.{is_figure}
use Rattle.paths.specs.declared.reason.Reason.{Reason}
use Rattle.paths.specs.Paths.{TokenInbound, HoldingNumber}
use Rattle.paths.specs.Reasons.{Explains}
use Rattle.choice.specs.Conditions.{figure}
use Rattle.engine.specs.declared.counts.Begun.{Begun}
use Rattle.engine.specs.Counts.{flows_of, tokens_of, figures_of, has_node, kind_of, IsReady}

-- `figure`: the value now
abbrev pub figure_told : Begun → ℕ → Result ℤ CountFault
figure_told b x = cond (is_figure x) (Ok (figure (figures_of b) x)) (Err (faults.FigureNumber x b.instance))

-- `ready`: exactly whether the node is ready
abbrev pub ReadyTold : Begun → ℕ → Result Bool CountFault → Type 0
ReadyTold b n (Ok t) = (has_node b n ≡ true) × Decides t (IsReady b n)
ReadyTold b n (Err fault) = (has_node b n ≡ false) × (fault ≡ faults.NodeNumber n b.instance)

abbrev pub is_inclusive : Kind → Bool
is_inclusive kinds.Start = false
is_inclusive kinds.End = false
is_inclusive (kinds.Task x) = false
is_inclusive kinds.Exclusive = false
is_inclusive kinds.Parallel = false
is_inclusive kinds.Inclusive = true

-- the model has a node n, and it is an inclusive gateway
abbrev pub gateway_verdict : Begun → ℕ → Result (Unit {0}) CountFault
gateway_verdict b n =
    cond (not (has_node b n)) (Err (faults.NodeNumber n b.instance))
    (cond (not (is_inclusive (kind_of b n))) (Err (faults.NotInclusive n b.instance)) (Ok tt))

-- `holding`: exactly how many flows hold the gateway back
abbrev pub HoldingTold : Begun → ℕ → Result ℕ CountFault → Type 0
HoldingTold b n (Ok k) = (gateway_verdict b n ≡ Ok tt) × HoldingNumber (flows_of b) (tokens_of b) n k
HoldingTold b n (Err fault) = gateway_verdict b n ≡ Err fault

-- why there is no reason to tell: the first that applies
pub data NoReason (b : Begun) (n : ℕ) : CountFault → Type 0 where
  no_gateway : {fault : CountFault} → gateway_verdict b n ≡ Err fault → NoReason b n fault
  ready : gateway_verdict b n ≡ Ok tt → IsReady b n → NoReason b n (faults.Ready n b.instance)
  no_token : gateway_verdict b n ≡ Ok tt → (IsReady b n → ⊥) → (TokenInbound (flows_of b) (tokens_of b) n → ⊥) → NoReason b n (faults.NoToken n b.instance)

-- the gateway waits, and the reason explains why
pub record WaitsFor (b : Begun) (n : ℕ) (before after : List ℕ) (w : Reason) : Type 0 where
  pub gateway : gateway_verdict b n ≡ Ok tt
  pub not_ready : IsReady b n → ⊥
  pub token : TokenInbound (flows_of b) (tokens_of b) n
  pub reason : Explains (flows_of b) (tokens_of b) n before after w

-- `why`: the reason with its path at the front of the list, or a refusal that leaves the list as it was
abbrev pub WhyTold : Begun → ℕ → List ℕ → Result Reason CountFault → List ℕ → Type 0
WhyTold b n before (Ok w) after = WaitsFor b n before after w
WhyTold b n before (Err fault) after = NoReason b n fault × (after ≡ before)
