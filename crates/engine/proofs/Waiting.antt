-- An inclusive gateway that waits.
use Rattle.std.proofs.Common.{◌≡◌, ℕ, sym, subst}
use Rattle.process.specs.declared.node.Kind.{Kind}
use Rattle.process.specs.declared.node.Kind.TheVariants as kinds
use Rattle.process.specs.declared.sets.FlowSet.{FlowSet}
use Rattle.paths.specs.declared.routing.Routing.{Routing}
use Rattle.paths.specs.Paths.{HoldsBack, TokenInbound}
use Rattle.marking.specs.Nodes.{ReadyAs}
use Rattle.engine.specs.declared.counts.Begun.{Begun}
use Rattle.engine.specs.Counts.{flows_of, tokens_of, kind_of, IsReady}

-- an inclusive gateway with an inbound token that no flow holds back is ready
pub gateway-ready : (b : Begun) (n : ℕ) → kind_of b n ≡ kinds.Inclusive → TokenInbound (flows_of b) (tokens_of b) n → ((f : ℕ) → HoldsBack (flows_of b) (tokens_of b) n f → ⊥) → IsReady b n
gateway-ready b n e token none = subst (λ (k : Kind). ReadyAs k (flows_of b) (tokens_of b) n) (sym e) (record { some_token = token; none_holds = none })

-- what is known of one model, set of tokens and node holds of those that are the same
pub as-asked : (P : Routing → FlowSet → ℕ → Type 0) {r r' : Routing} {s s' : FlowSet} {n n' : ℕ} → r ≡ r' → s ≡ s' → n ≡ n' → P r s n → P r' s' n'
as-asked P {r} {r'} {s} {s'} {n} {n'} p q e h = subst (P r' s') e (subst (λ (t : FlowSet). P r' t n) q (subst (λ (x : Routing). P x s n) p h))
