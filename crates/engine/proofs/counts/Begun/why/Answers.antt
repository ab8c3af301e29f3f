use Rattle.std.proofs.Common.{◌≡◌, ℕ, Decides, sym, refl, ap, ◌∙◌, subst}
use Rattle.std.proofs.lemmas.Result.{err_from_is_err_and}
use Rattle.std.proofs.lemmas.Bool.{both_ways}
use Rattle.process.specs.declared.sets.FlowSet.{FlowSet}
use Rattle.process.specs.Sets.{has, shared}
use Rattle.paths.specs.declared.routing.Routing.{Routing}
use Rattle.paths.specs.Paths.{Inbound, TokenInbound}
use Rattle.paths.specs.Reasons.{Unheld, Explains}
use Rattle.paths.proofs.Holding.{no_token-inbound, some_token-inbound}
use Rattle.engine.specs.Counts.{flows_in, flows_of, tokens_of, IsReady}
use Rattle.engine.specs.Questions.NoReason.{no_gateway, ready, no_token}
use Rattle.engine.proofs.Waiting.{gateway-ready, as-asked}
use Rattle.engine.proofs.counts.Begun.why.Goals as goal

pub returns-in_err-gateway : goal.returns-in_err-gateway
returns-in_err-gateway c =
    let p = err_from_is_err_and c.from_residual.result c.from_residual.ensures.1 in
    rw (p.1, p.2) (no_gateway c.in_err-gateway.ensures, refl)

pub returns-then-is_ready : goal.returns-then-is_ready
returns-then-is_ready c =
    let e = c.in_ok-gateway.ensures in
    (ready e.0 (subst (IsReady c.args.self.now) e.2 (c.is_ready.ensures.0 c.if-is_ready.true)), refl)

-- a set has the inbound flows of node n
abbrev InboundSet : FlowSet → Routing → FlowSet → ℕ → Type 0
InboundSet s r tokens n = (e : ℕ) → Decides (has s e) (Inbound (flows_in r) n e)

pub returns-then-is_empty : goal.returns-then-is_empty
returns-then-is_empty c =
    let e = c.in_ok-gateway.ensures in
    let b = c.args.self.now in
    let unready = subst (λ (k : ℕ). IsReady b k → ⊥) e.2 (λ r. both_ways _ c.if-is_ready.false (c.is_ready.ensures.1 r)) in
    let inbound = as-asked (InboundSet c.inbound.result) c.routing-routing.ensures c.tokens-tokens.ensures e.2 c.inbound.ensures in
    let both : c.intersection.result ≡ shared c.inbound.result (tokens_of b) = c.intersection.ensures ∙ ap (shared c.inbound.result) c.tokens-tokens.ensures in
    (no_token e.0 unready (no_token-inbound (flows_of b) (tokens_of b) c.args.node c.inbound.result c.intersection.result inbound both (sym c.if-is_empty.ensures)), refl)

-- what is known of a gateway that waits although a token is there
waits-with-token : (c : goal.In_default) → (IsReady c.args.self.now c.args.node → ⊥) × TokenInbound (flows_of c.args.self.now) (tokens_of c.args.self.now) c.args.node
waits-with-token c =
    let e = c.in_ok-gateway.ensures in
    let b = c.args.self.now in
    let inbound = as-asked (InboundSet c.inbound.result) c.routing-routing.ensures c.tokens-tokens.ensures e.2 c.inbound.ensures in
    let both : c.intersection.result ≡ shared c.inbound.result (tokens_of b) = c.intersection.ensures ∙ ap (shared c.inbound.result) c.tokens-tokens.ensures in (
      subst (λ (k : ℕ). IsReady b k → ⊥) e.2 (λ r. both_ways _ c.if-is_ready.false (c.is_ready.ensures.1 r)),
      some_token-inbound (flows_of b) (tokens_of b) c.args.node c.inbound.result c.intersection.result inbound both (sym c.if-is_empty.ensures),
    )

pub unreachable-requires : goal.unreachable-requires
unreachable-requires c =
    let e = c.in_ok-gateway.ensures in
    let w = waits-with-token c in
    let none = as-asked (λ (r : Routing) (tokens : FlowSet) (n : ℕ). Unheld (flows_in r) tokens n c.args.list.now c.why.new.list) c.routing-routing.ensures c.tokens-tokens.ensures e.2 c.in_default.ensures in
    w.0 (gateway-ready c.args.self.now c.args.node e.1 w.1 none.none)

pub returns : goal.returns
returns c =
    let e = c.in_ok-gateway.ensures in
    let b = c.args.self.now in
    let inbound = as-asked (InboundSet c.inbound.result) c.routing-routing.ensures c.tokens-tokens.ensures e.2 c.inbound.ensures in
    let both : c.intersection.result ≡ shared c.inbound.result (tokens_of b) = c.intersection.ensures ∙ ap (shared c.inbound.result) c.tokens-tokens.ensures in
    record {
      gateway = e.0;
      not_ready = subst (λ (k : ℕ). IsReady b k → ⊥) e.2 (λ r. both_ways _ c.if-is_ready.false (c.is_ready.ensures.1 r));
      token = some_token-inbound (flows_of b) (tokens_of b) c.args.node c.inbound.result c.intersection.result inbound both (sym c.if-is_empty.ensures);
      reason = as-asked (λ (r : Routing) (tokens : FlowSet) (n : ℕ). Explains (flows_in r) tokens n c.args.list.now c.why.new.list c.in-Some.reason) c.routing-routing.ensures c.tokens-tokens.ensures e.2 c.in-Some.ensures;
    }
