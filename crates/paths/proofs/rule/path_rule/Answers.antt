use Rattle.std.proofs.Common.{Bool, Decides, sym, ◌∙◌, subst}
use Rattle.std.proofs.lemmas.Bool.{false≢true}
use Rattle.paths.specs.Paths.{PathRule}
use Rattle.paths.specs.Routings.{model_of, flows_of}
use Rattle.paths.proofs.Holding.{no_token-inbound, some_token-inbound, rule-decides, some-holder}
use Rattle.paths.proofs.Nodes.{flows-few}
use Rattle.paths.proofs.rule.path_rule.Goals as goal

pub returns-then-is_empty : goal.returns-then-is_empty
returns-then-is_empty c =
    let none = no_token-inbound (flows_of c.args.routing.now) c.args.tokens c.args.gateway c.inbound.result c.intersection-with_token.result c.inbound.ensures c.intersection-with_token.ensures (sym c.if-is_empty.ensures) in
    record { exact = (λ e. absurd (false≢true e), λ r. absurd (none r.some_token)); held = λ e token. absurd (none token) }

pub returns : goal.returns
returns c =
    let r = c.args.routing.now in
    let flows = flows_of r in
    let tokens = c.args.tokens in
    let g = c.args.gateway in
    let few = flows-few (model_of r) in
    let token = some_token-inbound flows tokens g c.inbound.result c.intersection-with_token.result c.inbound.ensures c.intersection-with_token.ensures (sym c.if-is_empty.ensures) in
    let none = c.is_empty-2.ensures in
    record {
      exact = subst (λ (b : Bool). Decides b (PathRule flows tokens g)) (sym none) (rule-decides flows few tokens g c.holders.result c.holders.ensures token);
      held = λ e _. some-holder flows few tokens g c.holders.result c.holders.ensures (sym none ∙ e);
    }
