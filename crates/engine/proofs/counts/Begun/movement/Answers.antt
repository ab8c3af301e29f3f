use Rattle.std.proofs.Common.{◌≡◌, ℕ, ◌<◌, Option, sym, ap, ◌∙◌, subst, MatchOption}
use Rattle.std.proofs.lemmas.Bool.{both_ways}
use Rattle.std.proofs.lemmas.Result.{err_from_is_err_and}
use Rattle.fault.specs.declared.count.CountFault.TheVariants as faults
use Rattle.fault.specs.declared.service.ServiceFault.TheVariants as services
use Rattle.process.specs.declared.sets.FlowSet.{FlowSet}
use Rattle.process.specs.Sets.{shared, without}
use Rattle.paths.specs.declared.routing.Routing.{Routing}
use Rattle.paths.specs.Routings.{model_of}
use Rattle.paths.proofs.Nodes.{flows-few}
use Rattle.choice.specs.Choices.{NoWayOn, SomeWay}
use Rattle.engine.specs.Counts.{routing_of, nodes_of, flows_of, tokens_of, figures_of, nodes_in, flows_in}
use Rattle.engine.specs.Lines.{Occupied}
use Rattle.engine.specs.Steps.{Unanswered, Hinders}
use Rattle.engine.specs.Steps.Hinders.{unanswered, no_way, occupied}
use Rattle.engine.proofs.Moves.{lowest-left, no_way-told}
use Rattle.engine.proofs.counts.Begun.movement.Goals as goal

pub returns-then-lacks_answer : goal.returns-then-lacks_answer
returns-then-lacks_answer g c =
    let b = c.args.self.now in
    let w = g.S.Service.waits c.args.service.now in
    subst (λ (k : ℕ). Hinders b w c.args.node (faults.Service (services.NoAnswer k) b.instance)) (sym c.from-number.ensures)
    (unanswered (c.lacks_answer.ensures.0 c.if-lacks_answer.true))

pub returns-in_err-put : goal.returns-in_err-put
returns-in_err-put g c =
    let b = c.args.self.now in
    let w = g.S.Service.waits c.args.service.now in
    let waits-none = λ (u : Unanswered b w c.args.node). both_ways _ c.if-lacks_answer.false (c.lacks_answer.ensures.1 u) in
    let p = err_from_is_err_and c.from_residual.result c.from_residual.ensures.1 in
    let refused = no_way-told c.puts.result _ _ c.in_err-put.ensures.value in
    let none = subst (λ (r : Routing). NoWayOn (nodes_in r) (flows_in r) (figures_of b) c.args.node) c.routing.ensures (rw refused.0 at c.puts.ensures) in
    rw (p.1, p.2, refused.1) (subst (λ (k : ℕ). Hinders b w c.args.node (faults.NoWay k b.instance)) (sym c.from-number.ensures) (no_way waits-none none))

pub returns-in-Some : goal.returns-in-Some
returns-in-Some g c =
    let b = c.args.self.now in
    let w = g.S.Service.waits c.args.service.now in
    let n = c.args.node in
    let waits-none = λ (u : Unanswered b w n). both_ways _ c.if-lacks_answer.false (c.lacks_answer.ensures.1 u) in
    let way = subst (λ (r : Routing). SomeWay (nodes_in r) (flows_in r) (figures_of b) n c.in_ok-put.put) c.routing.ensures (rw c.in_ok-put.ensures.ok_part at c.puts.ensures) in
    let is-left : c.intersection-occupied.result ≡ shared (without (tokens_of b) c.takes-taken.result) c.in_ok-put.put =
    c.intersection-occupied.ensures ∙ ap (λ (s : FlowSet). shared s c.in_ok-put.put) (c.difference.ensures ∙ ap (λ (s : FlowSet). without s c.takes-taken.result) c.tokens.ensures) in
    let found = subst (λ (o : Option ℕ). MatchOption o ((f : ℕ) → Occupied (nodes_of b) (flows_of b) (tokens_of b) (figures_of b) n f → ⊥) (λ f. Occupied (nodes_of b) (flows_of b) (tokens_of b) (figures_of b) n f × ((k : ℕ) → k < f → Occupied (nodes_of b) (flows_of b) (tokens_of b) (figures_of b) n k → ⊥))) (sym c.lowest.ensures ∙ c.in-Some.is)
    (lowest-left (nodes_of b) (flows_of b) (flows-few (model_of (routing_of b))) (tokens_of b) (figures_of b) n c.takes-taken.result c.in_ok-put.put c.takes-taken.ensures way.gets c.intersection-occupied.result is-left) in
    occupied waits-none way.way found.0 found.1

pub returns-in-None : goal.returns-in-None
returns-in-None g c =
    let b = c.args.self.now in
    let w = g.S.Service.waits c.args.service.now in
    let n = c.args.node in
    let way = subst (λ (r : Routing). SomeWay (nodes_in r) (flows_in r) (figures_of b) n c.in_ok-put.put) c.routing.ensures (rw c.in_ok-put.ensures.ok_part at c.puts.ensures) in
    let is-left : c.intersection-occupied.result ≡ shared (without (tokens_of b) c.takes-taken.result) c.in_ok-put.put =
    c.intersection-occupied.ensures ∙ ap (λ (s : FlowSet). shared s c.in_ok-put.put) (c.difference.ensures ∙ ap (λ (s : FlowSet). without s c.takes-taken.result) c.tokens.ensures) in
    record {
      answered = λ u. both_ways _ c.if-lacks_answer.false (c.lacks_answer.ensures.1 u);
      way = way.way;
      free = subst (λ (o : Option ℕ). MatchOption o ((f : ℕ) → Occupied (nodes_of b) (flows_of b) (tokens_of b) (figures_of b) n f → ⊥) (λ f. Occupied (nodes_of b) (flows_of b) (tokens_of b) (figures_of b) n f × ((k : ℕ) → k < f → Occupied (nodes_of b) (flows_of b) (tokens_of b) (figures_of b) n k → ⊥))) (sym c.lowest.ensures ∙ c.in-None.is)
          (lowest-left (nodes_of b) (flows_of b) (flows-few (model_of (routing_of b))) (tokens_of b) (figures_of b) n c.takes-taken.result c.in_ok-put.put c.takes-taken.ensures way.gets c.intersection-occupied.result is-left);
      takes = c.takes-taken.ensures;
      puts = way.gets;
    }
