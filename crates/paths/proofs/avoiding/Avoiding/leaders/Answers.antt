use Rattle.std.proofs.Common.{List, sym, ap, ◌∙◌}
use Rattle.process.specs.declared.flow.Flow.{Flow}
use Rattle.process.specs.Numbered.{numbered}
use Rattle.paths.proofs.Nodes.{leaders-some, leaders-gateway, leaders-none}
use Rattle.paths.proofs.avoiding.Avoiding.leaders.Goals as goal
use Rattle.paths.proofs.avoiding.Avoiding.leaders.Goals.{in_default-via-in-Some+else-flow-self, in_default-via-in_default}

pub returns-in-Some : goal.returns-in-Some
returns-in-Some c =
    let n = c.args.flow in
    let told = (c.numbered.ensures ∙ ap (numbered c.flows.result.now) c.from.ensures) ∙ ap (λ (fs : List Flow). numbered fs n) c.flows.ensures.value in
    c.entering.ensures ∙ leaders-some c.args.self.now.model.now c.args.self.now.gateway n c.in-Some.flow (sym c.in-Some.is ∙ told) c.if-flow-self.true

pub returns-in_default : goal.returns-in_default
returns-in_default c =
    let m = c.args.self.now.model.now in
    let g = c.args.self.now.gateway in
    let n = c.args.flow in
    let same = ap (λ (fs : List Flow). numbered fs n) c.flows.ensures.value in
    c.empty.ensures
    ∙ elim c.in_default.branch [
      | in_default-via-in-Some+else-flow-self w ↦ leaders-gateway m g n w.in-Some.flow (sym w.in-Some.is ∙ (c.numbered.ensures ∙ ap (numbered c.flows.result.now) c.from.ensures) ∙ same) w.if-flow-self.false
      | in_default-via-in_default w ↦ leaders-none m g n (w.in_default.ensures ∙ ap (numbered c.flows.result.now) c.from.ensures ∙ same)
    ]
