use Rattle.std.proofs.Common.{rules}
use Rattle.fault.specs.declared.model.ModelFault.TheVariants.{FlowCount, SelfLoop, Guard, SecondDefault}
use Rattle.model.specs.Rules.{count_rule, loop_rule, guard_rule, default_rule}
use Rattle.model.proofs.Chains.{counts-asked, loops-asked, guards-asked, defaults-asked}
use Rattle.model.proofs.rules.check_rules.Goals as goal

pub returns-in_err-check : goal.returns-in_err-check
returns-in_err-check c =
    let ns = c.nodes-nodes.result.now in
    let fs = c.flows-flows.result.now in
    let e = c.check.ensures (count_rule ns fs) FlowCount (λ i x r lt is p. counts-asked ns fs i x r lt is (search rules)) (λ i f lt p. search rules) in
    search rules

pub returns-in_err-check-2 : goal.returns-in_err-check-2
returns-in_err-check-2 c =
    let ns = c.nodes-nodes.result.now in
    let fs = c.flows-flows.result.now in
    let e = c.check.ensures (count_rule ns fs) FlowCount (λ i x r lt is p. counts-asked ns fs i x r lt is (search rules)) (λ i f lt p. search rules) in
    let e₂ = c.check-2.ensures (loop_rule fs) SelfLoop (λ i x r lt is p. loops-asked ns fs i x r lt is (search rules)) (λ i f lt p. search rules) in
    search rules

pub returns-in_err-check-3 : goal.returns-in_err-check-3
returns-in_err-check-3 c =
    let ns = c.nodes-nodes.result.now in
    let fs = c.flows-flows.result.now in
    let e = c.check.ensures (count_rule ns fs) FlowCount (λ i x r lt is p. counts-asked ns fs i x r lt is (search rules)) (λ i f lt p. search rules) in
    let e₂ = c.check-2.ensures (loop_rule fs) SelfLoop (λ i x r lt is p. loops-asked ns fs i x r lt is (search rules)) (λ i f lt p. search rules) in
    let e₃ = c.check-3.ensures (guard_rule ns fs) Guard (λ i x r lt is p. guards-asked ns fs i x r lt is (search rules)) (λ i f lt p. search rules) in
    search rules

pub returns : goal.returns
returns c =
    let ns = c.nodes-nodes.result.now in
    let fs = c.flows-flows.result.now in
    let e = c.check.ensures (count_rule ns fs) FlowCount (λ i x r lt is p. counts-asked ns fs i x r lt is (search rules)) (λ i f lt p. search rules) in
    let e₂ = c.check-2.ensures (loop_rule fs) SelfLoop (λ i x r lt is p. loops-asked ns fs i x r lt is (search rules)) (λ i f lt p. search rules) in
    let e₃ = c.check-3.ensures (guard_rule ns fs) Guard (λ i x r lt is p. guards-asked ns fs i x r lt is (search rules)) (λ i f lt p. search rules) in
    let e₄ = c.check-4.ensures (default_rule fs) SecondDefault (λ i x r lt is p. defaults-asked ns fs i x r lt is (search rules)) (λ i f lt p. search rules) in
    search rules
