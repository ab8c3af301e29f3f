use Rattle.std.proofs.Common.{◌≡◌, ℕ, ◌+◌, ◌&&◌, length, sym, ap, ◌∙◌, arith, rules}
use Rattle.std.proofs.lemmas.List.{get_or_read}
use Rattle.process.specs.declared.sets.FlowSet.{FlowSet}
use Rattle.process.specs.Sets.{has}
use Rattle.paths.specs.Links.{chosen}
use Rattle.paths.specs.Routings.{sources_of}
use Rattle.paths.specs.Tables.{row}
use Rattle.paths.proofs.Lookups.{row_at}
use Rattle.paths.proofs.routing.Routing.reached_from.Goals as goal

pub returns : goal.returns
returns c =
    let table = sources_of c.args.self.now in
    let flow = c.args.flow in
    let p = λ (e : ℕ). has c.args.ends e && has (row table e) flow in
    let long : length table ≡ 64 = omega arith in
    c.chosen.ensures p
    (λ i x b within at answers.
    let told : b ≡ (has c.args.ends (i + 1) && has x.now flow) = search rules in
    told ∙ ap (λ (s : FlowSet). has c.args.ends (i + 1) && has s flow) (get_or_read table i x.now within at (record { bits = 0 }) ∙ sym (row_at table i)))
    ∙ ap (chosen p) long
