use Rattle.std.proofs.Common.{◌≤◌, sym, ◌∙◌, arith}
use Rattle.std.proofs.lemmas.Bool.{both_ways, and_from, and_parts}
use Rattle.process.specs.Sets.{has}
use Rattle.process.proofs.Ordered.{next-some, next-none}
use Rattle.model.specs.Models.{flows_of}
use Rattle.paths.specs.Links.{leaders}
use Rattle.paths.proofs.Chosen.{leads, led}
use Rattle.paths.proofs.Distance.{before-has}
use Rattle.paths.proofs.Nodes.{flows-few}
use Rattle.paths.proofs.avoiding.Avoiding.flow_before.Goals as goal

pub unreachable-requires : goal.unreachable-requires
unreachable-requires c =
    let flows = flows_of c.args.self.now.model.now in
    let few = flows-few c.args.self.now.model.now in
    let g = c.args.self.now.gateway in
    let n = c.args.flow in
    let m = c.requires.0 in
    let both = c.intersection.result in
    let high : m ≤ 64 = omega (arith, c.requires.1.0.1, few) in
    both_ways _ (next-none both 0 c.in_default.ensures m c.requires.1.0.0 high)
    (before-has flows few g c.args.near c.leaders.result both n m c.leaders.ensures c.intersection.ensures
    ∙ and_from _ _ (led flows few g m n c.requires.1) c.requires.2)

pub returns : goal.returns
returns c =
    let flows = flows_of c.args.self.now.model.now in
    let few = flows-few c.args.self.now.model.now in
    let g = c.args.self.now.gateway in
    let n = c.args.flow in
    let m = c.in-Some.before in
    let both = c.intersection.result in
    let parts =
    and_parts (has (leaders flows g n) m) (has c.args.near m)
    (sym (before-has flows few g c.args.near c.leaders.result both n m c.leaders.ensures c.intersection.ensures)
    ∙ (next-some both 0 m c.in-Some.ensures).member) in
    (leads flows few g m n parts.0, parts.1)
