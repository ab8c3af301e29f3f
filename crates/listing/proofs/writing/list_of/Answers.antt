use Rattle.std.proofs.Common.{◌≡◌, ◌<◌, List, ℕ, ◌∷◌, ◌++◌, length, sym, ap, ◌∙◌, append_assoc, arith, length-append, []}
use Rattle.process.specs.Left.{left}
use Rattle.process.specs.Rows.{items}
use Rattle.process.specs.Sets.{above}
use Rattle.process.proofs.Formed.{pushed}
use Rattle.process.proofs.Ordered.{above-few}
use Rattle.listing.proofs.writing.list_of.Goals as goal

pub loop-flow-preserved : goal.loop-flow-preserved
loop-flow-preserved c =
    let before = items c.loop-flow.flows in
    let rest = left c.next.new.self in
    let f = c.in-Some.flow in
    let split : before ++ (f ∷ rest) ≡ above c.args.set 0 = ap (λ (fs : List ℕ). before ++ fs) (sym c.in-Some.ensures.steps) ∙ c.loop-flow.invariant in
    let whole = sym (length-append before (f ∷ rest)) ∙ ap length split in
    let few = above-few c.args.set in
    let room : length before < 64 = omega arith in
    ap (λ (fs : List ℕ). fs ++ rest) (pushed before (items c.push.new.self) f 64 c.push.result c.push.ensures.told room c.push.ensures.after) ∙ append_assoc before (f ∷ []) rest ∙ split
