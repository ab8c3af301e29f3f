use Rattle.std.proofs.Common.{take, refl}
use Rattle.graph.proofs.Holding.{holds-from-contains}
use Rattle.graph.proofs.search.Search.has.Goals as goal

pub returns : goal.returns
returns g c =
    let s = c.args.self.now in
    let p = c.args.place in
    holds-from-contains (λ q. g.P.PartialEq.eq q p) (take s.count s.found.now) p c.contains.result
    (λ q. g.met.P.Same.lawful q p (g.P.PartialEq.eq q p) refl) c.contains.ensures.value
