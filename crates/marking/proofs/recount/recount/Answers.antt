use Rattle.std.proofs.Common.{ℕ, ◌+◌, arith, rules}
use Rattle.process.proofs.Bounds.{few_nodes}
use Rattle.process.proofs.Filled.{filled}
use Rattle.model.specs.Models.{draft_of, nodes_of}
use Rattle.paths.specs.Routings.{model_of, flows_of}
use Rattle.marking.specs.Kept.{Counted}
use Rattle.marking.proofs.Numbers.{kept-everywhere}
use Rattle.marking.proofs.recount.recount.Goals as goal

pub returns : goal.returns
returns c =
    let r = c.args.routing.now in
    let numbers = c.from_fn.result in
    let P = λ (i k : ℕ). Counted (nodes_of (model_of r)) (flows_of r) c.args.tokens (i + 1) k in
    let each = filled _ P _ (λ i y q h. search rules) 40 0 numbers c.from_fn.ensures.items.each in
    kept-everywhere (nodes_of (model_of r)) (few_nodes (draft_of (model_of r))) (flows_of r) c.args.tokens numbers c.from_fn.ensures.items.long
    (λ i low. each i 0 (omega arith) low)
