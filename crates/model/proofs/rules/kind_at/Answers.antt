use Rattle.std.proofs.Common.{refl}
use Rattle.process.specs.declared.node.Kind.TheVariants.{Start}
use Rattle.process.proofs.ByNumber.{looked-up}
use Rattle.model.specs.Rules.{kind_at}
use Rattle.model.proofs.rules.kind_at.Goals as goal

pub returns : goal.returns
returns c = looked-up c.args.nodes.now Start (kind_at c.args.nodes.now) refl (λ k. refl) c.args.node _ _ _ c.from.ensures c.numbered.ensures c.unwrap_or.ensures
