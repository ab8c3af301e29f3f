use Rattle.std.proofs.Common.{◌∙◌}
use Rattle.model.proofs.Reaching.{successors-count}
use Rattle.model.proofs.reached.NodesGraph.degree.Goals as goal

pub returns : goal.returns
returns c = c.outgoing.ensures ∙ successors-count c.args.self.now.flows.now c.args.node
