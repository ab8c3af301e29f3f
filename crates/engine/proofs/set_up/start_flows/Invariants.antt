use Rattle.std.proofs.Common.{◌≡◌}
use Rattle.model.specs.Models.{nodes_of, flows_of}
use Rattle.paths.specs.Links.{chosen}
use Rattle.engine.proofs.Starts.{from_start}
use Rattle.engine.proofs.set_up.start_flows.Given as goal

abbrev pub invariant-loop-place : goal.invariant-loop-place
invariant-loop-place l = l.found ≡ chosen (from_start (nodes_of l.model) (flows_of l.model)) l.place
