use Rattle.std.proofs.Common.{◌-◌, length}
use Rattle.process.specs.Rows.{items}
use Rattle.model.specs.Models.{flows_of}
use Rattle.paths.proofs.Distance.{Climb}
use Rattle.paths.proofs.avoiding.Avoiding.levels_below.Given as goal

abbrev pub invariant-loop-level : goal.invariant-loop-level
invariant-loop-level l = Climb (flows_of l.self.model.now) l.self.gateway l.from l.end (items l.levels) l.level

abbrev pub decreases-loop-level : goal.decreases-loop-level
decreases-loop-level l = 64 - length (items l.levels)
