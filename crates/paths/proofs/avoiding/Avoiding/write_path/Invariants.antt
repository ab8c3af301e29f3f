use Rattle.std.proofs.Common.{◌≡◌, ◌+◌, length, drop}
use Rattle.model.specs.Models.{flows_of}
use Rattle.paths.proofs.Trails.{Trail, written}
use Rattle.paths.proofs.avoiding.Avoiding.write_path.Given as goal

abbrev pub invariant-loop-place : goal.invariant-loop-place
invariant-loop-place l =
    record {
      long : length l.list ≡ 64;
      trail : Trail (flows_of l.self.model.now) l.self.gateway l.from l.end l.place l.flow (written l.list (length l.levels) l.place);
      rest : drop (length l.levels + 1) l.list ≡ drop (length l.levels + 1) l.initial.list;
    }
