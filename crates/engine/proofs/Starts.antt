-- The flows that leave the start, collected one by one.
use Rattle.std.proofs.Common.{◌≡◌, ℕ, ◌≤◌, Bool, List, length, Decides, sym, ap, ◌∙◌}
use Rattle.process.specs.declared.flow.Flow.{Flow}
use Rattle.process.specs.declared.node.Kind.{Kind}
use Rattle.process.specs.declared.sets.FlowSet.{FlowSet}
use Rattle.process.specs.Sets.{has}
use Rattle.model.specs.Rules.{kind_at, is_start}
use Rattle.paths.specs.Links.{chosen}
use Rattle.paths.specs.Paths.{source}
use Rattle.paths.proofs.Chosen.{has_chosen, chosen-has}
use Rattle.engine.specs.SetUps.{LeavesStart}

-- whether flow n leaves the start
abbrev pub from_start : List Kind → List Flow → ℕ → Bool
from_start nodes flows n = is_start (kind_at nodes (source flows n))

pub start-decides : (nodes : List Kind) (flows : List Flow) → length flows ≤ 64 → (s : FlowSet) → s ≡ chosen (from_start nodes flows) (length flows) → (f : ℕ) → Decides (has s f) (LeavesStart nodes flows f)
start-decides nodes flows few s e f = (
  λ h. let c = has_chosen (from_start nodes flows) (length flows) f (ap (λ (x : FlowSet). has x f) (sym e) ∙ h) in ((c.0, c.1), c.2),
  λ h. ap (λ (x : FlowSet). has x f) e ∙ chosen-has (from_start nodes flows) (length flows) f few h.0.0 h.0.1 h.1,
)
