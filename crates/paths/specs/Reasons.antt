-- What `why` answers, and what it leaves in the list.
use Rattle.std.specs.Prelude.{◌≡◌, ℕ, ◌<◌, ◌≤◌, false, List, take, drop}
use Rattle.process.specs.declared.flow.Flow.{Flow}
use Rattle.process.specs.declared.sets.FlowSet.{FlowSet}
use Rattle.process.specs.Sets.{has}
use Rattle.paths.specs.declared.reason.Reason.{Reason}
use Rattle.paths.specs.Paths.{Inbound, Reaches, HoldsBack, Why}

-- The flow e is the lowest empty inbound flow of g that f reaches.
pub record LowestEnd (flows : List Flow) (tokens : FlowSet) (g f e : ℕ) : Type 0 where
  pub inbound : Inbound flows g e
  pub empty : has tokens e ≡ false
  pub reached : Reaches flows g f e
  pub lowest : (k : ℕ) → k < e → Inbound flows g k → has tokens k ≡ false → Reaches flows g f k → ⊥

-- A reason was found: the list begins with its path, and the places behind are as before.
pub record Explains (flows : List Flow) (tokens : FlowSet) (g : ℕ) (before after : List ℕ) (w : Reason) : Type 0 where
  pub few : w.length ≤ 64
  pub why : Why flows tokens g w.holder w.end (take w.length after)
  pub rest : drop w.length after ≡ drop w.length before

-- No flow holds g back, and the list is as before.
pub record Unheld (flows : List Flow) (tokens : FlowSet) (g : ℕ) (before after : List ℕ) : Type 0 where
  pub none : (f : ℕ) → HoldsBack flows tokens g f → ⊥
  pub unchanged : after ≡ before
