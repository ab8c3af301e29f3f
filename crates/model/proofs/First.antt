-- The process of a new place is sound.
use Rattle.std.proofs.Common.{◌≡◌, ℕ, zero, suc, ◌≤◌, List, [], ◌∷◌, Ok, Err, Result, refl, ap, ◌∙◌, subst, inl, arith}
use Rattle.fault.specs.declared.line.LineFault.{LineFault}
use Rattle.fault.specs.declared.model.ModelFault.{ModelFault}
use Rattle.graph.specs.Reach.{start, step}
use Rattle.process.specs.declared.draft.Draft.{Draft}
use Rattle.process.specs.declared.flow.Flow.{Flow}
use Rattle.process.specs.declared.flow.Guard.{Guard}
use Rattle.process.specs.declared.flow.Guard.TheVariants.{Plain}
use Rattle.process.specs.declared.node.Kind.{Kind}
use Rattle.process.specs.declared.node.Kind.TheVariants.{Start, End}
use Rattle.process.specs.Drafts.{number_of, nodes_of, flows_of, NodeAdded, FlowAdded}
use Rattle.process.specs.Processes.{node_added, flow_added}
use Rattle.model.specs.Models.{first_nodes, first_flows}
use Rattle.model.specs.Sound.{CanBeReached, Sound, Unsound}
use Rattle.model.proofs.Judging.{sound-made, unsound-not}

pub node-came : (d d' : Draft) (line n : ℕ) (k : Kind) (ns : List Kind) (r : Result (Unit {0}) LineFault) → NodeAdded d line n k r d' → node_added (nodes_of d) line n k ≡ Ok ns → (number_of d' ≡ number_of d) × (nodes_of d' ≡ ns) × (flows_of d' ≡ flows_of d)
node-came d d' line n k ns (Ok u) h e = let same : nodes_of d' ≡ ns = let f = h.0 in cc in (h.1, same, h.2)
node-came d d' line n k ns (Err f) h e = let z : ◌≡◌ {A = ℕ} 0 1 = let g = h.0 in cc in absurd (omega arith)

pub flow-came : (d d' : Draft) (line n a b : ℕ) (g : Guard) (fs : List Flow) (r : Result (Unit {0}) LineFault) → FlowAdded d line n a b g r d' → flow_added (nodes_of d) (flows_of d) line n a b g ≡ Ok fs → (number_of d' ≡ number_of d) × (nodes_of d' ≡ nodes_of d) × (flows_of d' ≡ fs)
flow-came d d' line n a b g fs (Ok u) h e = let same : flows_of d' ≡ fs = let f = h.0 in cc in (h.1, h.2, same)
flow-came d d' line n a b g fs (Err f) h e = let z : ◌≡◌ {A = ℕ} 0 1 = let q = h.0 in cc in absurd (omega arith)

first-reached : (n : ℕ) → 1 ≤ n → n ≤ 2 → CanBeReached first_nodes first_flows n
first-reached zero low high = absurd (omega arith)
first-reached (suc zero) low high = start (inl refl)
first-reached (suc (suc zero)) low high = step (start (inl refl)) (inl refl)
first-reached (suc (suc (suc n))) low high = absurd (omega arith)

pub first-sound : Sound first_nodes first_flows
first-sound = sound-made first_nodes first_flows refl first-reached

-- the three steps that make it
pub first_made : (d d₁ d₂ d₃ : Draft) (r₁ r₂ r₃ : Result (Unit {0}) LineFault) → (number_of d ≡ 1) × (nodes_of d ≡ []) × (flows_of d ≡ []) → NodeAdded d 0 1 Start r₁ d₁ → NodeAdded d₁ 0 2 End r₂ d₂ → FlowAdded d₂ 0 1 1 2 Plain r₃ d₃ → (number_of d₃ ≡ 1) × (nodes_of d₃ ≡ first_nodes) × (flows_of d₃ ≡ first_flows)
first_made d d₁ d₂ d₃ r₁ r₂ r₃ s a b f =
    let p = node-came d d₁ 0 1 Start (Start ∷ []) r₁ a (ap (λ ns. node_added ns 0 1 Start) s.1) in
    let q = node-came d₁ d₂ 0 2 End first_nodes r₂ b (ap (λ ns. node_added ns 0 2 End) p.1) in
    let none : flows_of d₂ ≡ [] = q.2 ∙ p.2 ∙ s.2 in
    let t = flow-came d₂ d₃ 0 1 1 2 Plain first_flows r₃ f (λ i. flow_added (q.1 i) (none i) 0 1 1 2 Plain) in
    (t.0 ∙ q.0 ∙ p.0 ∙ s.0, t.1 ∙ q.1, t.2)

pub first-kept : (f : ModelFault) (nodes : List Kind) (flows : List Flow) → nodes ≡ first_nodes → flows ≡ first_flows → Unsound nodes flows f → ⊥
first-kept f nodes flows a b u =
    unsound-not first_nodes first_flows f (subst (λ (fs : List Flow). Unsound first_nodes fs f) b (subst (λ (ns : List Kind). Unsound ns flows f) a u)) ∣ first-sound ∣₁
