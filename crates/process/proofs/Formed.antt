-- A well formed process stays so with one node or flow more.
use Rattle.std.proofs.Common.{◌≡◌, ℕ, ◌+◌, ◌<◌, ◌≤◌, Bool, true, false, cond, not, ◌&&◌, eqb, ltb, leb, Ok, Err, List, [], ◌∷◌, ◌++◌, length, refl, ◌∙◌, arith, length-append}
use Rattle.std.proofs.lemmas.Bool.{leb-true, leb-false, le-leb, lt-ltb, and_parts, and_from, cond-true}
use Rattle.fault.specs.declared.line.LineFault.TheVariants.{Sequence, TooMany}
use Rattle.process.specs.declared.flow.Flow.{Flow}
use Rattle.process.specs.declared.node.Kind.{Kind}
use Rattle.process.specs.Drafts.{next_check}
use Rattle.process.specs.Processes.{is_node, kind_in_range, guard_in_range, flow_formed, kinds_in_range, flows_formed, well_formed}

kinds-push : (ks : List Kind) (k : Kind) → kinds_in_range ks ≡ true → kind_in_range k ≡ true → kinds_in_range (ks ++ k ∷ []) ≡ true
kinds-push [] k a b = and_from _ _ b refl
kinds-push (j ∷ js) k a b = let p = and_parts (kind_in_range j) (kinds_in_range js) a in and_from _ _ p.0 (kinds-push js k p.1 b)

node-more : (nodes : List Kind) (k : Kind) (n : ℕ) → is_node nodes n ≡ true → is_node (nodes ++ k ∷ []) n ≡ true
node-more nodes k n h =
    let p = and_parts (leb 1 n) (leb n (length nodes)) h in
    let low = leb-true n (length nodes) p.1 in
    let most : n ≤ length (nodes ++ k ∷ []) = omega (arith, length-append nodes (k ∷ [])) in
    and_from _ _ p.0 (le-leb n (length (nodes ++ k ∷ [])) most)

flows-stay : (nodes : List Kind) (k : Kind) (fs : List Flow) → flows_formed nodes fs ≡ true → flows_formed (nodes ++ k ∷ []) fs ≡ true
flows-stay nodes k [] h = refl
flows-stay nodes k (f ∷ fs) h =
    let p = and_parts (flow_formed nodes f) (flows_formed nodes fs) h in
    let q = and_parts (is_node nodes f.from) (is_node nodes f.to && guard_in_range f.guard) p.0 in
    let r = and_parts (is_node nodes f.to) (guard_in_range f.guard) q.1 in
    and_from _ _ (and_from _ _ (node-more nodes k f.from q.0) (and_from _ _ (node-more nodes k f.to r.0) r.1)) (flows-stay nodes k fs p.1)

flows-push : (nodes : List Kind) (fs : List Flow) (f : Flow) → flows_formed nodes fs ≡ true → flow_formed nodes f ≡ true → flows_formed nodes (fs ++ f ∷ []) ≡ true
flows-push nodes [] f a b = and_from _ _ b refl
flows-push nodes (e ∷ es) f a b = let p = and_parts (flow_formed nodes e) (flows_formed nodes es) a in and_from _ _ p.0 (flows-push nodes es f p.1 b)

module _ (number : ℕ) (nodes : List Kind) (flows : List Flow) (h : well_formed number nodes flows ≡ true) where
  pub formed-node : (k : Kind) → kind_in_range k ≡ true → well_formed number (nodes ++ k ∷ []) flows ≡ true
  formed-node k b =
      let p = and_parts _ _ h in
      let q = and_parts (kinds_in_range nodes) (flows_formed nodes flows) p.1 in
      and_from _ _ p.0 (and_from _ _ (kinds-push nodes k q.0 b) (flows-stay nodes k flows q.1))

  pub formed-flow : (f : Flow) → flow_formed nodes f ≡ true → well_formed number nodes (flows ++ f ∷ []) ≡ true
  formed-flow f b =
      let p = and_parts _ _ h in
      let q = and_parts (kinds_in_range nodes) (flows_formed nodes flows) p.1 in
      and_from _ _ p.0 (and_from _ _ q.0 (flows-push nodes flows f q.1 b))

-- a push that finds room puts the item behind the others
pub pushed : {X : Type 0} (xs ys : List X) (x : X) (n : ℕ) (r : Bool) → r ≡ ltb (length xs) n → length xs < n → ys ≡ cond r (xs ++ x ∷ []) xs → ys ≡ xs ++ x ∷ []
pushed xs ys x n r told room after = after ∙ cond-true r (xs ++ x ∷ []) xs (told ∙ lt-ltb (length xs) n room)

-- an item that may come next finds room
pub next-room : (most count line n : ℕ) (u : Unit {0}) → Ok u ≡ next_check most count line n → count < most
next-room most count line n u e = by (leb most count) refl e
  where
    by : (b : Bool) → leb most count ≡ b → Ok u ≡ cond b (Err (TooMany line)) (cond (not (eqb n (count + 1))) (Err (Sequence line)) (Ok tt)) → count < most
    by true t r = absurd cc
    by false t r = leb-false most count t
