-- The flows that hold a gateway back, from the tables.
use Rattle.std.proofs.Common.{◌≡◌, ℕ, ◌+◌, ◌<◌, ◌≤◌, Bool, true, false, not, ◌&&◌, ◌⊎◌, ◌↔◌, List, [], ◌∷◌, length, Decides, sym, refl, ap, ◌∙◌, subst, inl, inr, ⊎_elim, arith}
use Rattle.std.proofs.lemmas.Bool.{cases_Bool, cases_eq, both_ways, and_parts, and_from, or_cases, or_left, or_right, not-true, not_from_false}
use Rattle.graph.specs.Reach.{Holds}
use Rattle.process.specs.declared.flow.Flow.{Flow}
use Rattle.process.specs.declared.sets.FlowSet.{FlowSet}
use Rattle.process.specs.Sets.{has, no_flows, joined, shared, without, is_none, above, tally}
use Rattle.process.proofs.Membership.{has-no_flows, has-joined, has-shared, has-without, none-in-zero, some_in}
use Rattle.paths.specs.Paths.{IsFlow, Inbound, Reaches, HoldsBack, TokenInbound, PathRule, HoldingNumber}
use Rattle.paths.specs.Tables.{at_place, row, Sources, LeadsTo}
use Rattle.paths.proofs.Backwards.{above-has, above_holds, above-range}
use Rattle.paths.proofs.Counts.{number-from-tally, tally-above}
use Rattle.paths.proofs.Lookups.{row_at}
use Rattle.paths.proofs.Walks.{reaching-flow}

-- ---- the sets of some flows, joined in the order of their numbers

module _ (table : List FlowSet) (ends : FlowSet) where
  pub lead-none : (found : FlowSet) → found ≡ no_flows → (f : ℕ) → Decides (has found f) (LeadsTo table ends 0 f)
  lead-none found e f = (λ h. absurd (both_ways _ (has-no_flows f) (ap (λ (s : FlowSet). has s f) (sym e) ∙ h)), λ p. absurd (omega (arith, p.1, p.2)))

  lead-on : (i f : ℕ) → LeadsTo table ends i f → LeadsTo table ends (i + 1) f
  lead-on i f p = (p.0, p.1, omega (arith, p.2), p.3, p.4)

  lead-split : (i f : ℕ) → LeadsTo table ends (i + 1) f → LeadsTo table ends i f ⊎ ((has ends (i + 1) ≡ true) × (has (at_place table i) f ≡ true))
  lead-split i f p =
      ⊎_elim (λ e. inr (ap (has ends) (sym e) ∙ p.3, ap (λ (s : FlowSet). has s f) (sym (row_at table i) ∙ ap (row table) (sym e)) ∙ p.4))
      (λ ne. inl (p.0, p.1, omega (arith, p.2), p.3, p.4))
      (cases_eq p.0 (i + 1))

  pub lead-take : (i : ℕ) (found next : FlowSet) → has ends (i + 1) ≡ true → next ≡ joined found (at_place table i)
      → ((f : ℕ) → Decides (has found f) (LeadsTo table ends i f)) → (f : ℕ) → Decides (has next f) (LeadsTo table ends (i + 1) f)
  lead-take i found next t e inv f =
      let is = ap (λ (s : FlowSet). has s f) e ∙ has-joined found (at_place table i) f in (
        λ h. ⊎_elim (λ old. lead-on i f ((inv f).0 old)) (λ new. (i + 1, omega arith, omega arith, t, ap (λ (s : FlowSet). has s f) (row_at table i) ∙ new)) (or_cases _ _ (sym is ∙ h)),
        λ p. is ∙ ⊎_elim (λ old. or_left _ _ ((inv f).1 old)) (λ new. or_right _ _ new.1) (lead-split i f p),
      )

  pub lead-skip : (i : ℕ) (found next : FlowSet) → has ends (i + 1) ≡ false → next ≡ found
      → ((f : ℕ) → Decides (has found f) (LeadsTo table ends i f)) → (f : ℕ) → Decides (has next f) (LeadsTo table ends (i + 1) f)
  lead-skip i found next t e inv f = (
    λ h. lead-on i f ((inv f).0 (ap (λ (s : FlowSet). has s f) (sym e) ∙ h)),
    λ p. ap (λ (s : FlowSet). has s f) e ∙ ⊎_elim (inv f).1 (λ new. absurd (both_ways _ t new.0)) (lead-split i f p),
  )

  -- ---- the same, joined one after another

  -- what was found, with what the sets of the flows `rest` have, is what leads to `ends`
  abbrev pub Joining : FlowSet → List ℕ → Type 0
  Joining found rest = (f : ℕ) → (has found f ≡ true ⊎ ((e : ℕ) × Holds rest e × (has (row table e) f ≡ true))) ↔ LeadsTo table ends 64 f

  pub joining-start : (found : FlowSet) → found ≡ no_flows → (rest : List ℕ) → rest ≡ above ends 0 → Joining found rest
  joining-start found none rest all f = (
    ⊎_elim
        (λ h. absurd (both_ways _ (ap (λ (s : FlowSet). has s f) none ∙ has-no_flows f) h))
        (λ p. let h = subst (λ (xs : List ℕ). Holds xs p.0) all p.1 in let r = above-range ends p.0 h in (p.0, r.0, r.1, above-has ends p.0 h, p.2)),
    λ l. inr (l.0, subst (λ (xs : List ℕ). Holds xs l.0) (sym all) (above_holds ends l.0 l.1 l.2 l.3), l.4),
  )

  pub joining-more : (found more : FlowSet) (e : ℕ) (rest : List ℕ) → more ≡ joined found (row table e) → Joining found (e ∷ rest) → Joining more rest
  joining-more found more e rest is before f =
      let member = ap (λ (s : FlowSet). has s f) is ∙ has-joined found (row table e) f in (
        ⊎_elim
            (λ h. ⊎_elim (λ old. (before f).0 (inl old)) (λ new. (before f).0 (inr (e, inl refl, new))) (or_cases _ _ (sym member ∙ h)))
            (λ p. (before f).0 (inr (p.0, inr p.1, p.2))),
        λ l.
            ⊎_elim
            (λ old. inl (member ∙ or_left _ _ old))
            (λ p. ⊎_elim (λ same. inl (member ∙ or_right _ _ (subst (λ (k : ℕ). has (row table k) f ≡ true) (sym same) p.2))) (λ later. inr (p.0, later, p.2)) p.1)
            ((before f).1 l),
      )

  pub joining-all : (found : FlowSet) (rest : List ℕ) → rest ≡ [] → Joining found rest → (f : ℕ) → Decides (has found f) (LeadsTo table ends 64 f)
  joining-all found rest none before f = (
    λ h. (before f).0 (inl h),
    λ l. ⊎_elim (λ h. h) (λ p. absurd (subst (λ (xs : List ℕ). Holds xs p.0) none p.1)) ((before f).1 l),
  )

-- ---- who holds the gateway back

module _ (flows : List Flow) (few : length flows ≤ 64) (sources : List FlowSet) (right : Sources flows sources) (tokens ins : FlowSet) (g : ℕ) (inbound : (e : ℕ) → Decides (has ins e) (Inbound flows g e)) where
  -- a flow of the table leads to an inbound flow exactly if a path leads there that avoids g
  row-reach : (e f : ℕ) → Inbound flows g e → Decides (has (row sources e) f) (Reaches flows g f e)
  row-reach e f i = subst (λ (n : ℕ). Decides (has (row sources e) f) (Reaches flows n f e)) i.1 (right e f i.0)

  led-to : (ends : FlowSet) (e f : ℕ) → has ends e ≡ true → Inbound flows g e → Reaches flows g f e → LeadsTo sources ends 64 f
  led-to ends e f h i r = (e, i.0.0, omega (arith, i.0.1), h, (row-reach e f i).1 r)

  pub holders-decide : (to-empty to-token r : FlowSet)
      → ((f : ℕ) → Decides (has to-empty f) (LeadsTo sources (without ins tokens) 64 f))
      → ((f : ℕ) → Decides (has to-token f) (LeadsTo sources (shared ins tokens) 64 f))
      → r ≡ without (shared tokens to-empty) to-token
      → (f : ℕ) → Decides (has r f) (HoldsBack flows tokens g f)
  holders-decide to-empty to-token r empties withs e f = (holding, tested)
    where
      is : has r f ≡ ((has tokens f && has to-empty f) && not (has to-token f))
      is = ap (λ (s : FlowSet). has s f) e ∙ has-without (shared tokens to-empty) to-token f ∙ ap (λ (b : Bool). b && not (has to-token f)) (has-shared tokens to-empty f)

      holding : has r f ≡ true → HoldsBack flows tokens g f
      holding h =
          let a = and_parts (has tokens f && has to-empty f) (not (has to-token f)) (sym is ∙ h) in
          let b = and_parts (has tokens f) (has to-empty f) a.0 in
          let l = (empties f).0 b.1 in
          let n = and_parts (has ins l.0) (not (has tokens l.0)) (sym (has-without ins tokens l.0) ∙ l.3) in
          let i = (inbound l.0).0 n.0 in
          record {
            carries = b.0;
            empty_end = (l.0, i, not-true _ n.1, (row-reach l.0 f i).0 l.4);
            no_token_end = λ e j t p.
                both_ways _ (not-true _ a.1) ((withs f).1 (led-to (shared ins tokens) e f (has-shared ins tokens e ∙ and_from _ _ ((inbound e).1 j) t) j p));
          }

      no_token : HoldsBack flows tokens g f → has to-token f ≡ false
      no_token h = ⊎_elim (λ t. absurd (clash ((withs f).0 t))) (λ t. t) (cases_Bool (has to-token f))
        where
          clash : LeadsTo sources (shared ins tokens) 64 f → ⊥
          clash l =
              let n = and_parts (has ins l.0) (has tokens l.0) (sym (has-shared ins tokens l.0) ∙ l.3) in
              let i = (inbound l.0).0 n.0 in
              h.no_token_end l.0 i n.1 ((row-reach l.0 f i).0 l.4)

      tested : HoldsBack flows tokens g f → has r f ≡ true
      tested h =
          let x = h.empty_end in
          let end = has-without ins tokens x.0 ∙ and_from _ _ ((inbound x.0).1 x.1) (not_from_false _ x.2) in
          is ∙ and_from _ _ (and_from _ _ h.carries ((empties f).1 (led-to (without ins tokens) x.0 f end x.1 x.3))) (not_from_false _ (no_token h))

-- ---- inbound flows with a token

module _ (flows : List Flow) (tokens : FlowSet) (g : ℕ) (ins both : FlowSet) (inbound : (e : ℕ) → Decides (has ins e) (Inbound flows g e)) (b : both ≡ shared ins tokens) where
  pub no_token-inbound : is_none both ≡ true → TokenInbound flows tokens g → ⊥
  no_token-inbound z t =
      both_ways _ (none-in-zero both z t.0) (ap (λ (s : FlowSet). has s t.0) b ∙ has-shared ins tokens t.0 ∙ and_from _ _ ((inbound t.0).1 t.1) t.2)

  pub some_token-inbound : is_none both ≡ false → TokenInbound flows tokens g
  some_token-inbound z =
      let e = some_in both z in
      let p = and_parts (has ins e.0) (has tokens e.0) (sym (has-shared ins tokens e.0) ∙ ap (λ (s : FlowSet). has s e.0) (sym b) ∙ e.1) in
      (e.0, (inbound e.0).0 p.0, p.1)

-- ---- what the set of those flows says

-- who holds g back is a flow
pub holder-is-flow : (flows : List Flow) (tokens : FlowSet) (g f : ℕ) → HoldsBack flows tokens g f → IsFlow flows f
holder-is-flow flows tokens g f h = reaching-flow flows g f h.empty_end.0 h.empty_end.3

module _ (flows : List Flow) (few : length flows ≤ 64) (tokens : FlowSet) (g : ℕ) (held : FlowSet) (decides : (f : ℕ) → Decides (has held f) (HoldsBack flows tokens g f)) where
  pub number-held : HoldingNumber flows tokens g (tally (has held) 64)
  number-held =
      subst (HoldingNumber flows tokens g) (sym (tally-above (has held) (length flows) 64 few none-past))
      (number-from-tally (HoldsBack flows tokens g) (has held) (length flows) (λ k low high. decides k))
    where
      none-past : (k : ℕ) → length flows < k → has held k ≡ false
      none-past k l = ⊎_elim (λ t. absurd (omega (arith, (holder-is-flow flows tokens g k ((decides k).0 t)).1))) (λ t. t) (cases_Bool (has held k))

  pub rule-decides : TokenInbound flows tokens g → Decides (is_none held) (PathRule flows tokens g)
  rule-decides token = (
    λ h. record { some_token = token; none_holds = λ f x. both_ways _ (none-in-zero held h f) ((decides f).1 x) },
    λ r. ⊎_elim (λ t. t) (λ t. let s = some_in held t in absurd (r.none_holds s.0 ((decides s.0).0 s.1))) (cases_Bool (is_none held)),
  )

  -- where the set is not empty some flow holds g back
  pub some-holder : is_none held ≡ false → (f : ℕ) × HoldsBack flows tokens g f
  some-holder z = let s = some_in held z in (s.0, (decides s.0).0 s.1)
