-- Histories put together and taken apart.
use Rattle.std.proofs.Common.{◌≡◌, ℕ, zero, suc, List, [], ◌∷◌, ◌++◌, take, drop, subst}
use Rattle.history.specs.declared.call.Call.{Call}
use Rattle.history.specs.declared.call.Reply.{Reply}
use Rattle.history.specs.Histories.{Moment, Performed, History}

-- one call more at the end
pub history-push : {m m₁ m₂ : Moment} {done : List Call} {told : List Reply} {call : Call} {reply : Reply} → History m done told m₁ → Performed m₁ call reply m₂ → History m (done ++ call ∷ []) (told ++ reply ∷ []) m₂
history-push History.ends p = History.then p History.ends
history-push (History.then q h) p = History.then q (history-push h p)

-- a history stopped after k calls, and the rest of it
pub history-cut : {m m₂ : Moment} {done : List Call} {told : List Reply} → History m done told m₂ → (k : ℕ) → (m₁ : Moment) × History m (take k done) (take k told) m₁ × History m₁ (drop k done) (drop k told) m₂
history-cut {m} History.ends zero = (m, History.ends, History.ends)
history-cut {m} History.ends (suc k) = (m, History.ends, History.ends)
history-cut {m} (History.then p h) zero = (m, History.ends, History.then p h)
history-cut {m} (History.then p h) (suc k) = let r = history-cut h k in (r.0, History.then p r.1, r.2)

-- the calls and the replies under other names
pub history-as : {m m₁ : Moment} {done done' : List Call} {told told' : List Reply} → done ≡ done' → told ≡ told' → History m done told m₁ → History m done' told' m₁
history-as {m} {m₁} {done} {done'} {told} {told'} p q h =
    subst (λ (x : List Reply). History m done' x m₁) q (subst (λ (x : List Call). History m x told m₁) p h)

-- one history after another
pub history-join : {m m₁ m₂ : Moment} {done more : List Call} {told others : List Reply} → History m done told m₁ → History m₁ more others m₂ → History m (done ++ more) (told ++ others) m₂
history-join History.ends k = k
history-join (History.then p h) k = History.then p (history-join h k)
