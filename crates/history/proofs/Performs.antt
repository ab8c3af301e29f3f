-- A call or a reply by another name.
use Rattle.std.proofs.Common.{◌≡◌, ℕ, ℤ, sym, refl, subst}
use Rattle.engine.specs.declared.counts.SetUp.{SetUp}
use Rattle.engine.specs.declared.counts.Begun.{Begun}
use Rattle.history.specs.declared.call.Call.{Call}
use Rattle.history.specs.declared.call.Call.TheVariants as calls
use Rattle.history.specs.declared.call.Count.TheVariants.{Setting, Going}
use Rattle.history.specs.declared.call.Reply.{Reply}
use Rattle.history.specs.Histories.{Moment, Performed, NotTaken}

pub as_call : {m m' : Moment} {call call' : Call} {reply : Reply} → call ≡ call' → Performed m call' reply m' → Performed m call reply m'
as_call {m} {m'} {call} {call'} {reply} e p = subst (λ (x : Call). Performed m x reply m') (sym e) p

-- a call that no arm of a match names
pub rest-set-up : (s : SetUp) (call : Call) → ((x : ℕ) (c : ℤ) → call ≡ calls.Set x c → ⊥) → (call ≡ calls.Begin → ⊥) → NotTaken (Setting s) call
rest-set-up s (calls.Set x c) p q = p x c refl
rest-set-up s calls.Begin p q = q refl
rest-set-up s (calls.Step n) p q = tt
rest-set-up s (calls.Run budget) p q = tt
rest-set-up s (calls.Figure x) p q = tt
rest-set-up s (calls.Ready n) p q = tt
rest-set-up s (calls.Holding n) p q = tt
rest-set-up s (calls.Why n) p q = tt

pub rest-begun : (b : Begun) (call : Call) → ((n : ℕ) → call ≡ calls.Step n → ⊥) → ((n : ℕ) → call ≡ calls.Run n → ⊥) → ((n : ℕ) → call ≡ calls.Figure n → ⊥) → ((n : ℕ) → call ≡ calls.Ready n → ⊥) → ((n : ℕ) → call ≡ calls.Holding n → ⊥) → ((n : ℕ) → call ≡ calls.Why n → ⊥) → NotTaken (Going b) call
rest-begun b (calls.Set x c) p q r t u v = tt
rest-begun b calls.Begin p q r t u v = tt
rest-begun b (calls.Step n) p q r t u v = p n refl
rest-begun b (calls.Run budget) p q r t u v = q budget refl
rest-begun b (calls.Figure x) p q r t u v = r x refl
rest-begun b (calls.Ready n) p q r t u v = t n refl
rest-begun b (calls.Holding n) p q r t u v = u n refl
rest-begun b (calls.Why n) p q r t u v = v n refl
