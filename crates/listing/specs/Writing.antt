-- What is written into a buffer.
use Rattle.std.specs.Prelude.{◌≡◌, ℕ, ◌+◌, ◌≤◌, List, ◌++◌, length, take, drop}

-- the buffer with a text over it from a place on
unfoldable pub over : List ℕ → ℕ → List ℕ → List ℕ
over out place text = take place out ++ (text ++ drop (place + length text) out)

-- the text was written from the place on and ended at `end`, and the rest of the buffer is as it was
pub record Wrote (out : List ℕ) (place : ℕ) (text out' : List ℕ) (end : ℕ) : Type 0 where
  pub after : out' ≡ over out place text
  pub ends : end ≡ place + length text
  pub within : end ≤ length out

-- a line was written at the front of the buffer, and has at most 512 bytes
pub record WroteLine (out text out' : List ℕ) (end : ℕ) : Type 0 where
  pub wrote : Wrote out 0 text out' end
  pub most : end ≤ 512
