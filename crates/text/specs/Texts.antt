-- When bytes are a text.
use Rattle.std.specs.Prelude.{ℕ, suc, ◌-◌, cond, ◌||◌, List, [], ◌∷◌, length, Ok, Err, Result, ◌==◌, nat_lt, slice_index}
use Rattle.fault.specs.declared.text.TextFault.{TextFault}
use Rattle.fault.specs.declared.text.TextFault.TheVariants.{Size, Byte, Ending}
use Rattle.text.specs.Bytes.{allowed}

-- the offset of the first byte that is not allowed, or the length where each is
abbrev pub first_bad : List ℕ → ℕ
first_bad [] = 0
first_bad (b ∷ bs) = cond (allowed b) (suc (first_bad bs)) 0

-- A text has 1 to 16,384 bytes, each of them allowed, and the last is a line feed. The faults come in this order.
abbrev pub text_check : List ℕ → Result (Unit {0}) TextFault
text_check t =
    cond (length t == 0 || nat_lt 16384 (length t)) (Err Size)
    (cond (nat_lt (first_bad t) (length t)) (Err (Byte (first_bad t)))
    (cond (slice_index t (length t - 1) == 10) (Ok tt) (Err (Ending (length t)))))
