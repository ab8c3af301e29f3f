-- Which bytes a text may hold.
use Rattle.std.specs.Prelude.{ℕ, Bool, ◌&&◌, ◌||◌, ◌==◌, nat_le}

abbrev pub letter : ℕ → Bool
letter b = nat_le 97 b && nat_le b 122

abbrev pub digit : ℕ → Bool
digit b = nat_le 48 b && nat_le b 57

-- a letter from a to z, a digit, a space, `<`, `=`, `>`, `-` or a line feed
abbrev pub allowed : ℕ → Bool
allowed b = letter b || (digit b || (b == 32 || (b == 60 || (b == 61 || (b == 62 || (b == 45 || b == 10))))))
