-- The pieces of some bytes between separators: the lines of a text between line feeds, the words of a line between spaces.
use Rattle.std.specs.Prelude.{ℕ, suc, Bool, true, cond, not, ◌&&◌, List, [], ◌∷◌, ◌++◌, length, Some, None, Option, ◌==◌}
use Rattle.std.specs.Borrow.{Bor}

abbrev pub before_first : ℕ → List (List ℕ) → List (List ℕ)
before_first b [] = (b ∷ []) ∷ []
before_first b (w ∷ ws) = (b ∷ w) ∷ ws

-- always one piece or more; a piece may be empty
abbrev pub pieces : ℕ → List ℕ → List (List ℕ)
pieces sep [] = [] ∷ []
pieces sep (b ∷ bs) = cond (b == sep) ([] ∷ pieces sep bs) (before_first b (pieces sep bs))

-- the pieces with one separator between neighbours
abbrev pub joined : ℕ → List (List ℕ) → List ℕ
joined sep [] = []
joined sep (w ∷ []) = w
joined sep (w ∷ v ∷ vs) = w ++ (sep ∷ joined sep (v ∷ vs))

-- the separator does not stand among the bytes
abbrev pub lacks : ℕ → List ℕ → Bool
lacks sep [] = true
lacks sep (b ∷ bs) = not (b == sep) && lacks sep bs

-- the pieces of what is left after a cut: none after the last piece
abbrev pub pieces_in : ℕ → Option (Bor (List ℕ)) → List (List ℕ)
pieces_in sep None = []
pieces_in sep (Some r) = pieces sep r.now

-- a number that falls with each cut: 0 after the last piece
abbrev pub length_left : Option (Bor (List ℕ)) → ℕ
length_left None = 0
length_left (Some r) = suc (length r.now)
