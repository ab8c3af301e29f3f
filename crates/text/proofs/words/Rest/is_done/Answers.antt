use Rattle.std.proofs.Common.{◌≡◌, ℕ, ◌<◌, Bool, false, not, List, [], ◌∷◌, map, length, is_some, Some, None, Option, sym, refl, ◌∙◌, arith, Bor}
use Rattle.std.proofs.lemmas.Bool.{not-true, not-false}
use Rattle.text.specs.Pieces.{pieces}
use Rattle.text.specs.Words.{word_of, words_in, none_left}
use Rattle.text.proofs.Cuts.{pieces-some}
use Rattle.text.proofs.words.Rest.is_done.Goals as goal

-- a line has a word, or a piece that is none
some_left : (ws : List (List ℕ)) → 0 < length ws → none_left (map word_of ws) ≡ false
some_left [] some = absurd (omega arith)
some_left (w ∷ ws) some = refl

done : (o : Option (Bor (List ℕ))) (r : Bool) → is_some o ≡ not r → r ≡ none_left (words_in o)
done None r e = not-false r (sym e)
done (Some x) r e = not-true r (sym e) ∙ sym (some_left (pieces 32 x.now) (pieces-some 32 x.now))

pub returns : goal.returns
returns c = done c.args.self.now.bytes c.is_none.result c.is_none.ensures
