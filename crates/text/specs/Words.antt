-- The words of a line: keywords, numbers, figures and operators.
use Rattle.std.specs.Prelude.{ℕ, Bool, true, false, cond, List, [], ◌∷◌, map, Some, None, codes, Option}
use Rattle.std.specs.Borrow.{Bor}
use Rattle.std.specs.Str.{bytes_eq}
use Rattle.process.specs.declared.flow.Operator.{Operator}
use Rattle.process.specs.declared.flow.Operator.TheVariants as operators
use Rattle.text.specs.declared.words.Keyword.{Keyword}
use Rattle.text.specs.declared.words.Keyword.TheVariants as keywords
use Rattle.text.specs.declared.words.Word.{Word}
use Rattle.text.specs.declared.words.Word.TheVariants as words
use Rattle.text.specs.declared.words.Rest.{Rest}
use Rattle.text.specs.Numbers.{number_shape, figure_shape}
use Rattle.text.specs.Pieces.{pieces}

abbrev pub spelling : Keyword → List ℕ
spelling keywords.Process = codes "process"
spelling keywords.Node = codes "node"
spelling keywords.Flow = codes "flow"
spelling keywords.Start = codes "start"
spelling keywords.End = codes "end"
spelling keywords.Xor = codes "xor"
spelling keywords.And = codes "and"
spelling keywords.Or = codes "or"
spelling keywords.Task = codes "task"
spelling keywords.Default = codes "default"
spelling keywords.If = codes "if"
spelling keywords.Answer = codes "answer"

abbrev pub all_keywords : List Keyword
all_keywords = keywords.Process ∷ keywords.Node ∷ keywords.Flow ∷ keywords.Start ∷ keywords.End ∷ keywords.Xor ∷ keywords.And ∷ keywords.Or ∷ keywords.Task ∷ keywords.Default ∷ keywords.If ∷ keywords.Answer ∷ []

abbrev pub symbol : Operator → List ℕ
symbol operators.Less = codes "<"
symbol operators.AtMost = codes "<="
symbol operators.Equal = codes "="
symbol operators.NotEqual = codes "<>"
symbol operators.AtLeast = codes ">="
symbol operators.Greater = codes ">"

abbrev pub all_operators : List Operator
all_operators = operators.Less ∷ operators.AtMost ∷ operators.Equal ∷ operators.NotEqual ∷ operators.AtLeast ∷ operators.Greater ∷ []

-- the first of some values that is written as the word
abbrev pub spelled_by : {X : Type 0} → (X → List ℕ) → List X → List ℕ → Option X
spelled_by spell [] w = None
spelled_by spell (x ∷ xs) w = cond (bytes_eq w (spell x)) (Some x) (spelled_by spell xs w)

unfoldable pub keyword_of : List ℕ → Option Keyword
keyword_of w = spelled_by spelling all_keywords w

unfoldable pub operator_of : List ℕ → Option Operator
operator_of w = spelled_by symbol all_operators w

-- a word, by its kind
pub data Token : Type 0 where
  keyword : Keyword → Token
  number : List ℕ → Token
  figure : List ℕ → Token
  operator : Operator → Token

abbrev pub if_operator : Option Operator → Option Token
if_operator None = None
if_operator (Some o) = Some (operator o)

abbrev pub if_keyword : Option Keyword → Option Token → Option Token
if_keyword None other = other
if_keyword (Some k) other = Some (keyword k)

-- which word the bytes are; no word where they are of no kind
unfoldable pub word_of : List ℕ → Option Token
word_of w = if_keyword (keyword_of w) (cond (number_shape w) (Some (number w)) (cond (figure_shape w) (Some (figure w)) (if_operator (operator_of w))))

-- the bytes of a word of the code, and the word without its place in the text
abbrev pub bytes : Word → List ℕ
bytes (words.Keyword k p) = p.bytes.now
bytes (words.Number p) = p.bytes.now
bytes (words.Figure p) = p.bytes.now
bytes (words.Operator o p) = p.bytes.now

abbrev pub line : Word → ℕ
line (words.Keyword k p) = p.line
line (words.Number p) = p.line
line (words.Figure p) = p.line
line (words.Operator o p) = p.line

abbrev pub plain : Word → Token
plain (words.Keyword k p) = keyword k
plain (words.Number p) = number p.bytes.now
plain (words.Figure p) = figure p.bytes.now
plain (words.Operator o p) = operator o

-- the words that are left of a line: none after its last word; a piece that is no word stands as None
abbrev pub words_of : List ℕ → List (Option Token)
words_of bs = map word_of (pieces 32 bs)

abbrev pub words_in : Option (Bor (List ℕ)) → List (Option Token)
words_in None = []
words_in (Some r) = words_of r.now

abbrev pub words_left : Rest → List (Option Token)
words_left r = words_in r.bytes

abbrev pub none_left : List (Option Token) → Bool
none_left [] = true
none_left (t ∷ ts) = false

-- the next word and what is left after it, where there is one
abbrev pub next_word : List (Option Token) → Option (Token × List (Option Token))
next_word [] = None
next_word (None ∷ ts) = None
next_word (Some t ∷ ts) = Some (t, ts)
