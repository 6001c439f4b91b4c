-- The words of lines, and what stands behind them.
use Rattle.std.specs.Prelude.{◌≡◌, ℕ, ◌<◌, List, ◌∷◌, ◌++◌, true, codes, decimal}
use Rattle.log_form.specs.declared.line.Line.{Line}
use Rattle.log_form.specs.declared.line.Line.TheVariants as lines
use Rattle.proof_log.specs.declared.words.Word.{Word}
use Rattle.proof_log.specs.declared.words.Word.TheVariants.{Axiom, Chain, Bound, Use, Found, Decide, Empty}
use Rattle.proof_log.specs.Parts.{heads}
use Rattle.proof_log.specs.Spelling.{behind, pieces_of, IsLine}

-- the text of a word
abbrev pub word_text : Word → List ℕ
word_text Axiom = codes "axiom"
word_text Chain = codes "chain"
word_text Bound = codes "bound"
word_text Use = codes "use"
word_text Found = codes "found"
word_text Decide = codes "decide"
word_text Empty = codes "empty"

-- the word of a line
abbrev pub word_at : Line → Word
word_at (lines.Axiom k c) = Axiom
word_at (lines.Chain chain c) = Chain
word_at (lines.Bound values) = Bound
word_at (lines.Use i) = Use
word_at (lines.Found values) = Found
word_at (lines.Decide x set) = Decide
word_at (lines.Empty x) = Empty

-- the line has the word, and its pieces are the texts behind it
pub record IsBehind (word : Word) (texts : List ℕ) (l : Line) : Type 0 where
  pub line : IsLine l
  pub begins : word_at l ≡ word
  pub pieces : texts ≡ behind 32 (pieces_of l)

-- the number below the limit is the first text, and the rest stands behind it
pub record IsNumberFirst (limit : ℕ) (texts : List ℕ) (n : ℕ) (rest : List ℕ) : Type 0 where
  pub fits : n < limit
  pub whole : texts ≡ 32 ∷ decimal n ++ rest
  pub heads : heads 32 rest ≡ true
