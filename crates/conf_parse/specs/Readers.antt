-- How a token begins an operand, in words of plain trees.
use Rattle.std.specs.Prelude.{◌≡◌}
use Rattle.conf_syntax.specs.declared.token.Token.{Token}
use Rattle.conf_syntax.specs.Plain as plain
use Rattle.conf_syntax.specs.Plain.{Leaf, begin_by, leaf_level}
use Rattle.conf_syntax.specs.Views.{tree_of}
use Rattle.conf_grammar.specs.Operators.{sign_of}
use Rattle.conf_parse.specs.declared.begin.Begin.{Begin}
use Rattle.conf_parse.specs.declared.begin.Begin.TheVariants as begin

abbrev pub IsBegin : Token → Begin → Type 0
IsBegin token (begin.Leaf leaf level) =
    (begin_by token ≡ plain.ALeaf) × (tree_of leaf ≡ Leaf token) × (level ≡ leaf_level token)
IsBegin token (begin.Sign s) = begin_by token ≡ plain.ASign (sign_of s)
IsBegin token begin.Paren = begin_by token ≡ plain.AParen
IsBegin token (begin.Quant k) = begin_by token ≡ plain.AQuant k
IsBegin token begin.Nothing = begin_by token ≡ plain.NoBegin
