-- How tokens are spelled: the bytes of words, numbers, keywords and marks.
use Rattle.std.specs.Prelude.{ℕ, List, codes}
use Rattle.conf_syntax.specs.declared.token.Key.{Key}
use Rattle.conf_syntax.specs.declared.token.Key.TheVariants as key
use Rattle.conf_syntax.specs.declared.token.Mark.{Mark}
use Rattle.conf_syntax.specs.declared.token.Mark.TheVariants as mark

-- the first spelling of a keyword
abbrev pub key_text : Key → List ℕ
key_text key.Enum = codes "enum"
key_text key.Abstract = codes "abstract"
key_text key.Class = codes "class"
key_text key.Extends = codes "extends"
key_text key.Var = codes "var"
key_text key.As = codes "as"
key_text key.Int = codes "int"
key_text key.Bool = codes "bool"
key_text key.Ref = codes "ref"
key_text key.Where = codes "where"
key_text key.Forall = codes "forall"
key_text key.Exists = codes "exists"
key_text key.Sum = codes "sum"
key_text key.Count = codes "count"
key_text key.AllDifferent = codes "alldifferent"
key_text key.Pack = codes "pack"
key_text key.In = codes "in"
key_text key.Maximize = codes "maximize"
key_text key.Minimize = codes "minimize"
key_text key.True = codes "true"
key_text key.False = codes "false"
key_text key.This = codes "this"
key_text key.And = codes "and"
key_text key.Or = codes "or"
key_text key.Not = codes "not"

-- the first spelling of a mark
abbrev pub mark_text : Mark → List ℕ
mark_text mark.OpenBrace = codes "{"
mark_text mark.CloseBrace = codes "}"
mark_text mark.OpenBracket = codes "["
mark_text mark.CloseBracket = codes "]"
mark_text mark.OpenParen = codes "("
mark_text mark.CloseParen = codes ")"
mark_text mark.Semicolon = codes ";"
mark_text mark.Comma = codes ","
mark_text mark.Dot = codes "."
mark_text mark.DotDot = codes ".."
mark_text mark.Arrow = codes "->"
mark_text mark.Equal = codes "="
mark_text mark.NotEqual = codes "!="
mark_text mark.Less = codes "<"
mark_text mark.AtMost = codes "<="
mark_text mark.Greater = codes ">"
mark_text mark.AtLeast = codes ">="
mark_text mark.Plus = codes "+"
mark_text mark.Minus = codes "-"
mark_text mark.Star = codes "*"
