-- That the words of tokens are words: a letter or an underscore, then letters, digits and
-- underscores. So none is empty, and none has a dot or a bracket in it.
use Rattle.std.specs.Prelude.{◌≡◌, Bool, true, List}
use Rattle.std.specs.List.{list_all}
use Rattle.conf_syntax.specs.declared.token.Token.{Token}
use Rattle.conf_syntax.specs.declared.token.Token.TheVariants as token
use Rattle.conf_syntax.specs.Spelling.{is_word}

-- if the token is a word, its bytes are those of one
abbrev pub is_worded : Token → Bool
is_worded (token.Word w) = is_word w
is_worded (token.Number n) = true
is_worded (token.Key k) = true
is_worded (token.Mark m) = true

-- each word of these tokens is one
abbrev pub AreWords : List Token → Type 0
AreWords tokens = list_all is_worded tokens ≡ true
