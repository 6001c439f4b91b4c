-- Signs and ways on of the code, in words of plain trees and of the machine.
use Rattle.conf_syntax.specs.Plain as plain
use Rattle.conf_syntax.specs.Plain.{Negative, Negation}
use Rattle.conf_grammar.specs.Machine as machine
use Rattle.conf_grammar.specs.declared.operator_levels.Going.{Going}
use Rattle.conf_grammar.specs.declared.operator_levels.Going.TheVariants as going
use Rattle.conf_grammar.specs.declared.operator_levels.Sign.{Sign}
use Rattle.conf_grammar.specs.declared.operator_levels.Sign.TheVariants as sign

abbrev pub sign_of : Sign → plain.Sign
sign_of sign.Minus = Negative
sign_of sign.Not = Negation

abbrev pub going_of : Going → machine.Going
going_of (going.Pair o) = machine.AnOp o
going_of going.Dot = machine.ADot
going_of going.Nothing = machine.NoGoing
