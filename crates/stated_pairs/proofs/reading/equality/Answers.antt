use Rattle.std.proofs.Common.{◌≡◌, true, subst}
use Rattle.ground_form.specs.declared.con.Con.{Con}
use Rattle.ground_form.specs.Meaning.{con_true}
use Rattle.stated_pairs.proofs.PairLaws.{equality_is}
use Rattle.stated_pairs.proofs.reading.equality.Goals as goal

pub returns-in-EqDef : goal.returns-in-EqDef
returns-in-EqDef c a e same =
    equality_is c.in-EqDef.flag c.in-EqDef.left c.in-EqDef.right a (subst (λ (z : Con). con_true z a ≡ true) c.in-EqDef.is e) same
