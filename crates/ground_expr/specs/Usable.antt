-- Forms that a choice or a list may be taken of. What a reader believes after this file: the
-- variables of a choice or of a list exist, and each value of a choice's variable gives an object.
use Rattle.signed_clause.specs.Clauses.{Boxes}
use Rattle.expr_forms.specs.declared.form.Form.{Form}
use Rattle.expr_forms.specs.declared.form.Form.TheVariants as form
use Rattle.identity_forms.specs.Choices.{IsChoice}
use Rattle.identity_forms.specs.Lists.{HasMembers}

abbrev pub IsUsable : Boxes → Form → Type 0
IsUsable boxes (form.Number f) = Unit {0}
IsUsable boxes (form.Truth t) = Unit {0}
IsUsable boxes (form.Choice e c) = IsChoice boxes c
IsUsable boxes (form.Object d c) = IsChoice boxes c
IsUsable boxes (form.List l) = HasMembers boxes l
