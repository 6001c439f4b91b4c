-- The object that a form is. What a reader believes after this file: which choice a form of an
-- object has, and of which class.
use Rattle.std.specs.Prelude.{ℕ, List, []}
use Rattle.expr_forms.specs.declared.form.Choice.{Choice}
use Rattle.expr_forms.specs.declared.form.Choice.TheVariants as choice
use Rattle.expr_forms.specs.declared.form.Form.{Form}
use Rattle.expr_forms.specs.declared.form.Form.TheVariants as form
use Rattle.identity_forms.specs.Lists.{slot_objects}

-- the class that the object is chosen from, 0 of what is none
abbrev pub class_part : Form → ℕ
class_part (form.Object d c) = d
class_part (form.Number f) = 0
class_part (form.Truth t) = 0
class_part (form.Choice e c) = 0
class_part (form.List l) = 0

-- the object, number 0 of what is none
abbrev pub choice_part : Form → Choice
choice_part (form.Object d c) = c
choice_part (form.Number f) = choice.Fixed 0
choice_part (form.Truth t) = choice.Fixed 0
choice_part (form.Choice e c) = choice.Fixed 0
choice_part (form.List l) = choice.Fixed 0

-- the objects of the slots of the list, nobody where it is none
abbrev pub slots_part : Form → List ℕ
slots_part (form.List l) = slot_objects l
slots_part (form.Number f) = []
slots_part (form.Truth t) = []
slots_part (form.Choice e c) = []
slots_part (form.Object d c) = []
