-- Forms that are the same in every world. What a reader believes after this file: which attributes
-- are made of parts, and which forms are one object, or a list of objects that are its members in
-- any case.
use Rattle.std.specs.Prelude.{Bool, true, false}
use Rattle.class_table.specs.declared.table.Resolved.{Resolved}
use Rattle.class_table.specs.declared.table.Resolved.TheVariants as shape
use Rattle.expr_forms.specs.declared.form.Choice.{Choice}
use Rattle.expr_forms.specs.declared.form.Choice.TheVariants as choice
use Rattle.expr_forms.specs.declared.form.Listing.{Listing}
use Rattle.expr_forms.specs.declared.form.Listing.TheVariants as listing
use Rattle.expr_forms.specs.declared.form.Form.{Form}
use Rattle.expr_forms.specs.declared.form.Form.TheVariants as form

-- the parts of an object, which no cell says
abbrev pub is_part : Resolved → Bool
is_part (shape.One c) = true
is_part (shape.Many c n) = true
is_part (shape.Span low high) = false
is_part shape.Truth = false
is_part (shape.Choice e) = false
is_part (shape.Ref c) = false
is_part (shape.RefSet c n) = false

abbrev pub is_fixed_choice : Choice → Bool
is_fixed_choice (choice.Fixed n) = true
is_fixed_choice (choice.Cell x) = false
is_fixed_choice (choice.Mapped x map) = false

abbrev pub is_fixed_list : Listing → Bool
is_fixed_list (listing.All xs) = true
is_fixed_list (listing.Some ms) = false
is_fixed_list (listing.Owned x pairs ss) = false

abbrev pub is_fixed_form : Form → Bool
is_fixed_form (form.Number n) = false
is_fixed_form (form.Truth t) = false
is_fixed_form (form.Choice e c) = false
is_fixed_form (form.Object d c) = is_fixed_choice c
is_fixed_form (form.List l) = is_fixed_list l
