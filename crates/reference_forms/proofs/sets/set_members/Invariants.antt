use Rattle.std.proofs.Common.{◌≡◌, ◌++◌, List, ℤ, drop, map, length, take}
use Rattle.std.specs.Prelude.{filter_map}
use Rattle.std.specs.List.{All}
use Rattle.object_alloc.specs.Cells.{cells}
use Rattle.object_alloc.specs.Members.{member_at}
use Rattle.form_build.specs.Forms.{HasVariable}
use Rattle.form_build.specs.Worlds.{IsWorld}
use Rattle.expr_forms.specs.declared.form.Member.{Member}
use Rattle.expr_forms.specs.FormValues.{members_at}
use Rattle.reference_forms.specs.Attributes.{element_at}
use Rattle.reference_forms.proofs.sets.set_members.Given as goal

-- with what is left it is what all cells give
abbrev pub invariant-loop-cell : goal.invariant-loop-cell
invariant-loop-cell l = record {
  members : (a : List ℤ) → IsWorld l.maker a → members_at l.members.items a ++ filter_map (member_at (cells l.objects) (take l.maker.search a)) (drop l.cell-index l.owned) ≡ filter_map (member_at (cells l.objects) (take l.maker.search a)) l.owned;
  objects : map (λ (m : Member). m.object) l.members.items ++ filter_map (element_at (cells l.objects)) (drop l.cell-index l.owned) ≡ filter_map (element_at (cells l.objects)) l.owned;
  variables : All (λ (m : Member). HasVariable (length l.maker.domains) m.is) l.members.items;
}
