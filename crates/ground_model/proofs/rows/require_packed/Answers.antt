use Rattle.std.proofs.Common.{Some, IfSome, [], List, not, ◌||◌, subst}
use Rattle.std.specs.List.{list_all}
use Rattle.form_build.specs.Worlds.{Adds}
use Rattle.packed_rows.specs.declared.row.Row.{Row}
use Rattle.packed_rows.specs.Loads.{rows_hold}
use Rattle.ground_expr.specs.Asked.{holds_for}
use Rattle.ground_model.specs.RowsAsked.{AreRowsWhere}
use Rattle.ground_model.proofs.RowSteps.{rows_stated}
use Rattle.ground_model.proofs.rows.require_packed.Goals as goal

pub returns : goal.returns
returns c =
    let known = c.args.known.now in
    let are = subst (λ o. IfSome o (λ rows. AreRowsWhere known c.rows_for.new.maker (λ values. list_all (λ n. holds_for c.args.objects.now values c.args.constraint.now (Some n)) c.args.members.now) rows.items)) c.in-Some.is c.in_ok-found.ensures.rows in
    let says = subst (λ (z : List Row). Adds [] c.rows_for.new.maker c.pack_rows.new.maker (λ a. not c.in_ok-packs.packs || rows_hold z a)) c.as_slice.ensures.value c.in_ok-packs.ensures.says in
    record {
      says = rows_stated known c.args.maker.now c.rows_for.new.maker c.pack_rows.new.maker (λ values. list_all (λ n. holds_for c.args.objects.now values c.args.constraint.now (Some n)) c.args.members.now) c.in-Some.rows.items c.in_ok-packs.packs c.in_ok-found.ensures.adds are says;
    }
