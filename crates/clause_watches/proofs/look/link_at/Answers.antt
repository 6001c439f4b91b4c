use Rattle.std.proofs.Common.{◌≡◌, ◌∙◌, ◌<◌, ℕ, ℤ, List, true, false, [], ap, length, refl, slice_index_or, subst, sym}
use Rattle.clause_watches.specs.declared.rest.Rest.{Rest}
use Rattle.clause_watches.specs.Watching.{clause_of, rest_of}
use Rattle.clause_watches.specs.Rows.{names}
use Rattle.clause_watches.specs.Looking.{IsOut}
use Rattle.clause_watches.proofs.PackLaws.{copy_there, variable_below, named_out, disjoint_out, link_made, none_from}
use Rattle.clause_watches.proofs.VisitLaws.{clause_form}
use Rattle.clause_watches.proofs.look.link_at.Goals as goal

pub returns-then-names-clause-none : goal.returns-then-names-clause-none
returns-then-names-clause-none c = λ d.
    let t = c.args.table.now in
    let p = c.packed_at-l.result in
    let copy = copy_there t.leasts.items t.added.items t.packed.items c.as_slice.result.now
    c.args.i c.args.k p c.requires.sound.packed c.as_slice.ensures.value c.requires.there
    c.requires.within c.packed_at-l.ensures d in
    let named : names (rest_of t.rests c.args.i) p.variable ≡ true =
    ap (λ (r : Rest). names r p.variable) (sym c.get.ensures) ∙ sym c.names.ensures
    ∙ c.if-names.true in
    named_out c.args.boxes.now t.leasts.items (rest_of t.rests c.args.i) _ p copy named

pub box_at-requires : goal.box_at-requires
box_at-requires c =
    let t = c.args.table.now in
    let p = c.packed_at-l.result in
    let copy = copy_there t.leasts.items t.added.items t.packed.items c.as_slice.result.now
    c.args.i c.args.k p c.requires.sound.packed c.as_slice.ensures.value c.requires.there
    c.requires.within c.packed_at-l.ensures (0, []) in
    subst (λ (n : ℕ). p.variable < n) (sym c.requires.boxes)
    (variable_below (length t.rows.items) t.leasts.items t.added.items c.args.i c.args.k p
    c.requires.sound.clauses c.requires.there c.requires.within copy)

pub witness_by-requires-clause-leasts : goal.witness_by-requires-clause-leasts
witness_by-requires-clause-leasts c =
    let t = c.args.table.now in
    let p = c.packed_at-l.result in
    let copy = copy_there t.leasts.items t.added.items t.packed.items c.as_slice.result.now
    c.args.i c.args.k p c.requires.sound.packed c.as_slice.ensures.value c.requires.there
    c.requires.within c.packed_at-l.ensures (0, []) in
    subst (λ (n : ℕ). p.variable < n) (sym c.requires.sound.leasts_size)
    (variable_below (length t.rows.items) t.leasts.items t.added.items c.args.i c.args.k p
    c.requires.sound.clauses c.requires.there c.requires.within copy)

pub witness_by-requires-clause-copy : goal.witness_by-requires-clause-copy
witness_by-requires-clause-copy c = λ d.
    let t = c.args.table.now in
    copy_there t.leasts.items t.added.items t.packed.items c.as_slice.result.now
    c.args.i c.args.k c.packed_at-l.result c.requires.sound.packed c.as_slice.ensures.value
    c.requires.there c.requires.within c.packed_at-l.ensures d

pub returns-in_err-witness-clause-none : goal.returns-in_err-witness-clause-none
returns-in_err-witness-clause-none c =
    let t = c.args.table.now in
    let rest = rest_of t.rests c.args.i in
    let p = c.packed_at-l.result in
    let none : (d : ℕ × List (ℤ × ℤ)) → IsOut c.args.boxes.now rest
    (slice_index_or (clause_of t.added.items c.args.i) c.args.k d) = λ d.
    disjoint_out c.args.boxes.now t.leasts.items rest c.box_at.result.now _ p
    (copy_there t.leasts.items t.added.items t.packed.items c.as_slice.result.now
    c.args.i c.args.k p c.requires.sound.packed c.as_slice.ensures.value c.requires.there
    c.requires.within c.packed_at-l.ensures d) c.box_at.ensures (c.in_err-witness.ensures.none d) in
    none_from c.from_residual.result _ none

pub returns-clause-some : goal.returns-clause-some
returns-clause-some c =
    let t = c.args.table.now in
    let p = c.packed_at-l.result in
    let copy = copy_there t.leasts.items t.added.items t.packed.items c.as_slice.result.now
    c.args.i c.args.k p c.requires.sound.packed c.as_slice.ensures.value c.requires.there
    c.requires.within c.packed_at-l.ensures (0, []) in
    let unnamed : names (rest_of t.rests c.args.i) p.variable ≡ false =
    ap (λ (r : Rest). names r p.variable) (sym c.get.ensures) ∙ sym c.names.ensures
    ∙ c.if-names.false in
    let below : p.variable < length c.args.boxes.now =
    subst (λ (n : ℕ). p.variable < n) (sym c.requires.boxes)
    (variable_below (length t.rows.items) t.leasts.items t.added.items c.args.i c.args.k p
    c.requires.sound.clauses c.requires.there c.requires.within copy) in
    link_made c.args.boxes.now t.added.items t.leasts.items c.args.i c.args.k
    (rest_of t.rests c.args.i) (0, []) p c.box_at.result.now
    record {
      variable = p.variable;
      watch = record {
        clause = c.args.i;
        witness = c.in_ok-witness.witness;
      };
      place = c.args.k;
    }
    (clause_form t.added.items c.args.i c.requires.sound.clauses.forms) c.requires.within copy
    unnamed c.box_at.ensures below (c.in_ok-witness.ensures.some (0, [])) refl refl
