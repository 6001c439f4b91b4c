use Rattle.std.proofs.Common.{◌≡◌, ◌<◌, ◌||◌, Bool, false, nat_eq, List, [], ◌∷◌, length, length-append, sym, ap, ◌∙◌, subst, arith}
use Rattle.std.specs.List.{list_any}
use Rattle.std.proofs.lemmas.List.{get_or_read}
use Rattle.object_alloc.specs.declared.object.Object.{Object}
use Rattle.object_alloc.specs.Paths.{owner_in}
use Rattle.object_alloc.specs.Walk.{objects}
use Rattle.reconfigure.specs.Marking.{is_in_some, is_owner_marked, AreMarks}
use Rattle.reconfigure.proofs.MarkLaws.{mark_is, marks_more}
use Rattle.reconfigure.proofs.marks.marks_of.Goals as goal

pub loop-n-preserved : goal.loop-n-preserved
loop-n-preserved c =
    let o = c.args.objects.now in
    let ws = c.args.numbers.now in
    let n = c.loop-n.n in
    let marks = c.loop-n.marks.items in
    let there = c.loop-n.invariant in
    let e = c.objects-list.ensures.objects in
    let lt : n < length (objects o) = omega (arith, c.loop-n-test.true, ap (λ (xs : List Object). length xs) e) in
    let up : c.owner_at.result ≡ owner_in (objects o) n = c.owner_at.ensures ∙ ap (λ (xs : List Object). owner_in xs n) e in
    let low : n < length c.in_ok-own.own.items = omega (arith, c.loop-n-test.true, c.in_ok-own.ensures.count) in
    let own : c.index.result.now ≡ list_any (nat_eq n) ws =
    get_or_read c.in_ok-own.own.items n c.index.result.now low c.index.ensures false ∙ c.in_ok-own.ensures.marks n c.loop-n-test.true in
    let held : c.is_owner_marked-held.result ≡ is_owner_marked marks c.owner_at.result =
    c.is_owner_marked-held.ensures ∙ ap (λ (ms : List Bool). is_owner_marked ms c.owner_at.result) c.deref.ensures.value in
    let mark : c.either.result ≡ is_in_some o ws n =
    c.either.ensures ∙ ap (λ (b : Bool). c.index.result.now || b) held ∙ mark_is o ws marks c.index.result.now c.owner_at.result n lt there.count up own there.marks in
    record {
      count = let size = length-append marks (c.either.result ∷ []) in omega (arith, size, ap (λ (xs : List Bool). length xs) c.in_ok-push.ensures.items, there.count);
      marks = subst (λ (xs : List Bool). AreMarks o ws xs) (sym c.in_ok-push.ensures.items) (marks_more o ws marks c.either.result n there.count mark there.marks);
    }
