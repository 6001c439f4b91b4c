use Rattle.std.proofs.Common.{◌≡◌, ◌∷◌, [], ◌++◌, ◌∙◌, ◌<◌, List, ℕ, ap, length, subst, sym}
use Rattle.std.specs.List.{All}
use Rattle.signed_clause.specs.Clauses.{Literals}
use Rattle.clause_watches.specs.declared.packed.PackedLiteral.{PackedLiteral}
use Rattle.clause_watches.specs.declared.rest.Rest.{Rest}
use Rattle.clause_watches.specs.Sound.{AreClauses, ArePacked, AreLinked}
use Rattle.clause_watches.proofs.LinkLaws.{linked_added, clauses_added}
use Rattle.clause_watches.proofs.PackLaws.{packed_added}
use Rattle.clause_watches.proofs.build.add_clause.Goals as goal

pub returns-clause-sound : goal.returns-clause-sound
returns-clause-sound c =
    let t = c.args.table.now in
    let a : ℕ × Literals = (c.args.number, c.args.clause) in
    let sound = c.requires.sound in
    let added : c.push_reserved.new.self.items ≡ t.added.items ++ a ∷ [] =
    c.push_reserved.ensures.items
    ∙ ap (λ (l : List (ℕ × Literals)). l ++ a ∷ []) c.in_ok-reserve.ensures.items in
    let packed : c.push_reserved-2.new.self.items
    ≡ t.packed.items ++ c.in_ok-packed.packed ∷ [] =
    c.push_reserved-2.ensures.items
    ∙ ap (λ (l : List (List PackedLiteral)). l ++ c.in_ok-packed.packed ∷ [])
    c.in_ok-reserve-2.ensures.items in
    let clauses =
    clauses_added (length t.rows.items) t.added.items a c.check_form.ensures c.requires.within
    sound.clauses in
    let fit = linked_added t.added.items t.rests t.rows.items t.leasts.items t.held.items a
    sound.fit in record {
      leasts_size = sound.leasts_size;
      held_size = sound.held_size;
      changed_size = sound.changed_size;
      clauses = subst (λ (l : List (ℕ × Literals)). AreClauses (length t.rows.items) l)
          (sym added) clauses;
      packed = subst (λ (l : List (ℕ × Literals)). ArePacked t.leasts.items l
          c.push_reserved-2.new.self.items) (sym added)
          (subst (λ (q : List (List PackedLiteral)). ArePacked t.leasts.items
          (t.added.items ++ a ∷ []) q) (sym packed)
          (packed_added t.leasts.items t.added.items a t.packed.items c.in_ok-packed.packed
          sound.packed c.in_ok-packed.ensures));
      fit = subst (λ (l : List (ℕ × Literals)). AreLinked l c.push.new.self t.rows.items
          t.leasts.items t.held.items) (sym added)
          (subst (λ (q : List Rest). AreLinked (t.added.items ++ a ∷ []) q t.rows.items
          t.leasts.items t.held.items) (sym c.in_ok-push.ensures.ok) fit);
    }

pub pack-requires : goal.pack-requires
pack-requires c =
    subst (λ (n : ℕ). All (λ l. l.0 < n) c.args.clause) (sym c.requires.sound.leasts_size)
    c.requires.within
