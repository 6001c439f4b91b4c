-- Words that name objects, behind an event.
use Rattle.std.proofs.Common.{◌≡◌, ℕ, ◌+◌, Bool, true, false, not, cond, List, [], ◌∷◌, ◌++◌, Option, None, Some, IsSome, refl, filter}
use Rattle.std.specs.Prelude.{is_some}
use Rattle.std.specs.List.{list_any}
use Rattle.class_table.specs.Outline.{Outline}
use Rattle.class_table.specs.Same.{same_name}
use Rattle.conf_events.specs.declared.event.Event.{Event}
use Rattle.object_alloc.specs.Paths.{object_named}
use Rattle.reconfigure.specs.Failing.{unknown_from, unknown_word}
use Rattle.conf_session.specs.Failed.{with_word, without_word, failed_behind}

-- a walk that finds nothing unknown names the first word, and finds nothing behind it
known_here : (b : Bool) (n : ℕ) (rest : Option ℕ) → cond b rest (Some n) ≡ None → (b ≡ true) × (rest ≡ None)
known_here true n rest e = (refl, e)
known_here false n rest e = absurd cc

known_more : (b : Bool) (n : ℕ) (rest : Option ℕ) → b ≡ true → rest ≡ None → cond b rest (Some n) ≡ None
known_more true n rest h e = e
known_more false n rest h e = absurd cc

known_with : (o : Outline) (n : ℕ) (ws : List (List ℕ)) (w : List ℕ) → unknown_from o n ws ≡ None → is_some (object_named o w) ≡ true → unknown_from o n (ws ++ w ∷ []) ≡ None
known_with o n [] w e h = known_more (is_some (object_named o w)) n None h refl
known_with o n (v ∷ ws) w e h =
    let parts = known_here (is_some (object_named o v)) n (unknown_from o (n + 1) ws) e in
    known_more (is_some (object_named o v)) n (unknown_from o (n + 1) (ws ++ w ∷ [])) parts.0 (known_with o (n + 1) ws w parts.1 h)

known_filtered : (p : List ℕ → Bool) (o : Outline) (n m : ℕ) (ws : List (List ℕ)) → unknown_from o n ws ≡ None → unknown_from o m (filter p ws) ≡ None
known_filtered p o n m [] e = refl
known_filtered p o n m (w ∷ ws) e =
    let parts = known_here (is_some (object_named o w)) n (unknown_from o (n + 1) ws) e in
    elim (p w) as (λ b. unknown_from o m (cond b (w ∷ filter p ws) (filter p ws)) ≡ None) [
      | true ↦ known_more (is_some (object_named o w)) m (unknown_from o (m + 1) (filter p ws)) parts.0 (known_filtered p o (n + 1) (m + 1) ws parts.1)
      | false ↦ known_filtered p o (n + 1) m ws parts.1
    ]

with_known : (o : Outline) (w : List ℕ) (ws : List (List ℕ)) → unknown_word o ws ≡ None → is_some (object_named o w) ≡ true → unknown_word o (with_word w ws) ≡ None
with_known o w ws e h =
    elim (list_any (same_name w) ws) as (λ b. unknown_word o (cond b ws (ws ++ w ∷ [])) ≡ None) [
      | true ↦ e
      | false ↦ known_with o 1 ws w e h
    ]

-- behind an event of an object each word still names one
pub behind_known : (o : Outline) (e : Event) (ws : List (List ℕ)) → unknown_word o ws ≡ None → IsSome (object_named o e.path) → unknown_word o (failed_behind e ws) ≡ None
behind_known o e ws known named =
    elim e.fails as (λ b. unknown_word o (cond b (with_word e.path ws) (without_word e.path ws)) ≡ None) [
      | true ↦ with_known o e.path ws known named
      | false ↦ known_filtered (λ w. not (same_name e.path w)) o 1 1 ws known
    ]
