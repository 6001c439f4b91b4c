use Rattle.std.proofs.Common.{◌≡◌, ◌≤◌, ◌+◌, ◌||◌, List, ℤ, drop, take, length}
use Rattle.object_alloc.specs.Changes.{is_changed}
use Rattle.form_build.specs.Worlds.{IsWorld}
use Rattle.form_truths.specs.Disjunctions.{disjunction_at, IsWithin}
use Rattle.reconfigure.proofs.changed.changed_cells.Given as goal

-- the cells so far, and what is left
abbrev pub invariant-loop-i : goal.invariant-loop-i
invariant-loop-i l =
    record {
      value : (a : List ℤ) → IsWorld l.maker a → (disjunction_at l.d a || is_changed (drop l.i l.hints) (drop (l.first + l.i) (take l.maker.search a))) ≡ is_changed l.hints (drop l.first (take l.maker.search a));
      exist : IsWithin (length l.maker.domains) l.d.1;
      few : length l.d.1 ≤ l.i;
    }
