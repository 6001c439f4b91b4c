use Rattle.std.proofs.Common.{◌≡◌, ◌++◌, ◌-◌, ◌<◌, ◌≤◌, ℕ, length, drop}
use Rattle.std.specs.Prelude.{IfSome}
use Rattle.object_alloc.specs.Paths.{owner_path, path}
use Rattle.object_alloc.specs.Walk.{objects}
use Rattle.object_alloc.proofs.ChainLaws.{Leads}
use Rattle.object_alloc.proofs.objects.Objects.object_at.Given as goal

-- the text is the owner's path and what is left, and what is left leads from the owner to each object with this path
abbrev pub invariant-loop-object : goal.invariant-loop-object
invariant-loop-object l =
    record {
      within : l.from ≤ length l.text;
      owner : IfSome l.owner (λ n. n < length (objects l.self));
      whole : l.text ≡ owner_path (path l.self) l.owner ++ drop l.from l.text;
      left : (n : ℕ) → n < length (objects l.self) → path l.self n ≡ l.text → Leads l.self l.owner (drop l.from l.text) n;
    }

abbrev pub decreases-loop-object : goal.decreases-loop-object
decreases-loop-object l = length l.text - l.from
