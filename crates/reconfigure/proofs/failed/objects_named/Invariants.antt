use Rattle.std.proofs.Common.{◌≡◌, ◌<◌, length, take}
use Rattle.std.specs.List.{All}
use Rattle.object_alloc.specs.Walk.{objects}
use Rattle.reconfigure.specs.Failing.{objects_named}
use Rattle.reconfigure.proofs.failed.objects_named.Given as goal

-- the objects of the words so far
abbrev pub invariant-loop-word : goal.invariant-loop-word
invariant-loop-word l =
    record {
      numbers : l.numbers.items ≡ objects_named l.objects (take l.word-index l.words);
      there : All (λ n. n < length (objects l.objects)) l.numbers.items;
    }
