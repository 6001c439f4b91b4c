use Rattle.std.proofs.Common.{◌≡◌, bytes_eq, drop, map}
use Rattle.std.specs.List.{list_any}
use Rattle.site_names.proofs.word.is_one_of.Given as goal

-- what is left decides
abbrev pub invariant-loop-one : goal.invariant-loop-one
invariant-loop-one l =
    list_any (bytes_eq l.word) (map (λ w. w.now) (drop l.one-index l.words))
    ≡ list_any (bytes_eq l.word) (map (λ w. w.now) l.words)
