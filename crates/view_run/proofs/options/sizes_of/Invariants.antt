use Rattle.std.proofs.Common.{◌≡◌, ◌++◌, false, drop, map, string_bytes}
use Rattle.view_run.specs.Options.{sizes_of}
use Rattle.view_picture.specs.PictureViews.{size_seen}
use Rattle.view_run.proofs.options.sizes_of.Given as goal

-- what was read, with the words that are left, decides
abbrev pub invariant-loop-word : goal.invariant-loop-word
invariant-loop-word l =
    map size_seen l.sizes.items ++ sizes_of l.waits (map string_bytes (drop l.word-index l.words))
    ≡ sizes_of false (map string_bytes l.words)
