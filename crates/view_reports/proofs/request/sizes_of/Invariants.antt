use Rattle.std.proofs.Common.{◌≡◌, ◌++◌, drop, map, string_bytes}
use Rattle.view_picture.specs.PictureViews.{size_seen}
use Rattle.view_reports.specs.Words.{size_of}
use Rattle.view_reports.proofs.request.sizes_of.Given as goal

-- what was read, with the words that are left, decides
abbrev pub invariant-loop-word : goal.invariant-loop-word
invariant-loop-word l =
    map size_seen l.sizes.items ++ map size_of (map string_bytes (drop l.word-index l.words))
    ≡ map size_of (map string_bytes l.words)
