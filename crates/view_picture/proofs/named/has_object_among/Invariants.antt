use Rattle.std.proofs.Common.{◌≡◌, drop}
use Rattle.std.specs.List.{list_any}
use Rattle.serde_json.specs.View.{view}
use Rattle.view_picture.specs.Named.{is_object_named}
use Rattle.view_picture.specs.Views.{paths_seen}
use Rattle.view_picture.proofs.named.has_object_among.Given as goal

-- what is left decides
abbrev pub invariant-loop-part : goal.invariant-loop-part
invariant-loop-part l =
    list_any (is_object_named (view l.whole) l.word) (paths_seen (drop l.part-index l.parts))
    ≡ list_any (is_object_named (view l.whole) l.word) (paths_seen l.parts)
