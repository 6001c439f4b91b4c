use Rattle.std.proofs.Common.{◌≡◌, ◌++◌, drop, map, option_map}
use Rattle.site_model.specs.Goals.{kept_seen}
use Rattle.site_drafts.specs.Paired.{kept_from}
use Rattle.site_tables.specs.Views.{row_seen}
use Rattle.site_drafts.proofs.todays.paired.Given as goal

-- what is made and what is left to make are all
abbrev pub invariant-loop-place : goal.invariant-loop-place
invariant-loop-place l =
    map kept_seen l.list.items
    ++ kept_from l.place (map row_seen (drop l.place l.services)) (map (option_map (λ h. h.now)) l.hosts)
    ≡ kept_from 0 (map row_seen l.services) (map (option_map (λ h. h.now)) l.hosts)
