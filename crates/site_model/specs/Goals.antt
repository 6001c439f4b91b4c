-- What a placement is to be best at, and the lines that say so.
use Rattle.std.specs.Prelude.{ℕ, Bool, true, false, if◌then◌else◌, List, [], ◌∷◌, ◌++◌, Option, None, Some, codes, decimal, length, map, option_map, unwrap_or}
use Rattle.std.specs.List.{flat_map, list_any}
use Rattle.site_names.specs.Words.{word_of}
use Rattle.site_tables.specs.Columns.{column_of}
use Rattle.site_tables.specs.Grid.{GridRow, behind, header}
use Rattle.site_tables.specs.Values.{longest_at}
use Rattle.site_tables.specs.declared.columns.ServiceColumn.{ServiceColumn}
use Rattle.site_tables.specs.declared.columns.ServiceColumn.TheVariants as service
use Rattle.site_model.specs.Lines.{joined, nines, remark}
use Rattle.site_model.specs.declared.goals.Goal.{Goal}
use Rattle.site_model.specs.declared.goals.Goal.TheVariants as goal
use Rattle.site_model.specs.declared.goals.Kept.{Kept}

-- a service, and the host on which it runs today, if it runs
abbrev pub KeptHost : Type 0
KeptHost = List ℕ × Option (List ℕ)

-- nothing, few hosts in use, an even load of a resource, few moves from today
pub data Aim : Type 0 where
  NoAim : Aim
  FewHosts : Aim
  EvenLoad : List ℕ → Aim
  FewMoves : List KeptHost → Aim

abbrev pub kept_seen : Kept → KeptHost
kept_seen k = (k.name.now, option_map (λ h. h.now) k.host)

abbrev pub aim_of : Goal → Aim
aim_of goal.Nothing = NoAim
aim_of goal.Fewest = FewHosts
aim_of (goal.Spread t) = EvenLoad t.now
aim_of (goal.Keep ks) = FewMoves (map kept_seen ks.now)

-- an attribute of services says whether one has moved, where that is asked
abbrev pub own_attributes : Aim → List ℕ
own_attributes NoAim = []
own_attributes FewHosts = []
own_attributes (EvenLoad t) = []
own_attributes (FewMoves ks) = codes "  var moved as bool;\n"

-- the digits of what a host has of a resource
abbrev pub most_digits : List GridRow → List ℕ → ℕ
most_digits hosts t = longest_at (unwrap_or (column_of t (header hosts)) 0) 1 (behind hosts)

-- no load is greater than `most`; nor are all together greater than so many times `most` as there
-- are hosts, from which the search sees how small it may be
abbrev pub most_line : List ℕ → List ℕ
most_line most = joined (codes "var most as 0.." ∷ most ∷ codes ";\n" ∷ [])

abbrev pub loads_line : List ℕ → List ℕ
loads_line word =
    joined (codes "where forall h in Host { sum s in Service where s.host = h { s." ∷ word
    ∷ codes " } <= most; };\n" ∷ [])

abbrev pub total_line : List ℕ → List ℕ → List ℕ
total_line count word =
    joined (codes "where " ∷ count ∷ codes " * most >= sum s in Service { s." ∷ word
    ∷ codes " };\nminimize most;\n" ∷ [])

abbrev pub spread_text : List GridRow → List ℕ → List ℕ
spread_text hosts t =
    most_line (nines (most_digits hosts t)) ++ loads_line (word_of t)
    ++ total_line (decimal (length (behind hosts))) (word_of t)

-- a service has moved where its host isn't that of today; one that doesn't run has not
abbrev pub kept_by : List ℕ → Option (List ℕ) → List ℕ
kept_by name None = joined (codes "where not " ∷ word_of name ∷ codes ".moved" ∷ remark name)
kept_by name (Some h) =
    joined (codes "where " ∷ word_of name ∷ codes ".moved = (" ∷ word_of name ∷ codes ".host != "
    ∷ word_of h ∷ codes ")" ∷ remark name)

abbrev pub kept_line : KeptHost → List ℕ
kept_line k = kept_by k.0 k.1

-- moves have costs where a column says so
abbrev pub is_moves : ServiceColumn → Bool
is_moves service.Moves = true
is_moves service.Name = false
is_moves (service.Amount k) = false
is_moves service.Apart = false
is_moves (service.ApartBy k) = false
is_moves service.With = false
is_moves (service.Within k) = false
is_moves (service.Without k) = false
is_moves service.Pin = false
is_moves service.Nothing = false

abbrev pub moves_goal : List ServiceColumn → List ℕ
moves_goal sk =
    if list_any is_moves sk then codes "minimize sum s in Service where s.moved { s.moves };\n"
    else codes "minimize count s in Service { s.moved };\n"

abbrev pub goal_text : List ServiceColumn → List GridRow → Aim → List ℕ
goal_text sk hosts NoAim = []
goal_text sk hosts FewHosts =
    codes "minimize count h in Host { exists s in Service { s.host = h; } };\n"
goal_text sk hosts (EvenLoad t) = spread_text hosts t
goal_text sk hosts (FewMoves ks) = flat_map kept_line ks ++ moves_goal sk
