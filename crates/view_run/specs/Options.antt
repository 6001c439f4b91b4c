-- The words behind the file and the attribute of a picture, or behind the files and the attribute of
-- steps: sizes, as `cpu` or `cpu=room`, the words `--svg` and `--table`, and `--failed` and `--by-way`
-- with a path behind each; and those behind the files of a plan: `--table`, and `--only` and
-- `--weights`, each with a name behind it.
use Rattle.std.specs.Prelude.{ℕ, Bool, true, false, not, ◌&&◌, ◌||◌, ◌==◌, if◌then◌else◌, nat_eq, nat_lt, List, [], ◌∷◌, ◌++◌, Option, None, Some, codes, bytes_eq, length}
use Rattle.std.specs.List.{starts_with, before_first, after_first, position_or_len}
use Rattle.view_picture.specs.Picture.{PictureSize}

-- a word that begins with a dash; such a file is named as `./-name`
abbrev pub is_option : List ℕ → Bool
is_option word = starts_with nat_eq word (codes "-")

abbrev pub is_svg : List ℕ → Bool
is_svg word = bytes_eq word (codes "--svg")

abbrev pub is_table : List ℕ → Bool
is_table word = bytes_eq word (codes "--table")

abbrev pub is_failed : List ℕ → Bool
is_failed word = bytes_eq word (codes "--failed")

abbrev pub is_by_way : List ℕ → Bool
is_by_way word = bytes_eq word (codes "--by-way")

-- a word that has a path behind it
abbrev pub takes_path : List ℕ → Bool
takes_path word = is_failed word || is_by_way word

-- a word that is no size, and none of the words that stand alone
abbrev pub is_wrong : List ℕ → Bool
is_wrong word = is_option word && not (is_svg word) && not (is_table word)

-- whether words are options, one of which may name a stop where this is so; the first is a path
-- where one is waited for
abbrev pub are_options : Bool → Bool → List (List ℕ) → Bool
are_options may waits [] = not waits
are_options may true (w ∷ ws) = are_options may false ws
are_options may false (w ∷ ws) =
    if is_failed w then are_options may true ws
    else if is_by_way w then may && are_options false true ws
    else if is_wrong w then false else are_options may false ws

-- a name, or two with `=` between them
abbrev pub is_equals : ℕ → Bool
is_equals b = b == 61

abbrev pub size_of : List ℕ → PictureSize
size_of w =
    if nat_lt (position_or_len is_equals w) (length w)
    then record { name = before_first is_equals w; capacity = after_first is_equals w }
    else record { name = w; capacity = w }

abbrev pub sizes_of : Bool → List (List ℕ) → List PictureSize
sizes_of waits [] = []
sizes_of true (w ∷ ws) = sizes_of false ws
sizes_of false (w ∷ ws) =
    if takes_path w then sizes_of true ws
    else if is_option w then sizes_of false ws else size_of w ∷ sizes_of false ws

-- the paths of what failed; whether a path is waited for, and whether of what failed
abbrev pub failed_among : Bool → Bool → List (List ℕ) → List (List ℕ)
failed_among waits wanted [] = []
failed_among true wanted (w ∷ ws) =
    (if wanted then w ∷ [] else []) ++ failed_among false false ws
failed_among false wanted (w ∷ ws) = failed_among (takes_path w) (is_failed w) ws

abbrev pub failed_of : List (List ℕ) → List (List ℕ)
failed_of words = failed_among false false words

-- the path of the stop, likewise
abbrev pub stop_among : Bool → Bool → List (List ℕ) → Option (List ℕ)
stop_among waits wanted [] = None
stop_among true wanted (w ∷ ws) = if wanted then Some w else stop_among false false ws
stop_among false wanted (w ∷ ws) = stop_among (takes_path w) (is_by_way w) ws

abbrev pub stop_of : List (List ℕ) → Option (List ℕ)
stop_of words = stop_among false false words

-- whether a table is asked for
abbrev pub wants_table : Bool → List (List ℕ) → Bool
wants_table waits [] = false
wants_table true (w ∷ ws) = wants_table false ws
wants_table false (w ∷ ws) = if is_table w then true else wants_table (takes_path w) ws

-- whether SVG is asked for
abbrev pub wants_svg : Bool → List (List ℕ) → Bool
wants_svg waits [] = false
wants_svg true (w ∷ ws) = wants_svg false ws
wants_svg false (w ∷ ws) = if is_svg w then true else wants_svg (takes_path w) ws

-- ---- plans

-- a word that has a name behind it
abbrev pub takes_name : List ℕ → Bool
takes_name word = bytes_eq word (codes "--only") || bytes_eq word (codes "--weights")

-- whether words are the options of a plan; the first is a name where one is waited for
abbrev pub are_choices : Bool → List (List ℕ) → Bool
are_choices waits [] = not waits
are_choices true (w ∷ ws) = are_choices false ws
are_choices false (w ∷ ws) =
    if takes_name w then are_choices true ws
    else if is_table w then are_choices false ws else false

-- the names behind this word; whether one is waited for, and whether by it
abbrev pub names_behind : List ℕ → Bool → Bool → List (List ℕ) → List (List ℕ)
names_behind word waits wanted [] = []
names_behind word true wanted (w ∷ ws) =
    (if wanted then w ∷ [] else []) ++ names_behind word false false ws
names_behind word false wanted (w ∷ ws) = names_behind word (takes_name w) (bytes_eq w word) ws

abbrev pub only_of : List (List ℕ) → List (List ℕ)
only_of words = names_behind (codes "--only") false false words

abbrev pub weights_of : List (List ℕ) → List (List ℕ)
weights_of words = names_behind (codes "--weights") false false words

-- whether weights are asked for
abbrev pub has_weights : Bool → List (List ℕ) → Bool
has_weights waits [] = false
has_weights true (w ∷ ws) = has_weights false ws
has_weights false (w ∷ ws) =
    if bytes_eq w (codes "--weights") then true else has_weights (takes_name w) ws

-- whether a plan is asked for as a table
abbrev pub lists_table : Bool → List (List ℕ) → Bool
lists_table waits [] = false
lists_table true (w ∷ ws) = lists_table false ws
lists_table false (w ∷ ws) = if is_table w then true else lists_table (takes_name w) ws
