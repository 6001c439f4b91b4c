-- What words ask for.
use Rattle.std.specs.Prelude.{ℕ, Bool, true, false, not, ◌&&◌, if◌then◌else◌, List, [], ◌∷◌, Option, None, Some, codes, bytes_eq, map, string_bytes}
use Rattle.view_run.specs.Options.{is_option, are_options, are_choices, has_weights, lists_table, wants_svg, wants_table}
use Rattle.view_run.specs.declared.request.PlanRequest.{PlanRequest}
use Rattle.view_run.specs.declared.request.PictureRequest.{PictureRequest}
use Rattle.view_run.specs.declared.request.StepsRequest.{StepsRequest}
use Rattle.view_run.specs.declared.request.Request.{Request}
use Rattle.view_run.specs.declared.request.Request.TheVariants as request

-- the files that a plan is asked of, and the words behind
pub record PlanAsked : Type 0 where
  pub former : List ℕ
  pub new : List ℕ
  pub options : List (List ℕ)

-- the file and the attribute that a picture is asked of, and the words behind
pub record PictureAsked : Type 0 where
  pub config : List ℕ
  pub attribute : List ℕ
  pub options : List (List ℕ)

-- the files and the attribute that steps are asked of, and the words behind
pub record StepsAsked : Type 0 where
  pub former : List ℕ
  pub new : List ℕ
  pub attribute : List ℕ
  pub options : List (List ℕ)

pub data Asked : Type 0 where
  plan : PlanAsked → Asked
  picture : PictureAsked → Asked
  steps : StepsAsked → Asked

-- the options of `plan`: `--only`, `--weights` and `--table`; a table has no weights
abbrev pub is_choice : List (List ℕ) → Bool
is_choice words =
    are_choices false words && not (lists_table false words && has_weights false words)

-- `plan` is asked of two files, with options behind
abbrev pub plan_asked : List (List ℕ) → Option Asked
plan_asked [] = None
plan_asked (a ∷ []) = None
plan_asked (a ∷ b ∷ more) =
    if not (is_option a) && not (is_option b) && is_choice more
    then Some (plan (record { former = a; new = b; options = more })) else None

-- the options of `picture`: sizes, `--failed`, and one of `--svg` and `--table`
abbrev pub are_drawn : List (List ℕ) → Bool
are_drawn words =
    are_options false false words && not (wants_svg false words && wants_table false words)

-- `picture` of a file and an attribute, with sizes, `--svg` or `--table`, and `--failed` behind
abbrev pub picture_asked : List (List ℕ) → Option Asked
picture_asked [] = None
picture_asked (a ∷ []) = None
picture_asked (a ∷ b ∷ more) =
    if not (is_option a) && not (is_option b) && are_drawn more
    then Some (picture (record { config = a; attribute = b; options = more })) else None

-- the options of `steps`: sizes, `--failed`, and `--by-way` at most once
abbrev pub are_sizes : List (List ℕ) → Bool
are_sizes words =
    are_options true false words && not (wants_svg false words) && not (wants_table false words)

-- `steps` of two files and an attribute, with sizes, `--failed` and `--by-way` behind
abbrev pub steps_asked : List (List ℕ) → Option Asked
steps_asked [] = None
steps_asked (a ∷ []) = None
steps_asked (a ∷ b ∷ []) = None
steps_asked (a ∷ b ∷ c ∷ more) =
    if not (is_option a) && not (is_option b) && not (is_option c) && are_sizes more
    then Some (steps (record { former = a; new = b; attribute = c; options = more })) else None

-- what the words behind the program's name ask for
abbrev pub asked : List (List ℕ) → Option Asked
asked [] = None
asked (command ∷ words) =
    if bytes_eq command (codes "plan") then plan_asked words
    else if bytes_eq command (codes "picture") then picture_asked words
    else if bytes_eq command (codes "steps") then steps_asked words else None

abbrev pub plan_seen : PlanRequest → PlanAsked
plan_seen r = record {
  former = r.former.now;
  new = r.new.now;
  options = map string_bytes r.options.now;
}

abbrev pub picture_seen : PictureRequest → PictureAsked
picture_seen r = record {
  config = r.config.now;
  attribute = r.attribute.now;
  options = map string_bytes r.options.now;
}

abbrev pub steps_seen : StepsRequest → StepsAsked
steps_seen r = record {
  former = r.former.now;
  new = r.new.now;
  attribute = r.attribute.now;
  options = map string_bytes r.options.now;
}

abbrev pub request_seen : Request → Asked
request_seen (request.Plan r) = plan (plan_seen r)
request_seen (request.Picture r) = picture (picture_seen r)
request_seen (request.Steps r) = steps (steps_seen r)
