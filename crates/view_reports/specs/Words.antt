-- What words ask for.
use Rattle.std.specs.Prelude.{ℕ, Bool, false, not, ◌&&◌, ◌||◌, ◌==◌, if◌then◌else◌, nat_eq, nat_lt, List, [], ◌∷◌, Option, None, Some, codes, bytes_eq, length, map, string_bytes}
use Rattle.std.specs.List.{starts_with, before_first, after_first, list_all, position_or_len}
use Rattle.view_page.specs.Page.{PageWish}
use Rattle.view_picture.specs.Picture.{PictureSize}
use Rattle.view_reports.specs.declared.request.BreaksRequest.{BreaksRequest}
use Rattle.view_reports.specs.declared.request.PageRequest.{PageRequest}
use Rattle.view_reports.specs.declared.request.Request.{Request}
use Rattle.view_reports.specs.declared.request.Request.TheVariants as request

-- the files that breaks are asked of
pub record BreaksAsked : Type 0 where
  pub model : List ℕ
  pub config : List ℕ

-- the files and the attribute that a page is asked of, and the sizes
pub record PageAsked : Type 0 where
  pub former : List ℕ
  pub answers : List ℕ
  pub attribute : List ℕ
  pub sizes : List (List ℕ)

pub data Asked : Type 0 where
  breaks : BreaksAsked → Asked
  page : PageAsked → Asked

-- a word that begins with a dash
abbrev pub is_option : List ℕ → Bool
is_option word = starts_with nat_eq word (codes "-")

abbrev pub are_plain : List (List ℕ) → Bool
are_plain words = list_all (λ w. not (is_option w)) words

-- a name, or two with `=` between them
abbrev pub is_equals : ℕ → Bool
is_equals b = b == 61

abbrev pub size_of : List ℕ → PictureSize
size_of w =
    if nat_lt (position_or_len is_equals w) (length w)
    then record { name = before_first is_equals w; capacity = after_first is_equals w }
    else record { name = w; capacity = w }

-- `breaks` of two files
abbrev pub breaks_asked : List (List ℕ) → Option Asked
breaks_asked [] = None
breaks_asked (a ∷ []) = None
breaks_asked (a ∷ b ∷ []) =
    if not (is_option a) && not (is_option b)
    then Some (breaks (record { model = a; config = b })) else None
breaks_asked (a ∷ b ∷ c ∷ more) = None

-- `page` of two files and an attribute, with sizes behind
abbrev pub page_asked : List (List ℕ) → Option Asked
page_asked [] = None
page_asked (a ∷ []) = None
page_asked (a ∷ b ∷ []) = None
page_asked (a ∷ b ∷ c ∷ more) =
    if not (is_option a) && not (is_option b) && not (is_option c) && are_plain more
    then Some (page (record { former = a; answers = b; attribute = c; sizes = more })) else None

-- what the words behind the program's name ask for
abbrev pub asked : List (List ℕ) → Option Asked
asked [] = None
asked (command ∷ words) =
    if bytes_eq command (codes "breaks") then breaks_asked words
    else if bytes_eq command (codes "page") then page_asked words else None

abbrev pub is_report : List (List ℕ) → Bool
is_report [] = false
is_report (command ∷ words) =
    bytes_eq command (codes "breaks") || bytes_eq command (codes "page")

-- what a page shows
abbrev pub wish_of : PageAsked → PageWish
wish_of a = record { attribute = a.attribute; sizes = map size_of a.sizes }

abbrev pub breaks_seen : BreaksRequest → BreaksAsked
breaks_seen r = record { model = r.model.now; config = r.config.now }

abbrev pub page_seen : PageRequest → PageAsked
page_seen r = record {
  former = r.former.now;
  answers = r.answers.now;
  attribute = r.attribute.now;
  sizes = map string_bytes r.sizes.now;
}

abbrev pub request_seen : Request → Asked
request_seen (request.Breaks r) = breaks (breaks_seen r)
request_seen (request.Page r) = page (page_seen r)
