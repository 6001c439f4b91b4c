-- The page of a session. What a reader believes after this file: for each configuration that
-- answers an event there is what moved since the one before, as the plan tells it, and its picture;
-- nothing is a script or names what lies outside.
use Rattle.std.specs.Prelude.{ℕ, ◌+◌, ◌≡◌, Bool, true, false, List, [], ◌∷◌, ◌++◌, codes, decimal}
use Rattle.std.specs.List.{list_all, list_any}
use Rattle.serde_json.specs.Data.{Data}
use Rattle.view_drawing.specs.Shapes.{escaped}
use Rattle.view_drawing.specs.Svg.{svg_text}
use Rattle.view_leaves.specs.Leaves.{leaves}
use Rattle.view_picture.specs.Named.{has_attribute}
use Rattle.view_picture.specs.Picture.{PictureSize, holdings}
use Rattle.view_plan.specs.Plan.{PlanLine, IsPlan}
use Rattle.view_plan.specs.Text.{plan_text, shows_fraction}
use Rattle.view_tables.specs.Chosen.{chosen}
use Rattle.view_page.specs.Entries.{PageEntry, shown, missing, said, AreEntries, HasNoEntry}
use Rattle.view_page.specs.declared.page.PageError.{PageError}
use Rattle.view_page.specs.declared.page.PageError.TheVariants.{NotJson, NoAttribute, Memory}

-- the attribute by which guests refer to holders, and the sizes
pub record PageWish : Type 0 where
  pub attribute : List ℕ
  pub sizes : List PictureSize

-- ---- what stands on the page

unfoldable pub head_text : List ℕ
head_text =
    codes "<!DOCTYPE html>\n<html lang=\"en\">\n<head>\n<meta charset=\"utf-8\"/>\n<title>session</title>\n<style>\nbody { font: 14px monospace; margin: 16px; color: #111827 }\nsection { display: flex; flex-wrap: wrap; gap: 24px; padding: 8px 0; border-top: 1px solid #9ca3af; content-visibility: auto; contain-intrinsic-size: auto 600px }\nh2 { margin: 0; font-size: 16px }\npre { max-height: 90vh; overflow: auto }\n</style>\n</head>\n<body>\n"

abbrev pub tail_text : List ℕ
tail_text = codes "</body>\n</html>\n"

-- the number of an answer
abbrev pub title_text : ℕ → List ℕ
title_text n = codes "<section><div><h2>" ++ (decimal n ++ codes "</h2>\n")

-- a text in a box of its own
abbrev pub boxed_text : List ℕ → List ℕ
boxed_text text = codes "<pre>" ++ (escaped text ++ codes "</pre></div>\n")

unfoldable pub drawn_text : PageWish → Data → List ℕ
drawn_text w d = svg_text [] (holdings d w.attribute w.sizes (leaves d))

abbrev pub picture_text : PageWish → Data → List ℕ
picture_text w d = drawn_text w d ++ codes "</section>\n"

-- an answer that is a configuration, and what moved
abbrev pub answer_text : PageWish → ℕ → List ℕ → Data → List ℕ
answer_text w n moved d = title_text n ++ (boxed_text moved ++ picture_text w d)

-- an answer that there is none
abbrev pub missing_text : ℕ → List ℕ
missing_text n = title_text n ++ (boxed_text (codes "none exists\n") ++ codes "</section>\n")

-- what is said beside an answer
abbrev pub said_text : List ℕ → List ℕ
said_text line = codes "<p>" ++ (escaped line ++ codes "</p>\n")

-- ---- what each entry adds

-- the plan from one configuration to the next, of the leaves of one name; how the digits of a number
-- with a fraction are spelled isn't said
pub record IsMoved (a : List ℕ) (d e : Data) (text : List ℕ) : Type 0 where
  pub lines : List PlanLine
  pub plan : IsPlan (leaves d) (leaves e) lines
  pub same : list_any shows_fraction (chosen (a ∷ []) lines) ≡ false
      → text ≡ plan_text (chosen (a ∷ []) lines)

-- what a configuration adds that answers event n, behind another one
pub record IsAnswerText (w : PageWish) (n : ℕ) (d e : Data) (text : List ℕ) : Type 0 where
  pub moved : List ℕ
  pub is_moved : IsMoved w.attribute d e moved
  pub same : text ≡ answer_text w n moved e

-- what these entries add behind n answers, of which the last configuration is d
abbrev pub AreShown : PageWish → ℕ → Data → List PageEntry → List ℕ → Type 0
AreShown w n d [] text = text ≡ []
AreShown w n d (shown e ∷ xs) text =
    (here more : List ℕ) × (text ≡ here ++ more) × IsAnswerText w (n + 1) d e here
    × AreShown w (n + 1) e xs more
AreShown w n d (missing ∷ xs) text =
    (more : List ℕ) × (text ≡ missing_text (n + 1) ++ more) × AreShown w (n + 1) d xs more
AreShown w n d (said line ∷ xs) text =
    (more : List ℕ) × (text ≡ said_text line ++ more) × AreShown w n d xs more

-- an entry that is a configuration has such an attribute
abbrev pub is_named : List ℕ → PageEntry → Bool
is_named a (shown e) = has_attribute a (leaves e)
is_named a missing = true
is_named a (said line) = true

-- the page of what a session printed, behind a former configuration
pub record IsPage (w : PageWish) (d : Data) (answers page : List ℕ) : Type 0 where
  pub entries : List PageEntry
  pub read : AreEntries answers entries
  pub named : list_all (is_named w.attribute) entries ≡ true
  pub body : List ℕ
  pub are_shown : AreShown w 0 d entries body
  pub same : page ≡ head_text ++ (body ++ tail_text)

-- the text is read, and some configuration has no such attribute
pub record LacksAttribute (w : PageWish) (answers : List ℕ) : Type 0 where
  pub entries : List PageEntry
  pub read : AreEntries answers entries
  pub lacks : list_all (is_named w.attribute) entries ≡ false

-- why there is no page
abbrev pub IsNoPage : PageWish → List ℕ → PageError → Type 0
IsNoPage w answers NotJson = HasNoEntry answers NotJson
IsNoPage w answers NoAttribute = LacksAttribute w answers
IsNoPage w answers Memory = Unit {0}
