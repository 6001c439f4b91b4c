-- What the steps of writing a page hand on.
use Rattle.std.specs.Prelude.{ℕ, ◌≡◌, List, ◌∷◌, ◌++◌}
use Rattle.serde_json.specs.Data.{Data}
use Rattle.view_page.specs.Entries.{PageEntry}
use Rattle.view_page.specs.Page.{PageWish, IsAnswerText, AreShown}

-- the text of an answer was added
pub record HasAnswer (w : PageWish) (n : ℕ) (d e : Data) (old new : List ℕ) : Type 0 where
  pub here : List ℕ
  pub answer : IsAnswerText w n d e here
  pub same : new ≡ old ++ here

-- what these entries add was added
pub record HasShown (w : PageWish) (n : ℕ) (d : Data) (xs : List PageEntry) (old new : List ℕ) : Type 0 where
  pub body : List ℕ
  pub are_shown : AreShown w n d xs body
  pub same : new ≡ old ++ body

-- so much was shown of all entries: whatever those that are left add, with it all is shown
abbrev pub IsShownSo : PageWish → ℕ → Data → List PageEntry → Data → List PageEntry → List ℕ → List ℕ → Type 0
IsShownSo w n d left former all old now =
    (more : List ℕ) → AreShown w n d left more → HasShown w 0 former all old (now ++ more)

-- one entry more
abbrev pub ShowsNext : PageWish → ℕ → Data → PageEntry → ℕ → Data → List ℕ → List ℕ → Type 0
ShowsNext w n d x m e now next =
    (left all : List PageEntry) (former : Data) (old : List ℕ)
    → IsShownSo w n d (x ∷ left) former all old now → IsShownSo w m e left former all old next
