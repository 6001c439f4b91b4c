-- What the entries of a page add, one after another.
use Rattle.std.proofs.Common.{◌≡◌, ℕ, ◌+◌, List, [], ◌++◌, refl, ap, sym, ◌∙◌, subst, append_assoc, append-nil}
use Rattle.serde_json.specs.Data.{Data}
use Rattle.view_page.specs.Adding.{HasAnswer, HasShown, IsShownSo, ShowsNext}
use Rattle.view_page.specs.Entries.{PageEntry, shown, missing, said}
use Rattle.view_page.specs.Page.{PageWish, missing_text, said_text}

-- a longer text is the same
behind : (w : PageWish) (former : Data) (all : List PageEntry) (old now next here more : List ℕ) → next ≡ now ++ here → HasShown w 0 former all old (now ++ (here ++ more)) → HasShown w 0 former all old (next ++ more)
behind w former all old now next here more is h = subst (HasShown w 0 former all old) (sym (ap (λ ys. ys ++ more) is ∙ append_assoc now here more)) h

module _ (w : PageWish) (n : ℕ) (d : Data) (now next : List ℕ) where
  pub shown_next : (e : Data) → HasAnswer w (n + 1) d e now next → ShowsNext w n d (shown e) (n + 1) e now next
  shown_next e a left all former old so more h = behind w former all old now next a.here more a.same (so (a.here ++ more) (a.here, more, refl, a.answer, h))

  pub missing_next : next ≡ now ++ missing_text (n + 1) → ShowsNext w n d missing (n + 1) d now next
  missing_next is left all former old so more h = behind w former all old now next (missing_text (n + 1)) more is (so (missing_text (n + 1) ++ more) (more, refl, h))

  pub said_next : (line : List ℕ) → next ≡ now ++ said_text line → ShowsNext w n d (said line) n d now next
  said_next line is left all former old so more h = behind w former all old now next (said_text line) more is (so (said_text line ++ more) (more, refl, h))

pub shown_first : (w : PageWish) (former : Data) (all : List PageEntry) (old : List ℕ) → IsShownSo w 0 former all former all old old
shown_first w former all old more h = record { body = more; are_shown = h; same = refl }

pub shown_last : (w : PageWish) (n : ℕ) (d former : Data) (left all : List PageEntry) (old now : List ℕ) → left ≡ [] → IsShownSo w n d left former all old now → HasShown w 0 former all old now
shown_last w n d former left all old now none so =
    let at_end : IsShownSo w n d [] former all old now = subst (λ ls. IsShownSo w n d ls former all old now) none so in
    subst (HasShown w 0 former all old) (append-nil now) (at_end [] refl)
