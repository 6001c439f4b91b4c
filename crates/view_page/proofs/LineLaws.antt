-- Lines of a text, byte after byte.
use Rattle.std.proofs.Common.{arith, ◌≡◌, ℕ, ◌+◌, ◌-◌, ◌<◌, ◌≤◌, true, false, List, [], ◌∷◌, ◌++◌, Option, None, refl, ap, sym, ◌∙◌, subst, map, drop, take, length, get_or, append_assoc, append-nil}
use Rattle.std.specs.Prelude.{◌==◌, if◌then◌else◌, Contains}
use Rattle.std.proofs.lemmas.List.{drop_more, take_more, get_or-drop, length-drop, length-take}
use Rattle.std.proofs.lemmas.List.Elements.{Contains-append_right}
use Rattle.view_page.specs.Entries.{PageEntry, last_line, lines_from, lines, entry_of, IsNoEntry, HasNone, HasNoEntry}
use Rattle.view_page.specs.Turns.{lines_left, HasTurned}
use Rattle.view_page.specs.declared.page.PageError.{PageError}
use Rattle.view_page.specs.declared.page.PageError.TheVariants.{NotJson, NoAttribute, Memory}

-- what a line has with one byte more
begun_next : (text : List ℕ) (start i d : ℕ) → start ≤ i → i < length text → take (i + 1 - start) (drop start text) ≡ take (i - start) (drop start text) ++ get_or text i d ∷ []
begun_next text start i d begun within =
    let more : i + 1 - start ≡ (i - start) + 1 = omega (arith, begun) in
    let there : start + (i - start) ≡ i = omega (arith, begun) in
    ap (λ n. take n (drop start text)) more
    ∙ take_more (drop start text) (i - start) d (omega (arith, begun, within, length-drop start text))
    ∙ ap (λ b. take (i - start) (drop start text) ++ b ∷ []) (get_or-drop start text (i - start) d ∙ ap (λ n. get_or text n d) there)

goes_on : (line bytes : List ℕ) (b : ℕ) → (b == 10) ≡ false → lines_from line (b ∷ bytes) ≡ lines_from (line ++ b ∷ []) bytes
goes_on line bytes b e = ap (λ c. if c then line ∷ lines_from [] bytes else lines_from (line ++ b ∷ []) bytes) e

ends : (line bytes : List ℕ) (b : ℕ) → (b == 10) ≡ true → lines_from line (b ∷ bytes) ≡ line ∷ lines_from [] bytes
ends line bytes b e = ap (λ c. if c then line ∷ lines_from [] bytes else lines_from (line ++ b ∷ []) bytes) e

module _ (text : List ℕ) (start i d : ℕ) (begun : start ≤ i) (within : i < length text) where
  abbrev line : List ℕ
  line = take (i - start) (drop start text)

  left_on : (get_or text i d == 10) ≡ false → lines_left text start i ≡ lines_left text start (i + 1)
  left_on other =
      ap (λ bytes. lines_from line bytes) (drop_more text i d within)
      ∙ goes_on line (drop (i + 1) text) (get_or text i d) other
      ∙ ap (λ l. lines_from l (drop (i + 1) text)) (sym (begun_next text start i d begun within))

  left_ends : (get_or text i d == 10) ≡ true → lines_left text start i ≡ line ∷ lines_left text (i + 1) (i + 1)
  left_ends feed =
      let none : i + 1 - (i + 1) ≡ 0 = omega arith in
      ap (λ bytes. lines_from line bytes) (drop_more text i d within)
      ∙ ends line (drop (i + 1) text) (get_or text i d) feed
      ∙ ap (λ n. line ∷ lines_from (take n (drop (i + 1) text)) (drop (i + 1) text)) (sym none)

  pub line_goes_on : (old new : List (Option PageEntry)) → (get_or text i d == 10) ≡ false → new ≡ old → HasTurned text old new start start i
  line_goes_on old new other is = record { same = ap (λ es. es ++ map entry_of (lines_left text start (i + 1))) is ∙ ap (λ ls. old ++ map entry_of ls) (sym (left_on other)) }

  pub line_ends : (old new : List (Option PageEntry)) → (get_or text i d == 10) ≡ true → new ≡ old ++ entry_of line ∷ [] → HasTurned text old new start (i + 1) i
  line_ends old new feed is = record {
    same =
        ap (λ es. es ++ map entry_of (lines_left text (i + 1) (i + 1))) is
        ∙ append_assoc old (entry_of line ∷ []) (map entry_of (lines_left text (i + 1) (i + 1)))
        ∙ ap (λ ls. old ++ map entry_of ls) (sym (left_ends feed));
  }

  first_none : (ls : List (List ℕ)) (l : List ℕ) (e : PageError) → IsNoEntry l e → HasNone (l ∷ ls) e
  first_none ls l NotJson h = (0, omega arith, h)
  first_none ls l NoAttribute h = h
  first_none ls l Memory h = tt

  pub line_refused : (e : PageError) → (get_or text i d == 10) ≡ true → IsNoEntry line e → HasNone (lines_left text start i) e
  line_refused e feed h = subst (λ ls. HasNone ls e) (sym (left_ends feed)) (first_none (lines_left text (i + 1) (i + 1)) line e h)

nothing_left : (text : List ℕ) → drop (length text) text ≡ []
nothing_left [] = refl
nothing_left (b ∷ bytes) = nothing_left bytes

is_last : (line : List ℕ) → 0 < length line → last_line line ≡ line ∷ []
is_last [] lt = absurd (omega (arith, lt))
is_last (b ∷ line) lt = refl

module _ (text : List ℕ) (start : ℕ) where
  abbrev last : List ℕ
  last = take (length text - start) (drop start text)

  pub no_line_left : (old new : List (Option PageEntry)) → start ≡ length text → new ≡ old → new ≡ old ++ map entry_of (lines_left text start (length text))
  no_line_left old new at is =
      let none : length text - start ≡ 0 = omega (arith, at) in
      let left : lines_left text start (length text) ≡ [] =
      ap (λ bytes. lines_from last bytes) (nothing_left text)
      ∙ ap (λ n. last_line (take n (drop start text))) none in
      is ∙ sym (ap (λ ls. old ++ map entry_of ls) left ∙ append-nil old)

  left_last : start < length text → lines_left text start (length text) ≡ last ∷ []
  left_last within =
      ap (λ bytes. lines_from last bytes) (nothing_left text)
      ∙ is_last last (omega (arith, within, length-take (length text - start) (drop start text), length-drop start text))

  pub found_last : (old new : List (Option PageEntry)) → start < length text → new ≡ old ++ entry_of last ∷ [] → new ≡ old ++ map entry_of (lines_left text start (length text))
  found_last old new within is = is ∙ ap (λ ls. old ++ map entry_of ls) (sym (left_last within))

  last_none : (l : List ℕ) (e : PageError) → IsNoEntry l e → HasNone (l ∷ []) e
  last_none l NotJson h = (0, omega arith, h)
  last_none l NoAttribute h = h
  last_none l Memory h = tt

  pub last_refused : (e : PageError) → start < length text → IsNoEntry last e → HasNone (lines_left text start (length text)) e
  last_refused e within h = subst (λ ls. HasNone ls e) (sym (left_last within)) (last_none last e h)

-- what is none among the lines that are left is none of all
pub none_left : (text : List ℕ) (done : List (Option PageEntry)) (left : List (List ℕ)) (e : PageError) → done ++ map entry_of left ≡ map entry_of (lines text) → HasNone left e → HasNoEntry text e
none_left text done left NotJson same h = subst (λ es. Contains es None) same (Contains-append_right done (map entry_of left) None h)
none_left text done left NoAttribute same h = h
none_left text done left Memory same h = tt
