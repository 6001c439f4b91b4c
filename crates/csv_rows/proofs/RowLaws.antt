-- Rows that were written.
use Rattle.std.proofs.Common.{◌≡◌, ◌≢◌, ℕ, zero, suc, ◌+◌, ◌<◌, false, Option, None, Some, List, [], ◌∷◌, ◌++◌, Vec, length, map, take, get_or, refl, sym, ap, ◌∙◌, subst, arith, add-one, append_assoc, append-nil, true≢false, is_err}
use Rattle.std.specs.Io.KnownBytes.{Appends, Keeps}
use Rattle.std.specs.List.{flat_map}
use Rattle.std.specs.Prelude.{Result, Ok, Err, OnOk}
use Rattle.csv.specs.Writing.{default_writer, writer_setup, fields_written, has_written, text_written, row_text, writer_pending, writer_under}
use Rattle.csv.specs.declared.writer.QuoteStyle.TheVariants as style
use Rattle.csv.specs.declared.writer.Writer.{Writer}
use Rattle.csv.specs.declared.writer.WriterBuilder.{WriterBuilder}
use Rattle.csv_rows.specs.Rows.{IsWritten}

some_appended : (a b : Option (List ℕ)) (text more : List ℕ) → a ≡ Some text → Appends a b more
    → b ≡ Some (text ++ more)
some_appended None b text more is h = cc
some_appended (Some xs) None text more is h = absurd h
some_appended (Some xs) (Some ys) text more is h =
    let same : xs ≡ text = cc in
    ap (λ t. Some t) (h ∙ ap (λ t. t ++ more) same)

-- what a call says where it didn't fail
pub on_ok : {A E : Type 0} (r : Result A E) (P : Type 0) → is_err r ≡ false → OnOk r P → P
on_ok (Ok x) P good h = h
on_ok (Err x) P good h = absurd (true≢false good)

plain : (b : WriterBuilder) → b ≡ default_writer → b.style ≢ style.NonNumeric
plain b h = rw h (λ e. cc e)

nothing : (xs ys : List ℕ) → xs ≡ [] → ys ≡ [] → Some (xs ++ ys) ≡ Some []
nothing xs ys h e = rw (h, e) refl

-- nothing was written yet
pub none_written : {A : Type 0} (v : Writer (Vec ℕ A)) (u : Vec ℕ A) → writer_under v ≡ u
    → u.items ≡ [] → writer_pending v ≡ [] → writer_setup v ≡ default_writer
    → fields_written v ≡ 0 → has_written v ≡ false → IsWritten [] v
none_written {A} v u under empty pending setup none clean = record {
  text_is = nothing (writer_under v).items (writer_pending v)
      (ap (λ (x : Vec ℕ A). x.items) under ∙ empty) pending;
  setup = setup;
  none = none;
  clean = clean;
}

-- one more row
pub row_written : {A : Type 0} (text : List ℕ) (cells : List (List ℕ)) (v w : Writer (Vec ℕ A))
    → IsWritten text v
    → (fields_written v ≡ 0 → has_written v ≡ false → (writer_setup v).style ≢ style.NonNumeric
    → Appends (text_written (λ (u : Vec ℕ A). Some u.items) v) (text_written (λ (u : Vec ℕ A). Some u.items) w) (row_text (writer_setup v) cells))
    → fields_written w ≡ 0 → has_written w ≡ false → writer_setup w ≡ writer_setup v
    → IsWritten (text ++ row_text default_writer cells) w
row_written {A} text cells v w is bytes ended clean setup = record {
  text_is = some_appended _ _ text (row_text default_writer cells) is.text_is
      (subst (λ b. Appends (text_written (λ (u : Vec ℕ A). Some u.items) v) (text_written (λ (u : Vec ℕ A). Some u.items) w) (row_text b cells)) is.setup (bytes is.none is.clean (plain (writer_setup v) is.setup)));
  setup = setup ∙ is.setup;
  none = ended;
  clean = clean;
}

-- nothing but this text is in the writer at its end
pub all_written : {A : Type 0} (text : List ℕ) (v : Writer (Vec ℕ A)) (out : Vec ℕ A)
    → IsWritten text v → Keeps (text_written (λ (u : Vec ℕ A). Some u.items) v) (Some out.items)
    → out.items ≡ text
all_written text v out is h = cc (h, is.text_is)

rows_suc : {X : Type 0} (f : List (List ℕ) → List ℕ) (g : X → List (List ℕ)) (xs : List X) (k : ℕ)
    (x : X) → k < length xs → x ≡ get_or xs k x
    → flat_map f (map g (take (suc k) xs)) ≡ flat_map f (map g (take k xs)) ++ f (g x)
rows_suc f g [] k x h is = absurd (omega arith)
rows_suc f g (y ∷ xs) zero x h is = append-nil (f (g y)) ∙ ap (λ z. f (g z)) (sym is)
rows_suc f g (y ∷ xs) (suc k) x h is =
    ap (λ t. f (g y) ++ t) (rows_suc f g xs k x (omega arith) is)
    ∙ sym (append_assoc (f (g y)) (flat_map f (map g (take k xs))) (f (g x)))

-- one row more of some
pub rows_more : {X : Type 0} (f : List (List ℕ) → List ℕ) (g : X → List (List ℕ)) (xs : List X)
    (k : ℕ) (x : X) (text : List ℕ) → k < length xs → x ≡ get_or xs k x
    → (text ++ flat_map f (map g (take k xs))) ++ f (g x)
    ≡ text ++ flat_map f (map g (take (k + 1) xs))
rows_more f g xs k x text h is =
    rw (add-one k) (append_assoc text (flat_map f (map g (take k xs))) (f (g x))
    ∙ ap (λ t. text ++ t) (sym (rows_suc f g xs k x h is)))
