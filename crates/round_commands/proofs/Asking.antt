-- What holds where files are told, of texts and of what is asked.
use Rattle.std.proofs.Common.{◌≡◌, List, Option, None, Some, sym, subst, ◌∙◌, ℕ}
use Rattle.std.specs.Option.{option_and_then}
use Rattle.conf_request.specs.declared.request.Request.{Request}
use Rattle.conf_request.specs.declared.request.Request.TheVariants.{Solve, Reconfigure, Check, Verify, Gen, Session, Core}
use Rattle.conf_syntax.specs.declared.tree.Program.{Program}
use Rattle.desk_io.specs.Desk.{Files, OfFile}
use Rattle.model_generator.specs.Generated.{generated}
use Rattle.run_promise.specs.Asking.{Asked, Best, Generated, Checked, Satisfied, Held, Blamed, OfChecked, OfText, OfAsked, former_text, text_of}
use Rattle.model_reader.specs.TextModel.{HasModel}

pub file_map : (told : Option Files) (name : List ℕ) (P Q : List ℕ → Type 0) → ((bytes : List ℕ) → P bytes → Q bytes) → OfFile told name P → OfFile told name Q
file_map None name P Q f h = tt
file_map (Some files) name P Q f h = (h.0, h.1, f h.0 h.2)

checked_map : (told : Option Files) (log : List ℕ) (former : Option (List ℕ)) (failed : List (List ℕ)) (P Q : Asked → Type 0) → ((a : Asked) → P a → Q a) → OfChecked told log former failed P → OfChecked told log former failed Q
checked_map told log None failed P Q f h = file_map told log (λ bytes. P (Checked None bytes)) (λ bytes. Q (Checked None bytes)) (λ bytes. f (Checked None bytes)) h
checked_map told log (Some former) failed P Q f h =
    file_map told former _ _ (λ before. file_map told log (λ bytes. P (Checked (Some (former_text before failed)) bytes)) (λ bytes. Q (Checked (Some (former_text before failed)) bytes)) (λ bytes. f (Checked (Some (former_text before failed)) bytes))) h

pub asked_map : (told : Option Files) (r : Request) (P Q : Asked → Type 0) → ((a : Asked) → P a → Q a) → OfAsked told r P → OfAsked told r Q
asked_map told (Solve model budget log order) P Q f h = f (Best None budget order) h
asked_map told (Check model log former failed) P Q f h = checked_map told log former failed P Q f h
asked_map told (Verify model config) P Q f h = file_map told config (λ bytes. P (Satisfied bytes)) (λ bytes. Q (Satisfied bytes)) (λ bytes. f (Satisfied bytes)) h
asked_map told (Gen n) P Q f h = f (Generated n) h
asked_map told (Reconfigure model former failed budget log order) P Q f h =
    file_map told former (λ bytes. P (Best (Some (former_text bytes failed)) budget order)) (λ bytes. Q (Best (Some (former_text bytes failed)) budget order)) (λ bytes. f (Best (Some (former_text bytes failed)) budget order)) h
asked_map told (Session model former events budget order) P Q f h =
    file_map told former _ _ (λ before. file_map told events (λ bytes. P (Held before bytes budget order)) (λ bytes. Q (Held before bytes budget order)) (λ bytes. f (Held before bytes budget order))) h
asked_map told (Core model budget order) P Q f h = f (Blamed budget order) h

pub text_map : (told : Option Files) (r : Request) (P Q : List ℕ → Type 0) → ((text : List ℕ) → P text → Q text) → OfText told r P → OfText told r Q
text_map told (Gen n) P Q f h = f (generated n) h
text_map told (Solve model budget log order) P Q f h = file_map told model P Q f h
text_map told (Check model log former failed) P Q f h = file_map told model P Q f h
text_map told (Verify model config) P Q f h = file_map told model P Q f h
text_map told (Reconfigure model former failed budget log order) P Q f h = file_map told model P Q f h
text_map told (Session model former events budget order) P Q f h = file_map told model P Q f h
text_map told (Core model budget order) P Q f h = file_map told model P Q f h

-- what holds of the bytes that were read holds of the text
pub text_read : (told : Option Files) (r : Request) (text : List ℕ) (P : List ℕ → Type 0) → OfText told r (λ bytes. bytes ≡ text) → P text → OfText told r P
text_read told r text P read p = text_map told r (λ bytes. bytes ≡ text) P (λ bytes is. subst P (sym is) p) read

some_same : {X : Type 0} (x y : X) → Some x ≡ Some y → x ≡ y
some_same x y e = cc

file_known : (told : Option Files) (name text : List ℕ) (P : List ℕ → Type 0) → option_and_then (λ (files : Files). files name) told ≡ Some text → OfFile told name P → P text
file_known None name text P e h = absurd cc
file_known (Some files) name text P e h = subst P (some_same h.0 text (sym h.1 ∙ e)) h.2

-- what holds of the text holds of the one that is known
pub text_known : (told : Option Files) (r : Request) (text : List ℕ) (P : List ℕ → Type 0) → text_of told r ≡ Some text → OfText told r P → P text
text_known told (Gen n) text P e h = subst P (some_same (generated n) text e) h
text_known told (Solve model budget log order) text P e h = file_known told model text P e h
text_known told (Check model log former failed) text P e h = file_known told model text P e h
text_known told (Verify model config) text P e h = file_known told model text P e h
text_known told (Reconfigure model former failed budget log order) text P e h = file_known told model text P e h
text_known told (Session model former events budget order) text P e h = file_known told model text P e h
text_known told (Core model budget order) text P e h = file_known told model text P e h

pub model_map : (text : List ℕ) (P Q : Program → Type 0) → ((p : Program) → P p → Q p) → HasModel text P → HasModel text Q
model_map text P Q f h = (h.0, h.1, f h.0 h.2)
