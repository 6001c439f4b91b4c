-- Members of a reference set, one more.
use Rattle.std.proofs.Common.{◌≡◌, ℕ, zero, suc, ◌+◌, ◌<◌, ◌≤◌, Bool, true, false, cond, List, [], ◌∷◌, ◌++◌, ℤ, pos, Option, None, Some, length, map, take, drop, get_or, refl, sym, ap, ◌∙◌, subst, arith, append_assoc, append-nil}
use Rattle.std.specs.Prelude.{filter_map, slice_index_or, Contains}
use Rattle.std.specs.List.{All, cons_option}
use Rattle.std.proofs.lemmas.List.{length-map}
use Rattle.std.proofs.lemmas.List.Elements.{All-contains_itself}
use Rattle.class_table.specs.Outline.{Outline}
use Rattle.object_alloc.specs.declared.object.Cell.{Cell}
use Rattle.object_alloc.specs.Cells.{extent}
use Rattle.object_alloc.specs.Members.{member_at}
use Rattle.signed_clause.specs.Clauses.{Boxes}
use Rattle.form_build.specs.Forms.{truth_at, HasVariable}
use Rattle.expr_forms.specs.declared.form.Member.{Member}
use Rattle.ground_form.specs.Meaning.{value_of}
use Rattle.expr_forms.proofs.Configured.{front_value}
use Rattle.expr_forms.specs.FormBounds.{IsMember}
use Rattle.expr_forms.specs.FormValues.{members_at}
use Rattle.conf_eval.specs.Meaning.{int_same}
use Rattle.reference_forms.specs.Attributes.{element_at}

pub members_push : (ms : List Member) (m : Member) (a : List ℤ) → members_at (ms ++ m ∷ []) a ≡ members_at ms a ++ cond (truth_at m.is a) (m.object ∷ []) []
members_push [] m a = refl
members_push (x ∷ xs) m a = by (truth_at x.is a) (members_push xs m a)
  where
    by : (b : Bool) → members_at (xs ++ m ∷ []) a ≡ members_at xs a ++ cond (truth_at m.is a) (m.object ∷ []) [] → cond b (x.object ∷ members_at (xs ++ m ∷ []) a) (members_at (xs ++ m ∷ []) a) ≡ cond b (x.object ∷ members_at xs a) (members_at xs a) ++ cond (truth_at m.is a) (m.object ∷ []) []
    by true h = ap (λ (z : List ℕ). x.object ∷ z) h
    by false h = h

-- what a list that is filtered gives, one item further
pub filter_step : {X : Type 0} (f : ℕ → Option X) (xs : List ℕ) (i d : ℕ) (done next all : List X) → i < length xs → next ≡ done ++ cons_option (f (get_or xs i d)) [] → done ++ filter_map f (drop i xs) ≡ all → next ++ filter_map f (drop (i + 1) xs) ≡ all
filter_step {X = X} f [] i d done next all lt is h = absurd (omega (arith, lt))
filter_step {X = X} f (x ∷ xs) zero d done next all lt is h =
    ap (λ z. z ++ filter_map f (drop 1 (x ∷ xs))) is ∙ by (f x) h
  where
    by : (o : Option X) → done ++ cons_option o (filter_map f xs) ≡ all → (done ++ cons_option o []) ++ filter_map f xs ≡ all
    by None g = ap (λ z. z ++ filter_map f xs) (append-nil done) ∙ g
    by (Some y) g = append_assoc done (y ∷ []) (filter_map f xs) ∙ g
filter_step {X = X} f (x ∷ xs) (suc i) d done next all lt is h =
    let same : suc i + 1 ≡ suc (i + 1) = omega arith in
    ap (λ (n : ℕ). next ++ filter_map f (drop n (x ∷ xs))) same ∙ filter_step f xs i d done next all (omega (arith, lt)) is h

-- where each gives something, these are all
pub filter_all : {X : Type 0} (f : ℕ → Option X) (is : List ℕ) (xs : List X) → map f is ≡ map Some xs → filter_map f is ≡ xs
filter_all f [] [] e = refl
filter_all f [] (x ∷ xs) e = cc
filter_all f (i ∷ is) [] e = cc
filter_all f (i ∷ is) (x ∷ xs) e =
    let first : f i ≡ Some x = cc in
    let rest : map f is ≡ map Some xs = cc in
    ap (λ r. cons_option r (filter_map f is)) first ∙ ap (λ ys. x ∷ ys) (filter_all f is xs rest)

chosen_push : (b c : Bool) (r : Option ℕ) (x : ℕ) → c ≡ b → r ≡ Some x → cond c (x ∷ []) [] ≡ cons_option (cond b r None) []
chosen_push true c r x e is = ap (λ (d : Bool). cond d (x ∷ []) []) e ∙ ap (λ (z : Option ℕ). cons_option z []) (sym is)
chosen_push false c r x e is = ap (λ (d : Bool). cond d (x ∷ []) []) e

nobody : (b : Bool) (r : Option ℕ) → r ≡ None → cons_option (cond b r None) [] ≡ []
nobody true r e = ap (λ (z : Option ℕ). cons_option z []) e
nobody false r e = refl

-- the cell of an element exists
pub element_low : (cs : List Cell) (i x : ℕ) → element_at cs i ≡ Some x → i < length cs
element_low [] i x e = cc
element_low (c ∷ cs) zero x e = omega arith
element_low (c ∷ cs) (suc i) x e = let h = element_low cs i x e in omega (arith, h)

-- one more object that may be a member
pub member_pushed : (cs : List Cell) (values a : List ℤ) (i : ℕ) (old new : List Member) (m : Member) → new ≡ old ++ m ∷ [] → element_at cs i ≡ Some m.object → truth_at m.is a ≡ int_same (slice_index_or values i (pos 0)) (pos 1) → members_at new a ≡ members_at old a ++ cons_option (member_at cs values i) []
member_pushed cs values a i old new m e is value =
    ap (λ (ms : List Member). members_at ms a) e ∙ members_push old m a
    ∙ ap (λ (z : List ℕ). members_at old a ++ z) (chosen_push (int_same (slice_index_or values i (pos 0)) (pos 1)) (truth_at m.is a) (element_at cs i) m.object value is)

pub nobody_pushed : (cs : List Cell) (values a : List ℤ) (i : ℕ) (old : List Member) → element_at cs i ≡ None → members_at old a ≡ members_at old a ++ cons_option (member_at cs values i) []
nobody_pushed cs values a i old e =
    sym (append-nil (members_at old a)) ∙ ap (λ (z : List ℕ). members_at old a ++ z) (sym (nobody (int_same (slice_index_or values i (pos 0)) (pos 1)) (element_at cs i) e))

pub object_pushed : (cs : List Cell) (i : ℕ) (old new : List Member) (m : Member) → new ≡ old ++ m ∷ [] → element_at cs i ≡ Some m.object → map (λ (x : Member). x.object) new ≡ map (λ (x : Member). x.object) old ++ cons_option (element_at cs i) []
object_pushed cs i old new m e is =
    ap (map (λ (x : Member). x.object)) e ∙ mapped old
    ∙ ap (λ (z : Option ℕ). map (λ (x : Member). x.object) old ++ cons_option z []) (sym is)
  where
    mapped : (ms : List Member) → map (λ (x : Member). x.object) (ms ++ m ∷ []) ≡ map (λ (x : Member). x.object) ms ++ m.object ∷ []
    mapped [] = refl
    mapped (x ∷ xs) = ap (λ (z : List ℕ). x.object ∷ z) (mapped xs)

pub no_object : (cs : List Cell) (i : ℕ) (old : List Member) → element_at cs i ≡ None → map (λ (x : Member). x.object) old ≡ map (λ (x : Member). x.object) old ++ cons_option (element_at cs i) []
no_object cs i old e =
    sym (append-nil (map (λ (x : Member). x.object) old)) ∙ ap (λ (z : Option ℕ). map (λ (x : Member). x.object) old ++ cons_option z []) (sym e)

are_members : (o : Outline) (boxes : Boxes) (c : ℕ) (ms : List Member) → All (Contains (extent o c)) (map (λ (m : Member). m.object) ms) → All (λ (m : Member). HasVariable (length boxes) m.is) ms → All (IsMember o boxes c) ms
are_members o boxes c ms h v i d lt =
    let e = length-map ms (λ (m : Member). m.object) in
    record { may = subst (Contains (extent o c)) (read ms i d lt) (h i d.object (omega (arith, e, lt))); is = v i d lt }
  where
    read : (ms : List Member) (i : ℕ) (d : Member) → i < length ms → get_or (map (λ (m : Member). m.object) ms) i d.object ≡ (get_or ms i d).object
    read [] i d lt = absurd (omega (arith, lt))
    read (m ∷ ms) zero d lt = refl
    read (m ∷ ms) (suc i) d lt = read ms i d (omega (arith, lt))

pub set_is : (o : Outline) (boxes : Boxes) (c : ℕ) (ms : List Member) → map (λ (m : Member). m.object) ms ≡ extent o c → All (λ (m : Member). HasVariable (length boxes) m.is) ms → All (IsMember o boxes c) ms × (length ms ≤ length (extent o c))
set_is o boxes c ms e v =
    let count = ap length e in
    let long = length-map ms (λ (m : Member). m.object) in
    (are_members o boxes c ms (subst (All (Contains (extent o c))) (sym e) (All-contains_itself (extent o c))) v, omega (arith, count, long))

-- the truth of a cell, by the front of the values
pub truth_front : (b : Bool) (n i : ℕ) (a : List ℤ) → i < n → b ≡ int_same (value_of a i) (pos 1) → b ≡ int_same (slice_index_or (take n a) i (pos 0)) (pos 1)
truth_front b n i a lt e = e ∙ ap (λ (v : ℤ). int_same v (pos 1)) (sym (front_value n i a lt))
