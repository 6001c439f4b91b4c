-- What a row counts, load by load.
use Rattle.std.proofs.Common.{◌≡◌, ℕ, ◌+◌, ◌<◌, Bool, true, false, cond, List, [], ◌∷◌, ◌++◌, take, get_or, length, ℤ, pos, ◌+ℤ◌, ◌-ℤ◌, refl, sym, ap, ◌∙◌, subst, arith}
use Rattle.std.specs.Ordering.{int_eq}
use Rattle.std.proofs.lemmas.Int.{ints}
use Rattle.std.proofs.lemmas.List.{take_more}
use Rattle.signed_clause.specs.Ranges.{has}
use Rattle.conf_syntax.specs.declared.tree.QuantKind.{QuantKind}
use Rattle.conf_eval.specs.Meaning.{total}
use Rattle.ground_form.specs.Meaning.{value_of}
use Rattle.form_build.specs.declared.form.Truth.{Truth}
use Rattle.form_build.specs.declared.form.Truth.TheVariants as truth
use Rattle.packed_rows.specs.declared.row.Row.{Row}
use Rattle.packed_rows.specs.Loads.{load_of}
use Rattle.packed_rows.proofs.PackedLaws.{items_behind}
use Rattle.quantifier_forms.specs.declared.part.Part.{Part}
use Rattle.quantifier_forms.specs.PartValues.{share}
use Rattle.ground_model.specs.Adding.{shares_of, counted_where, counts}

-- ---- one more load

at_bin : (v bin : ℤ) → has ((bin, bin) ∷ []) v ≡ int_eq v bin
at_bin v bin = grind (arith, ints)

one_load : (b : Bool) (size : ℤ) → cond b (size +ℤ pos 0) (pos 0) ≡ cond b size (pos 0)
one_load true size = omega (arith, ints)
one_load false size = refl

sums : (l m n room sum r q : ℤ) → l ≡ (m +ℤ n) → (m +ℤ room) ≡ (sum +ℤ r) → q ≡ r → (l +ℤ room) ≡ ((sum +ℤ n) +ℤ q)
sums l m n room sum r q e h same = omega (arith, ints, e, h, same)

pub load_added : (r q : Row) (t : Truth) (x : ℕ) (s : List (ℤ × ℤ)) (size room sum : ℤ) (a : List ℤ) → t ≡ truth.In x s → s ≡ (r.bin, r.bin) ∷ [] → q.bin ≡ r.bin → q.loads.items ≡ r.loads.items ++ (x, size) ∷ [] → q.room ≡ r.room → counts r room sum a → counts q room (sum +ℤ counted_where t size a) a
load_added r q t x s size room sum a is only bin loads left h =
    let behind =
    ap (λ (p : ℤ). load_of p q.loads.items a) bin ∙ ap (λ (ls : List (ℕ × ℤ)). load_of r.bin ls a) loads
    ∙ items_behind r.bin r.loads.items ((x, size) ∷ []) a
    ∙ ap (λ (n : ℤ). load_of r.bin r.loads.items a +ℤ n) (one_load (int_eq (value_of a x) r.bin) size ∙ sym (told t is)) in
    sums (load_of q.bin q.loads.items a) (load_of r.bin r.loads.items a) (counted_where t size a) room sum r.room q.room behind h left
  where
    told : (u : Truth) → u ≡ truth.In x s → counted_where u size a ≡ cond (int_eq (value_of a x) r.bin) size (pos 0)
    told u e =
        ap (λ (z : Truth). counted_where z size a) e
        ∙ ap (λ (z : List (ℤ × ℤ)). cond (has z (value_of a x)) size (pos 0)) only
        ∙ ap (λ (b : Bool). cond b size (pos 0)) (at_bin (value_of a x) r.bin)

taken : (l m n room sum r q : ℤ) → l ≡ m → (m +ℤ room) ≡ (sum +ℤ r) → q ≡ (r -ℤ n) → (l +ℤ room) ≡ ((sum +ℤ n) +ℤ q)
taken l m n room sum r q e h left = omega (arith, ints, e, h, left)

pub room_taken : (r q : Row) (t : Truth) (size room sum : ℤ) (a : List ℤ) → t ≡ truth.Fixed true → q.bin ≡ r.bin → q.loads ≡ r.loads → q.room ≡ (r.room -ℤ size) → counts r room sum a → counts q room (sum +ℤ counted_where t size a) a
room_taken r q t size room sum a is bin loads left h =
    let same = ap (λ (p : ℤ). load_of p q.loads.items a) bin ∙ ap (λ ls. load_of r.bin ls.items a) loads in
    let all = ap (λ (z : Truth). counted_where z size a) is in
    subst (λ (n : ℤ). (load_of q.bin q.loads.items a +ℤ room) ≡ ((sum +ℤ n) +ℤ q.room)) (sym all)
    (taken (load_of q.bin q.loads.items a) (load_of r.bin r.loads.items a) size room sum r.room q.room same h left)

-- ---- one more part

total_more : (vs : List ℤ) (v : ℤ) → total (vs ++ v ∷ []) ≡ (total vs +ℤ v)
total_more [] v = omega (arith, ints)
total_more (w ∷ vs) v = let rest = total_more vs v in omega (arith, ints, rest)

shares_behind : (kind : QuantKind) (ps : List Part) (p : Part) (a : List ℤ) → shares_of kind (ps ++ p ∷ []) a ≡ (shares_of kind ps a +ℤ share kind p a)
shares_behind kind [] p a = omega (arith, ints)
shares_behind kind (q ∷ ps) p a = let rest = shares_behind kind ps p a in omega (arith, ints, rest)

pub part_added : (kind : QuantKind) (ps : List Part) (k : ℕ) (p : Part) (r : Row) (room : ℤ) (a : List ℤ) → k < length ps → p ≡ get_or ps k p → counts r room (shares_of kind (take k ps) a +ℤ share kind p a) a → counts r room (shares_of kind (take (k + 1) ps) a) a
part_added kind ps k p r room a lt is h =
    subst (λ (n : ℤ). counts r room n a)
    (sym (shares_behind kind (take k ps) p a)
    ∙ ap (λ (qs : List Part). shares_of kind qs a) (ap (λ (q : Part). take k ps ++ q ∷ []) is ∙ sym (take_more ps k p lt))) h

pub none_counted : (r : Row) (room : ℤ) (a : List ℤ) → r.loads.items ≡ [] → r.room ≡ room → counts r room (pos 0) a
none_counted r room a e is =
    let none = ap (λ (ls : List (ℕ × ℤ)). load_of r.bin ls a) e in
    omega (arith, ints, none, is)
