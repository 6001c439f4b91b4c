-- Variables that differ, block by block.
use Rattle.std.proofs.Common.{◌≡◌, ℕ, ◌<◌, Bool, true, false, not, ◌&&◌, List, [], ◌∷◌, ◌++◌, ℤ, length, All, refl, sym, ap, ◌∙◌, subst, arith, append-nil}
use Rattle.std.specs.Ordering.{int_eq}
use Rattle.std.proofs.lemmas.Bool.{and_parts, and_from}
use Rattle.std.proofs.lemmas.List.Elements.{All-nil, All-cons, All-head, All-tail, All-append, All-weaker}
use Rattle.ground_form.specs.declared.ground.Ground.{Ground}
use Rattle.ground_form.specs.Meaning.{value_of, lacks, all_differ}
use Rattle.form_build.specs.Worlds.{Adds, Grows}
use Rattle.form_build.proofs.Growth.{adds_nothing, adds_more, adds_same, no_less}
use Rattle.pairwise_forms.specs.Blocks.{apart, KeepsApart}

-- ---- truths

and_group : (p q r : Bool) → ((p && q) && r) ≡ (p && (q && r))
and_group true q r = refl
and_group false q r = refl

and_true : (p : Bool) → p ≡ (p && true)
and_true true = refl
and_true false = refl

and_false : (p : Bool) → false ≡ (p && false)
and_false true = refl
and_false false = refl

swapped : (p q r s : Bool) → ((p && q) && (r && s)) ≡ ((p && r) && (q && s))
swapped true true r s = refl
swapped true false r s = and_false r
swapped false q r s = refl

sorted : (p q d e f : Bool) → ((p && q) && ((d && e) && f)) ≡ (((p && d) && e) && (q && f))
sorted true true d e f = refl
sorted true false d e f = and_false (d && e)
sorted false q d e f = refl

same_truth : (p q : Bool) → (p ≡ true → q ≡ true) → (q ≡ true → p ≡ true) → p ≡ q
same_truth true q h k = sym (h refl)
same_truth false true h k = k refl
same_truth false false h k = refl

-- ---- lists one behind the other

lacks_both : (v : ℤ) (xs ys : List ℕ) (a : List ℤ) → lacks v (xs ++ ys) a ≡ (lacks v xs a && lacks v ys a)
lacks_both v [] ys a = refl
lacks_both v (x ∷ xs) ys a =
    ap (λ (b : Bool). not (int_eq (value_of a x) v) && b) (lacks_both v xs ys a)
    ∙ sym (and_group (not (int_eq (value_of a x) v)) (lacks v xs a) (lacks v ys a))

apart_behind : (xs ys zs : List ℕ) (a : List ℤ) → apart xs (ys ++ zs) a ≡ (apart xs ys a && apart xs zs a)
apart_behind [] ys zs a = refl
apart_behind (x ∷ xs) ys zs a =
    ap (λ (b : Bool). b && apart xs (ys ++ zs) a) (lacks_both (value_of a x) ys zs a)
    ∙ ap (λ (b : Bool). (lacks (value_of a x) ys a && lacks (value_of a x) zs a) && b) (apart_behind xs ys zs a)
    ∙ swapped (lacks (value_of a x) ys a) (lacks (value_of a x) zs a) (apart xs ys a) (apart xs zs a)

apart_first : (xs ys zs : List ℕ) (a : List ℤ) → apart (xs ++ ys) zs a ≡ (apart xs zs a && apart ys zs a)
apart_first [] ys zs a = refl
apart_first (x ∷ xs) ys zs a =
    ap (λ (b : Bool). lacks (value_of a x) zs a && b) (apart_first xs ys zs a)
    ∙ sym (and_group (lacks (value_of a x) zs a) (apart xs zs a) (apart ys zs a))

differ_both : (xs ys : List ℕ) (a : List ℤ) → all_differ (xs ++ ys) a ≡ ((all_differ xs a && all_differ ys a) && apart xs ys a)
differ_both [] ys a = and_true (all_differ ys a)
differ_both (x ∷ xs) ys a =
    ap (λ (b : Bool). b && all_differ (xs ++ ys) a) (lacks_both (value_of a x) xs ys a)
    ∙ ap (λ (b : Bool). (lacks (value_of a x) xs a && lacks (value_of a x) ys a) && b) (differ_both xs ys a)
    ∙ sorted (lacks (value_of a x) xs a) (lacks (value_of a x) ys a) (all_differ xs a) (all_differ ys a) (apart xs ys a)

-- of two lists together
pub record Differ (xs ys : List ℕ) (a : List ℤ) : Type 0 where
  pub first : all_differ xs a ≡ true
  pub second : all_differ ys a ≡ true
  pub apart_too : apart xs ys a ≡ true

differ_parts : (xs ys : List ℕ) (a : List ℤ) → all_differ (xs ++ ys) a ≡ true → Differ xs ys a
differ_parts xs ys a h =
    let all = and_parts (all_differ xs a && all_differ ys a) (apart xs ys a) (sym (differ_both xs ys a) ∙ h) in
    let two = and_parts (all_differ xs a) (all_differ ys a) all.0 in
    record { first = two.0; second = two.1; apart_too = all.1 }

differ_from : (xs ys : List ℕ) (a : List ℤ) → Differ xs ys a → all_differ (xs ++ ys) a ≡ true
differ_from xs ys a h =
    differ_both xs ys a
    ∙ and_from (all_differ xs a && all_differ ys a) (apart xs ys a) (and_from (all_differ xs a) (all_differ ys a) h.first h.second) h.apart_too

apart_front : (xs ys zs : List ℕ) (a : List ℤ) → apart xs (ys ++ zs) a ≡ true → apart xs ys a ≡ true
apart_front xs ys zs a h = (and_parts (apart xs ys a) (apart xs zs a) (sym (apart_behind xs ys zs a) ∙ h)).0

apart_back : (xs ys zs : List ℕ) (a : List ℤ) → apart xs (ys ++ zs) a ≡ true → apart xs zs a ≡ true
apart_back xs ys zs a h = (and_parts (apart xs ys a) (apart xs zs a) (sym (apart_behind xs ys zs a) ∙ h)).1

apart_both : (xs ys zs : List ℕ) (a : List ℤ) → apart xs ys a ≡ true → apart xs zs a ≡ true → apart xs (ys ++ zs) a ≡ true
apart_both xs ys zs a h k = apart_behind xs ys zs a ∙ and_from (apart xs ys a) (apart xs zs a) h k

-- with a part of those behind
part_differs : (xs ys zs rest : List ℕ) (a : List ℤ) → all_differ (xs ++ (ys ++ (zs ++ rest))) a ≡ true → all_differ (xs ++ zs) a ≡ true
part_differs xs ys zs rest a h =
    let all = differ_parts xs (ys ++ (zs ++ rest)) a h in
    let behind = differ_parts ys (zs ++ rest) a all.second in
    let here = differ_parts zs rest a behind.second in
    differ_from xs zs a (record {
      first = all.first;
      second = here.first;
      apart_too = apart_front xs zs rest a (apart_back xs ys (zs ++ rest) a all.apart_too);
    })

grouped : (xs ys zs : List ℕ) → ((xs ++ ys) ++ zs) ≡ (xs ++ (ys ++ zs))
grouped [] ys zs = refl
grouped (x ∷ xs) ys zs = ap (λ (l : List ℕ). x ∷ l) (grouped xs ys zs)

-- ---- a block, and those behind it one after the other

-- the block has been told apart from those behind it but for these
pub record AreStated (old new : Ground) (block left behind : List ℕ) : Type 0 where
  pub done : List ℕ
  pub parts : (done ++ left) ≡ behind
  pub kept : KeepsApart old new block done (block ++ behind)

pub first_stated : (old new : Ground) (block first rest behind : List ℕ) → (first ++ rest) ≡ behind → Adds [] old new (λ a. all_differ (block ++ first) a) → AreStated old new block rest behind
first_stated old new block first rest behind is added = record {
  done = first;
  parts = is;
  kept = record {
    says = λ a. all_differ (block ++ first) a;
    adds = added;
    least = λ a h.
        let p = differ_parts block first a h in
        and_from (all_differ block a) (apart block first a) p.first p.apart_too;
    most = λ a h. part_differs block [] first rest a (ap (λ (l : List ℕ). all_differ (block ++ l) a) is ∙ h);
  };
}

pub next_stated : (old mid new : Ground) (block left next more behind : List ℕ) → (next ++ more) ≡ left → AreStated old mid block left behind → Adds [] mid new (λ a. all_differ (block ++ next) a) → AreStated old new block more behind
next_stated old mid new block left next more behind is t added =
    let whole : (t.done ++ (next ++ more)) ≡ behind = ap (λ (l : List ℕ). t.done ++ l) is ∙ t.parts in
    record {
      done = t.done ++ next;
      parts = grouped t.done next more ∙ whole;
      kept = record {
        says = λ a. t.kept.says a && all_differ (block ++ next) a;
        adds = adds_more [] old mid new t.kept.says (λ a. all_differ (block ++ next) a) t.kept.adds added;
        least = λ a h.
            let both = and_parts (t.kept.says a) (all_differ (block ++ next) a) h in
            let before = and_parts (all_differ block a) (apart block t.done a) (t.kept.least a both.0) in
            let here = differ_parts block next a both.1 in
            and_from (all_differ block a) (apart block (t.done ++ next) a) before.0 (apart_both block t.done next a before.1 here.apart_too);
        most = λ a h.
            and_from (t.kept.says a) (all_differ (block ++ next) a) (t.kept.most a h)
            (part_differs block t.done next more a (ap (λ (l : List ℕ). all_differ (block ++ l) a) whole ∙ h));
      };
    }

pub all_stated : (old new : Ground) (block behind : List ℕ) → AreStated old new block [] behind → KeepsApart old new block behind (block ++ behind)
all_stated old new block behind t =
    subst (λ (l : List ℕ). KeepsApart old new block l (block ++ behind)) (sym (append-nil t.done) ∙ t.parts) t.kept

-- ---- blocks one after the other

-- the blocks so far have been told apart, also from what is left
pub record AreApart (old new : Ground) (left whole : List ℕ) : Type 0 where
  pub done : List ℕ
  pub parts : (done ++ left) ≡ whole
  pub kept : KeepsApart old new done left whole

pub none_apart : (g : Ground) (whole : List ℕ) → AreApart g g whole whole
none_apart g whole = record {
  done = [];
  parts = refl;
  kept = record { says = λ a. true; adds = adds_nothing [] g; least = λ a h. refl; most = λ a h. refl };
}

pub next_apart : (old mid new : Ground) (left block behind whole : List ℕ) → (block ++ behind) ≡ left → AreApart old mid left whole → KeepsApart mid new block behind (block ++ behind) → AreApart old new behind whole
next_apart old mid new left block behind whole is t here =
    let parts : (t.done ++ (block ++ behind)) ≡ whole = ap (λ (l : List ℕ). t.done ++ l) is ∙ t.parts in
    record {
      done = t.done ++ block;
      parts = grouped t.done block behind ∙ parts;
      kept = record {
        says = λ a. t.kept.says a && here.says a;
        adds = adds_more [] old mid new t.kept.says here.says t.kept.adds here.adds;
        least = λ a h.
            let both = and_parts (t.kept.says a) (here.says a) h in
            let before = and_parts (all_differ t.done a) (apart t.done left a) (t.kept.least a both.0) in
            let now = and_parts (all_differ block a) (apart block behind a) (here.least a both.1) in
            let far : apart t.done (block ++ behind) a ≡ true = ap (λ (l : List ℕ). apart t.done l a) is ∙ before.1 in
            and_from (all_differ (t.done ++ block) a) (apart (t.done ++ block) behind a)
            (differ_from t.done block a (record { first = before.0; second = now.0; apart_too = apart_front t.done block behind a far }))
            (apart_first t.done block behind a
            ∙ and_from (apart t.done behind a) (apart block behind a) (apart_back t.done block behind a far) now.1);
        most = λ a h.
            and_from (t.kept.says a) (here.says a) (t.kept.most a h)
            (here.most a (differ_parts t.done (block ++ behind) a (ap (λ (l : List ℕ). all_differ l a) parts ∙ h)).second);
      };
    }

pub all_apart : (old new : Ground) (whole : List ℕ) → AreApart old new [] whole → Adds [] old new (λ a. all_differ whole a)
all_apart old new whole t =
    let is : t.done ≡ whole = sym (append-nil t.done) ∙ t.parts in
    adds_same [] old new t.kept.says (λ a. all_differ whole a)
    (λ a w kn. same_truth (t.kept.says a) (all_differ whole a)
    (λ h. ap (λ (l : List ℕ). all_differ l a) (sym is) ∙ (and_parts (all_differ t.done a) (apart t.done [] a) (t.kept.least a h)).0)
    (λ h. t.kept.most a h)) t.kept.adds

-- ---- variables

pub variables_kept : (old new : Ground) (xs : List ℕ) → Grows old new → All (λ x. x < length old.domains) xs → All (λ x. x < length new.domains) xs
variables_kept old new xs g h =
    All-weaker (λ x. x < length old.domains) (λ x. x < length new.domains) (λ x lt. let less = no_less old new g in omega (arith, lt, less)) xs h

front : (n : ℕ) (xs ys : List ℕ) → All (λ x. x < n) (xs ++ ys) → All (λ x. x < n) xs
front n [] ys h = All-nil (λ x. x < n)
front n (x ∷ xs) ys h = All-cons (λ x. x < n) x xs (All-head (λ x. x < n) x (xs ++ ys) h) (front n xs ys (All-tail (λ x. x < n) x (xs ++ ys) h))

back : (n : ℕ) (xs ys : List ℕ) → All (λ x. x < n) (xs ++ ys) → All (λ x. x < n) ys
back n [] ys h = h
back n (x ∷ xs) ys h = back n xs ys (All-tail (λ x. x < n) x (xs ++ ys) h)

pub next_exist : (n : ℕ) (block done left behind next more : List ℕ) → (next ++ more) ≡ left → (done ++ left) ≡ behind → All (λ x. x < n) (block ++ behind) → All (λ x. x < n) (block ++ next)
next_exist n block done left behind next more is parts h =
    let whole : (done ++ (next ++ more)) ≡ behind = ap (λ (l : List ℕ). done ++ l) is ∙ parts in
    let all : All (λ x. x < n) (block ++ (done ++ (next ++ more))) = subst (λ (l : List ℕ). All (λ x. x < n) (block ++ l)) (sym whole) h in
    All-append (λ x. x < n) block next (front n block (done ++ (next ++ more)) all)
    (front n next more (back n done (next ++ more) (back n block (done ++ (next ++ more)) all)))

pub left_exist : (n : ℕ) (done left whole block behind : List ℕ) → (block ++ behind) ≡ left → (done ++ left) ≡ whole → All (λ x. x < n) whole → All (λ x. x < n) (block ++ behind)
left_exist n done left whole block behind is parts h =
    subst (All (λ x. x < n)) (sym is) (back n done left (subst (All (λ x. x < n)) (sym parts) h))
