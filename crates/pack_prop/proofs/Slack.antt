-- From what the code tests to quiet items.
use Rattle.std.proofs.Common.{◌≡◌, ℕ, zero, suc, ◌<◌, true, false, List, [], ◌∷◌, pos, ◌≤ℤ◌, All, length, arith, subst, sym, ap}
use Rattle.signed_clause.specs.Ranges.{is_nil}
use Rattle.signed_clause.specs.Clauses.{Boxes, box_of}
use Rattle.ground_form.specs.declared.con.Con.{Con}
use Rattle.ground_form.specs.declared.con.Con.TheVariants.{Pack}
use Rattle.ground_form.specs.Meaning.{item_vars, vars_of}
use Rattle.ground_form.specs.Bounds.{low_of, IsBounded}
use Rattle.ground_form.specs.WellMade.{IsWellMadeCon}
use Rattle.rule_law.specs.Answers.{AreBoxesWithin}
use Rattle.box_rules.specs.Named.{AreItemsNamed}
use Rattle.box_rules.specs.Quiet.{quiet}
use Rattle.rule_law.specs.Reasons.{no_repeat}
use Rattle.rule_law.specs.Repeats.{open_vars}
use Rattle.box_view.proofs.EndLaws.{are_sets}
use Rattle.pack_fit.specs.Packing.{AllFit, HasEnough, HaveSlack, opens}
use Rattle.pack_prop.specs.Tight.{HasEach}
use Rattle.pack_fit.proofs.PackTotal.{HasRoom, enough_room}
use Rattle.pack_prop.proofs.TightTotal.{each_room}
use Rattle.pack_prop.proofs.PackQuiet.{room_quiet}

pub slack_from : (con : Con) (items : List (ℕ × ℕ × ℕ)) (boxes : Boxes) → con ≡ Pack items → AllFit items boxes → HasEnough items boxes → no_repeat (open_vars (vars_of con) boxes) ≡ true → HaveSlack items boxes
slack_from con items boxes is f e n = record { once = subst (λ (k : Con). no_repeat (open_vars (vars_of k) boxes) ≡ true) is n; fit = f; enough = e }

vars_named : (con : Con) (domains boxes : Boxes) (items : List (ℕ × ℕ × ℕ)) → con ≡ Pack items → IsWellMadeCon domains con → AreBoxesWithin domains boxes → All (λ x. x < length boxes) (item_vars items)
vars_named con domains boxes items e w b k d lt =
    let all : All (λ x. x < length domains) (item_vars items) = subst (λ (z : List ℕ). All (λ x. x < length domains) z) (ap (λ (z : Con). vars_of z) e) w.named in
    let l = all k d lt in let s = b.size in omega arith

items_named : (items : List (ℕ × ℕ × ℕ)) (boxes : Boxes) → All (λ x. x < length boxes) (item_vars items) → AreItemsNamed items boxes
items_named [] boxes h k d lt = absurd (omega arith)
items_named (i ∷ is) boxes h zero d lt = record { bin = h 0 0 (omega arith); size = h 1 0 (omega arith); room = h 2 0 (omega arith) }
items_named (i ∷ is) boxes h (suc k) d lt = items_named is boxes (λ j e l. h (suc (suc (suc j))) e (omega arith)) k d (omega arith)

pub pack_named : (con : Con) (domains boxes : Boxes) (items : List (ℕ × ℕ × ℕ)) → con ≡ Pack items → IsWellMadeCon domains con → AreBoxesWithin domains boxes → AreItemsNamed items boxes
pack_named con domains boxes items e w b = items_named items boxes (vars_named con domains boxes items e w b)

pub pack_some : (con : Con) (domains boxes : Boxes) (items : List (ℕ × ℕ × ℕ)) → con ≡ Pack items → IsWellMadeCon domains con → AreBoxesWithin domains boxes → All (λ x. is_nil (box_of boxes x) ≡ false) (item_vars items)
pack_some con domains boxes items e w b k d lt = b.some _ (vars_named con domains boxes items e w b k d lt)

with_room : (con : Con) (domains boxes : Boxes) (items : List (ℕ × ℕ × ℕ)) → con ≡ Pack items → IsWellMadeCon domains con → AreBoxesWithin domains boxes → no_repeat (opens items boxes) ≡ true → AllFit items boxes → HasRoom items boxes → quiet con boxes ≡ true
with_room con domains boxes items e w b once fit room =
    subst (λ (z : Con). quiet z boxes ≡ true) (sym e) (room_quiet domains boxes items b (vars_named con domains boxes items e w b) once fit room)

pub pack_quiet : (con : Con) (domains boxes : Boxes) (items : List (ℕ × ℕ × ℕ)) → con ≡ Pack items → IsWellMadeCon domains con → AreBoxesWithin domains boxes → HaveSlack items boxes → quiet con boxes ≡ true
pack_quiet con domains boxes items e w b r = with_room con domains boxes items e w b r.once r.fit (enough_room items boxes (are_sets boxes b.sets) r.enough)

pub tight_quiet : (con : Con) (domains boxes : Boxes) (items : List (ℕ × ℕ × ℕ)) → con ≡ Pack items → IsWellMadeCon domains con → AreBoxesWithin domains boxes →
    no_repeat (open_vars (vars_of con) boxes) ≡ true → AllFit items boxes → HasEach items boxes → quiet con boxes ≡ true
tight_quiet con domains boxes items e w b n fit each =
    let once : no_repeat (opens items boxes) ≡ true = subst (λ (k : Con). no_repeat (open_vars (vars_of k) boxes) ≡ true) e n in
    with_room con domains boxes items e w b once fit (each_room items boxes (are_sets boxes b.sets) each)

pub pack_sizes : (con : Con) (domains : Boxes) (items : List (ℕ × ℕ × ℕ)) → con ≡ Pack items → IsWellMadeCon domains con → All (λ i. pos 0 ≤ℤ low_of (box_of domains i.1)) items
pack_sizes con domains items e w = (subst (λ (z : Con). IsBounded z domains) e w.bounded).sizes
