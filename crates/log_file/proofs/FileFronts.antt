-- Fronts of a file that a checker takes, or refuses.
use Rattle.std.proofs.Common.{◌≡◌, ℕ, zero, suc, ◌+◌, ◌-◌, ◌≤◌, ◌<◌, Option, Some, None}
use Rattle.std.proofs.Common.{List, [], ◌∷◌, ◌++◌, length, take, drop, refl, sym, ap, ◌∙◌, subst}
use Rattle.std.proofs.Common.{arith, append_assoc, take-add, length-drop}
use Rattle.std.proofs.lemmas.List.{length-take, take-append-drop, take-take}
use Rattle.desk_io.specs.Desk.{Files, OfFile, ReadsAt}
use Rattle.ground_form.specs.declared.ground.Ground.{Ground}
use Rattle.log_check.specs.Fed.{Left, HasTaken, FailsAt, IsRefusedText}
use Rattle.log_check.specs.declared.lines.CheckError.{CheckError}
use Rattle.log_check.specs.declared.lines.CheckError.TheVariants as check
use Rattle.log_file.specs.Fronts.{TakesOn, check_cause}
use Rattle.log_file.specs.declared.reading.FileCheck.TheVariants.{Rejected}

-- what the checker refuses is refused with the same line
pub refused_at :
    (g : Ground) (bytes : List ℕ) (e : CheckError) (line : ℕ) → check_cause e ≡ Rejected line
    → IsRefusedText g bytes e → FailsAt g bytes line
refused_at g bytes (check.Rejected n) line same h =
    let number : n ≡ line = cc in
    subst (λ k. FailsAt g bytes k) number h
refused_at g bytes check.Memory line same h = absurd cc

set_behind :
    (bytes lines bad more behind : List ℕ) → bytes ≡ lines ++ (bad ++ 10 ∷ more)
    → bytes ++ behind ≡ lines ++ (bad ++ 10 ∷ (more ++ behind))
set_behind bytes lines bad more behind e =
    ap (λ z. z ++ behind) e ∙ append_assoc lines (bad ++ 10 ∷ more) behind
    ∙ ap (λ z. lines ++ z) (append_assoc bad (10 ∷ more) behind)

-- a line that is refused stays so, whatever comes behind
pub fails_before :
    (g : Ground) (bytes behind : List ℕ) (line : ℕ) → FailsAt g bytes line
    → FailsAt g (bytes ++ behind) line
fails_before g bytes behind line h = record {
  lines = h.lines;
  bad = h.bad;
  more = h.more ++ behind;
  text = set_behind _ _ _ _ behind h.text;
  spelled = h.spelled;
  ended = h.ended;
  taken = h.taken;
  number = h.number;
  refused = h.refused;
}

-- ---- a piece that was read behind a front

-- the shorter of two fronts, whichever that is
take_turned : (n r : ℕ) (xs : List ℕ) → take n (take r xs) ≡ take r (take n xs)
take_turned zero zero xs = refl
take_turned zero (suc r) xs = refl
take_turned (suc n) zero xs = refl
take_turned (suc n) (suc r) [] = refl
take_turned (suc n) (suc r) (x ∷ xs) = ap (λ z. x ∷ z) (take_turned n r xs)

-- a front up to the limit, from the place up to which the file was read
up_to : (file : List ℕ) (done limit : ℕ) → done ≤ limit
    → take limit file ≡ take done file ++ take (limit - done) (drop done file)
up_to file done limit le =
    let sum : limit ≡ done + (limit - done) = omega arith in
    ap (λ k. take k file) sum ∙ take-add done (limit - done) file

-- what there is room for, behind the front
within_room :
    (file piece : List ℕ) (done n limit : ℕ) → done ≤ limit → take n piece ≡ take n (drop done file)
    → take limit file ≡ (take done file ++ take (limit - done) (take n piece))
    ++ drop n (take (limit - done) (drop done file))
within_room file piece done n limit le same =
    let room = limit - done in
    let left = drop done file in
    let rest = drop n (take room left) in
    let fed : take n (take room left) ≡ take room (take n piece) =
    take_turned n room left ∙ ap (take room) (sym same) in
    let part : take room left ≡ take room (take n piece) ++ rest =
    sym (take-append-drop n (take room left)) ∙ ap (λ z. z ++ rest) fed in
    up_to file done limit le ∙ ap (λ z. take done file ++ z) part
    ∙ sym (append_assoc (take done file) (take room (take n piece)) rest)

-- all that there is room for, where the piece has more
all_room :
    (file piece : List ℕ) (done n limit : ℕ) → done ≤ limit → take n piece ≡ take n (drop done file)
    → limit - done < length (take n piece)
    → take done file ++ take (limit - done) (take n piece) ≡ take limit file
all_room file piece done n limit le same more =
    let size = length-take n piece in
    let short : limit - done ≤ n = omega (arith, size) in
    ap (λ z. take done file ++ take (limit - done) z) same
    ∙ ap (λ z. take done file ++ z) (take-take (limit - done) n (drop done file) short)
    ∙ sym (up_to file done limit le)

pub taken_on :
    (told : Option Files) (name piece : List ℕ) (g : Ground) (done n : ℕ) (old new : Left)
    → OfFile told name (λ file. ReadsAt file done n piece)
    → ((bytes : List ℕ) → HasTaken g bytes old → HasTaken g (bytes ++ take n piece) new)
    → OfFile told name (λ file. TakesOn g file done n old new)
taken_on None name piece g done n old new read takes = tt
taken_on (Some files) name piece g done n old new read takes =
    let file = read.0 in
    let at : ReadsAt file done n piece = read.2 in
    let grown : take done file ++ take n piece ≡ take (done + n) file =
    ap (λ z. take done file ++ z) at.bytes ∙ sym (take-add done n file) in (
      file,
      read.1,
      record {
        within = λ le. omega (arith, at.within, length-drop done file);
        taken = λ h. subst (λ (z : List ℕ). HasTaken g z new) grown (takes (take done file) h);
        end = at.end;
      },
    )

pub taken_to_limit :
    (told : Option Files) (name piece : List ℕ) (g : Ground) (done n limit : ℕ) (old new : Left)
    → done ≤ limit → OfFile told name (λ file. ReadsAt file done n piece)
    → limit - done < length (take n piece)
    → ((bytes : List ℕ) → HasTaken g bytes old
    → HasTaken g (bytes ++ take (limit - done) (take n piece)) new)
    → OfFile told name
    (λ file. HasTaken g (take done file) old → HasTaken g (take limit file) new)
taken_to_limit None name piece g done n limit old new le read more takes = tt
taken_to_limit (Some files) name piece g done n limit old new le read more takes =
    let file = read.0 in
    let at : ReadsAt file done n piece = read.2 in (
      file,
      read.1,
      λ h. subst (λ (z : List ℕ). HasTaken g z new)
          (all_room file piece done n limit le at.bytes more) (takes (take done file) h),
    )

pub refused_in_limit :
    (told : Option Files) (name piece : List ℕ) (g : Ground) (done n limit line : ℕ) (old : Left)
    → done ≤ limit → OfFile told name (λ file. ReadsAt file done n piece)
    → ((bytes : List ℕ) → HasTaken g bytes old
    → FailsAt g (bytes ++ take (limit - done) (take n piece)) line)
    → OfFile told name (λ file. HasTaken g (take done file) old → FailsAt g (take limit file) line)
refused_in_limit None name piece g done n limit line old le read wrong = tt
refused_in_limit (Some files) name piece g done n limit line old le read wrong =
    let file = read.0 in
    let at : ReadsAt file done n piece = read.2 in (
      file,
      read.1,
      λ h. subst (λ (z : List ℕ). FailsAt g z line)
          (sym (within_room file piece done n limit le at.bytes))
          (fails_before g _ _ line (wrong (take done file) h)),
    )
