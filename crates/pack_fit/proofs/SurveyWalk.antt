-- What a walk from bin to bin does in one step.
use Rattle.std.proofs.Common.{◌≡◌, ℕ, zero, suc, ◌+◌, ◌-◌, ◌*◌, ◌<◌, ◌≤◌, true, List, [], ◌∷◌, slice_index_or, refl, ℤ, pos, ◌+ℤ◌, ◌≤ℤ◌, ◌<ℤ◌, length, arith, subst, sym, ap, ◌∙◌, All}
use Rattle.std.proofs.lemmas.Int.{ints}
use Rattle.signed_clause.specs.Ranges.{IsValid}
use Rattle.signed_clause.specs.Clauses.{Boxes}
use Rattle.box_rules.specs.Refuted.{width}
use Rattle.box_view.proofs.EndLaws.{are_sets}
use Rattle.pack_fit.specs.declared.survey.BinCounts.{BinCounts}
use Rattle.pack_fit.specs.Packing.{tight_room, all_fit, seconds_from}
use Rattle.pack_fit.specs.Survey.{IsCounted, AreCounted, AreBegun, AreEnded, all_begun, all_ended, all_gone_on, hits, open_floor, least_second}
use Rattle.pack_fit.proofs.PackWalks.{upto_next, seconds_next}
use Rattle.pack_fit.proofs.SurveyCounts.{all_in, all_out, hits_few}
use Rattle.pack_fit.proofs.SurveyFits.{second_upto, second_least, second_most, fixed_hits}

-- what stands in a slot, whatever would stand for one that isn't there
same_slot : (ns : List ℕ) (d a b : ℕ) → d < length ns → slice_index_or ns d a ≡ slice_index_or ns d b
same_slot [] d a b h = absurd (omega arith)
same_slot (n ∷ ns) zero a b h = refl
same_slot (n ∷ ns) (suc d) a b h = same_slot ns d a b (omega arith)

pub begun_slot : (n : ℕ) (counts : List ℕ) (d : ℕ) (first : ℤ) (items : List (ℕ × ℕ × ℕ)) (boxes : Boxes) → n ≡ slice_index_or counts d n → d < length counts → AreBegun counts first items boxes → n ≡ all_begun (first +ℤ pos d) items boxes
begun_slot n counts d first items boxes e lt h = e ∙ same_slot counts d n 0 lt ∙ h d lt

pub ended_slot : (n : ℕ) (counts : List ℕ) (d : ℕ) (first : ℤ) (items : List (ℕ × ℕ × ℕ)) (boxes : Boxes) → n ≡ slice_index_or counts d n → d < length counts → AreEnded counts first items boxes → n ≡ all_ended (first +ℤ pos d) items boxes
ended_slot n counts d first items boxes e lt h = e ∙ same_slot counts d n 0 lt ∙ h d lt

pub bin_slot : (s : BinCounts) (bins : List BinCounts) (d : ℕ) (first : ℤ) (items : List (ℕ × ℕ × ℕ)) (boxes : Boxes) → s ≡ slice_index_or bins d s → d < length bins → AreCounted bins first items boxes → IsCounted s (first +ℤ pos d) items boxes
bin_slot s bins d first items boxes e lt h = subst (λ (z : BinCounts). IsCounted z (first +ℤ pos d) items boxes) (sym e) (h s d lt)

-- how many items may be at the bin
pub count_here : (carried begun : ℕ) (v : ℤ) (items : List (ℕ × ℕ × ℕ)) (boxes : Boxes) → All (λ s. IsValid s) boxes → carried ≡ all_gone_on v items boxes → begun ≡ all_begun v items boxes →
    carried + begun ≡ hits v items boxes
count_here carried begun v items boxes s h k = let all = all_in v items boxes (are_sets boxes s) in omega arith

pub count_fits : (carried begun : ℕ) (v : ℤ) (items : List (ℕ × ℕ × ℕ)) (boxes : Boxes) → All (λ s. IsValid s) boxes → length items < 18446744073709551616 → carried ≡ all_gone_on v items boxes → begun ≡ all_begun v items boxes →
    carried + begun < 18446744073709551616
count_fits carried begun v items boxes s few h k = let all = count_here carried begun v items boxes s h k in let most = hits_few v items boxes in omega arith

-- those that are fixed there are among them
pub count_fixed : (bin : BinCounts) (count : ℕ) (v : ℤ) (items : List (ℕ × ℕ × ℕ)) (boxes : Boxes) → All (λ s. IsValid s) boxes → IsCounted bin v items boxes → count ≡ hits v items boxes → bin.count ≤ count
count_fixed bin count v items boxes s is c = let n = is.count in let few = fixed_hits v items boxes (are_sets boxes s) in omega arith

-- and how many of them may be at the next one too
pub count_goes : (count ended : ℕ) (v : ℤ) (items : List (ℕ × ℕ × ℕ)) (boxes : Boxes) → All (λ s. IsValid s) boxes → count ≡ hits v items boxes → ended ≡ all_ended v items boxes → ended ≤ count
count_goes count ended v items boxes s h k = let all = all_out v items boxes (are_sets boxes s) in omega arith

next_bin : (first : ℤ) (d : ℕ) → (first +ℤ pos d) +ℤ pos 1 ≡ first +ℤ pos (d + 1)
next_bin first d = omega (arith, ints)

pub count_next : (count ended : ℕ) (first : ℤ) (d : ℕ) (items : List (ℕ × ℕ × ℕ)) (boxes : Boxes) → All (λ s. IsValid s) boxes → count ≡ hits (first +ℤ pos d) items boxes → ended ≡ all_ended (first +ℤ pos d) items boxes →
    count - ended ≡ all_gone_on (first +ℤ pos (d + 1)) items boxes
count_next count ended first d items boxes s h k =
    let all = all_out (first +ℤ pos d) items boxes (are_sets boxes s) in
    let is : all_gone_on ((first +ℤ pos d) +ℤ pos 1) items boxes ≡ all_gone_on (first +ℤ pos (d + 1)) items boxes = ap (λ (v : ℤ). all_gone_on v items boxes) (next_bin first d) in
    omega arith

-- ---- what holds of the bins so far

pub fit_next : (first : ℤ) (d : ℕ) (items : List (ℕ × ℕ × ℕ)) (boxes : Boxes) → ((v : ℤ) → first ≤ℤ v → v <ℤ (first +ℤ pos d) → all_fit v items items boxes ≡ true) → all_fit (first +ℤ pos d) items items boxes ≡ true →
    (v : ℤ) → first ≤ℤ v → v <ℤ (first +ℤ pos (d + 1)) → all_fit v items items boxes ≡ true
fit_next first d items boxes h k = upto_next (λ v. all_fit v items items boxes ≡ true) first (first +ℤ pos d) (first +ℤ pos (d + 1)) (sym (next_bin first d)) h k

pub room_next : (bin : BinCounts) (first : ℤ) (d : ℕ) (items : List (ℕ × ℕ × ℕ)) (boxes : Boxes) (count : ℕ) (floor sum next here : ℤ) → All (λ s. IsValid s) boxes → IsCounted bin (first +ℤ pos d) items boxes → count ≡ hits (first +ℤ pos d) items boxes →
    floor ≡ open_floor items boxes → here ≡ least_second bin (count - bin.count) floor → next ≡ sum +ℤ here → sum ≤ℤ seconds_from d first items boxes → next ≤ℤ seconds_from (d + 1) first items boxes
room_next bin first d items boxes count floor sum next here s is c f m e h =
    let upto = second_upto bin (first +ℤ pos d) items boxes count floor s is c f in
    let more = seconds_next d first items boxes in
    let n : d + 1 ≡ suc d = omega arith in
    let at : seconds_from (d + 1) first items boxes ≡ seconds_from (suc d) first items boxes = ap (λ (m : ℕ). seconds_from m first items boxes) n in
    omega (arith, ints)

pub sum_low : (bin : BinCounts) (others : ℕ) (floor sum next here : ℤ) → here ≡ least_second bin others floor → next ≡ sum +ℤ here → pos 0 ≤ℤ sum → pos 0 ≤ℤ next
sum_low bin others floor sum next here m e h = let low = second_least bin others floor in omega (arith, ints)

floor_upto : (is : List (ℕ × ℕ × ℕ)) (boxes : Boxes) → open_floor is boxes ≤ℤ pos 9223372036854775807
floor_upto [] boxes = omega (arith, ints)
floor_upto (i ∷ is) boxes = let more = floor_upto is boxes in grind (arith, ints)

tight_upto : (v : ℤ) (is : List (ℕ × ℕ × ℕ)) (boxes : Boxes) → tight_room v is boxes ≤ℤ pos 9223372036854775807
tight_upto v [] boxes = omega (arith, ints)
tight_upto v (i ∷ is) boxes = let more = tight_upto v is boxes in grind (arith, ints)

pub sum_high : (bin : BinCounts) (v : ℤ) (others : ℕ) (items : List (ℕ × ℕ × ℕ)) (boxes : Boxes) (floor sum next here : ℤ) (d : ℕ) → IsCounted bin v items boxes → floor ≡ open_floor items boxes → here ≡ least_second bin others floor → next ≡ sum +ℤ here →
    sum ≤ℤ pos (d * 9223372036854775807) → next ≤ℤ pos ((d + 1) * 9223372036854775807)
sum_high bin v others items boxes floor sum next here d is f m e h =
    let t = is.tight in let tight = tight_upto v items boxes in let room = floor_upto items boxes in
    let upto = second_most bin others floor (pos 9223372036854775807) (omega (arith, ints)) (omega (arith, ints)) (omega (arith, ints)) in omega (arith, ints)

pub seconds_enough : (n : ℕ) (first : ℤ) (items : List (ℕ × ℕ × ℕ)) (boxes : Boxes) (need sum : ℤ) → need ≤ℤ sum → sum ≤ℤ seconds_from n first items boxes → need ≤ℤ seconds_from n first items boxes
seconds_enough n first items boxes need sum h k = omega (arith, ints)

-- the last of the bins
pub width_end : (first last v : ℤ) (n : ℕ) → n ≡ width first last → first ≤ℤ last → v ≤ℤ last → v <ℤ (first +ℤ pos n)
width_end first last v n e o h = omega (arith, ints)
