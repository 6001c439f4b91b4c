-- Texts of services and hosts: what stands in them, and that they are read.
use Rattle.std.proofs.Common.{◌≡◌, ℕ, ◌≤◌, Bool, true, false, if◌then◌else◌, ◌||◌, List, [], ◌∷◌, ◌++◌, Option, Some, option_map, map, refl, sym, ap, ◌∙◌, subst, arith, Ordering, Less, Equal, Greater, nat_cmp, true≢false}
use Rattle.std.specs.Cmp.Lexicographic.{bytes_decides, slice_cmp}
use Rattle.std.specs.Ordering.{match_ordering}
use Rattle.serde_json.specs.Data.{Data, Members, no_members, member, put, depth, members_depth}
use Rattle.serde_json.specs.Find.{get_member}
use Rattle.serde_json.specs.Read.{read, max_depth}
use Rattle.serde_json.specs.Written.{compact_text, has_float, members_have_float}
use Rattle.serde_json.proofs.Views.{get_member-put, get_member-put_other}
use Rattle.site_names.specs.Meeting.{same_word}
use Rattle.site_names.specs.Words.{word_of}
use Rattle.site_tables.specs.Grid.{GridRow}
use Rattle.site_texts.specs.Pairs.{NamedText, last_under}
use Rattle.site_today.specs.Standing.{standings}
use Rattle.site_former.specs.Former.{former_data, former_line, former_text, host_data, with_hosts, worded}

-- ---- what stands under a key

put_by : (b : Bool) (key name host : List ℕ) (found : Members) (was : Option (List ℕ))
    → same_word name key ≡ b → get_member key found ≡ option_map host_data was
    → get_member key (put name (host_data host) found)
    ≡ option_map host_data (if b then Some host else was)
put_by true key name host found was e h =
    let same : name ≡ key = (bytes_decides name key).0 e in
    subst (λ k. get_member k (put name (host_data host) found) ≡ Some (host_data host)) same
    (get_member-put name (host_data host) found)
put_by false key name host found was e h =
    get_member-put_other key name (host_data host) found
    (λ same. true≢false (sym ((bytes_decides name key).1 (sym same)) ∙ e)) ∙ h

pub under_key : (key : List ℕ) (ps : List NamedText) (found : Members) (was : Option (List ℕ))
    → get_member key found ≡ option_map host_data was
    → get_member key (with_hosts ps found)
    ≡ option_map host_data (last_under key was (map worded ps))
under_key key [] found was h = h
under_key key (p ∷ ps) found was h =
    under_key key ps (put (word_of p.0) (host_data p.1) found)
    (if same_word (word_of p.0) key then Some p.1 else was)
    (put_by (same_word (word_of p.0) key) key (word_of p.0) p.1 found was refl h)

-- ---- no number with a fraction, and two levels

both : (a b : Bool) → a ≡ false → b ≡ false → a || b ≡ false
both a b e f = rw (e, f) refl

left_false : (a b : Bool) → a || b ≡ false → a ≡ false
left_false true b e = e
left_false false b e = refl

right_false : (a b : Bool) → a || b ≡ false → b ≡ false
right_false true b e = cc
right_false false b e = e

free_by : (r : Ordering) (a b c : Members) → members_have_float a ≡ false
    → members_have_float b ≡ false → members_have_float c ≡ false
    → members_have_float (match_ordering r a b c) ≡ false
free_by Less a b c x y z = x
free_by Equal a b c x y z = y
free_by Greater a b c x y z = z

put_free : (k : List ℕ) (d : Data) (ms : Members) → has_float d ≡ false
    → members_have_float ms ≡ false → members_have_float (put k d ms) ≡ false
put_free k d no_members free none = both (has_float d) false free refl
put_free k d (member l e ms) free none =
    let here = left_false (has_float e) (members_have_float ms) none in
    let later = right_false (has_float e) (members_have_float ms) none in
    free_by (slice_cmp nat_cmp k l) (member k d (member l e ms)) (member l d ms)
    (member l e (put k d ms)) (both (has_float d) (members_have_float (member l e ms)) free none)
    (both (has_float d) (members_have_float ms) free later)
    (both (has_float e) (members_have_float (put k d ms)) here (put_free k d ms free later))

hosts_free : (ps : List NamedText) (found : Members) → members_have_float found ≡ false
    → members_have_float (with_hosts ps found) ≡ false
hosts_free [] found none = none
hosts_free (p ∷ ps) found none =
    hosts_free ps (put (word_of p.0) (host_data p.1) found)
    (put_free (word_of p.0) (host_data p.1) found refl none)

shallow_by : (r : Ordering) (a b c : Members) (n : ℕ) → members_depth a ≤ n → members_depth b ≤ n
    → members_depth c ≤ n → members_depth (match_ordering r a b c) ≤ n
shallow_by Less a b c n x y z = x
shallow_by Equal a b c n x y z = y
shallow_by Greater a b c n x y z = z

put_shallow : (k : List ℕ) (d : Data) (ms : Members) (n : ℕ) → depth d ≤ n
    → members_depth ms ≤ n → members_depth (put k d ms) ≤ n
put_shallow k d no_members n p q = omega (arith, p)
put_shallow k d (member l e ms) n p q =
    let rest = put_shallow k d ms n p (omega (arith, q)) in
    shallow_by (slice_cmp nat_cmp k l) (member k d (member l e ms)) (member l d ms)
    (member l e (put k d ms)) n (omega (arith, p, q)) (omega (arith, p, q)) (omega (arith, q, rest))

hosts_shallow : (ps : List NamedText) (found : Members) → members_depth found ≤ 1
    → members_depth (with_hosts ps found) ≤ 1
hosts_shallow [] found h = h
hosts_shallow (p ∷ ps) found h =
    hosts_shallow ps (put (word_of p.0) (host_data p.1) found)
    (put_shallow (word_of p.0) (host_data p.1) found 1 (omega arith) h)

-- ---- the whole text

data_free : (today : List GridRow) → has_float (former_data today) ≡ false
data_free today = hosts_free (standings today) no_members refl

data_shallow : (today : List GridRow) → depth (former_data today) ≤ max_depth
data_shallow today = let h = hosts_shallow (standings today) no_members (omega arith) in omega (arith, h)

pub line_is : (line all : List ℕ) (d : Data) (today : List GridRow) → d ≡ former_data today
    → (has_float d ≡ false → line ≡ compact_text d) → all ≡ line ++ 10 ∷ []
    → all ≡ former_text today
line_is line all d today made text ended =
    ended ∙ ap (λ t. t ++ 10 ∷ [])
    (text (ap has_float made ∙ data_free today) ∙ ap compact_text made)

pub line_read : (line : List ℕ) (d : Data) (today : List GridRow) → d ≡ former_data today
    → (has_float d ≡ false → line ≡ compact_text d) → (depth d ≤ max_depth → read line ≡ Some d)
    → read (former_line today) ≡ Some (former_data today)
line_read line d today made text back =
    sym (ap read (text (ap has_float made ∙ data_free today) ∙ ap compact_text made))
    ∙ back (subst (λ x. depth x ≤ max_depth) (sym made) (data_shallow today)) ∙ ap Some made
