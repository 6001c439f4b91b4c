use Rattle.std.proofs.Common.{refl, rules}
use Rattle.desk_io.proofs.FileListLemmas.{lengthened, unchanged, added_more}
use Rattle.desk_io.proofs.file_list.add_bytes.Goals as goal

pub returns-in_err-extend_from_slice-in-Some-clause-err :
    goal.returns-in_err-extend_from_slice-in-Some-clause-err
returns-in_err-extend_from_slice-in-Some-clause-err c =
    let same = unchanged c.args.files.now.items c.deref.result.now c.in-Some.place c.args.name.now c.index_mut.result.now
    (c.index_mut.result.now.0, c.extend_from_slice.new.self)
    c.deref.ensures.value c.in-Some.ensures.place c.index_mut.ensures.value refl c.in_err-extend_from_slice-in-Some.ensures.items in
    search (rules, same)

pub returns-in_ok-extend_from_slice-in-Some-clause-ok :
    goal.returns-in_ok-extend_from_slice-in-Some-clause-ok
returns-in_ok-extend_from_slice-in-Some-clause-ok c =
    lengthened c.args.files.now.items c.deref.result.now c.in-Some.place c.args.name.now c.args.piece.now c.index_mut.result.now
    (c.index_mut.result.now.0, c.extend_from_slice.new.self)
    c.deref.ensures.value c.in-Some.ensures.place c.index_mut.ensures.value refl c.in_ok-extend_from_slice-in-Some.ensures.items

pub returns-in_ok-push-in-None-clause-ok : goal.returns-in_ok-push-in-None-clause-ok
returns-in_ok-push-in-None-clause-ok c =
    added_more c.args.files.now.items c.deref.result.now c.args.name.now c.args.piece.now
    (c.in_ok-from_str-in-None.field-0, c.in_ok-to_vec-in-None.field-0) c.push.new.self.items
    c.deref.ensures.value c.in-None.ensures.place c.in_ok-from_str-in-None.ensures.ok
    (c.in_ok-to_vec-in-None.ensures.items_if_clones_equal (λ x y e. e)) c.in_ok-push-in-None.ensures.items
