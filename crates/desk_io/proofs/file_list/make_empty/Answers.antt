use Rattle.std.proofs.Common.{refl, []}
use Rattle.desk_io.proofs.FileListLemmas.{changed, added}
use Rattle.desk_io.proofs.file_list.make_empty.Goals as goal

pub returns-in-Some-clause-ok : goal.returns-in-Some-clause-ok
returns-in-Some-clause-ok c =
    changed c.args.files.now.items c.deref.result.now c.in-Some.place c.args.name.now [] c.index_mut.result.now
    (c.index_mut.result.now.0, c.clear.new.self)
    c.deref.ensures.value c.in-Some.ensures.place c.index_mut.ensures.value refl c.clear.ensures.items

pub returns-in_ok-push-in-None-clause-ok : goal.returns-in_ok-push-in-None-clause-ok
returns-in_ok-push-in-None-clause-ok c =
    added c.args.files.now.items c.deref.result.now c.args.name.now []
    (c.in_ok-from_str-in-None.field-0, c.new.result) c.push.new.self.items
    c.deref.ensures.value c.in-None.ensures.place c.in_ok-from_str-in-None.ensures.ok
    c.new.ensures.items c.in_ok-push-in-None.ensures.items
