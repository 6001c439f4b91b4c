use Rattle.fd_store.proofs.StackLaws.{narrowed_stack, narrowed_store}
use Rattle.fd_store.proofs.trail.narrow.Goals as goal

pub returns-clause-ok : goal.returns-clause-ok
returns-clause-ok c =
    narrowed_stack c.args.trail.now.items c.reserve.new.self.items _ c.args.boxes.now.items _
    c.args.set
    (record {
      var = c.args.x;
      before = c.replaced-before.result;
      from = c.args.from;
      level = c.args.level;
    })
    c.in_ok-reserve.ensures.items c.push_reserved.ensures.items c.replaced-before.ensures.old
    c.replaced-before.ensures.new

pub returns-clause-kept : goal.returns-clause-kept
returns-clause-kept c =
    narrowed_store c.args.trail.now.items c.reserve.new.self.items _ c.args.boxes.now.items _
    c.args.set
    (record {
      var = c.args.x;
      before = c.replaced-before.result;
      from = c.args.from;
      level = c.args.level;
    })
    c.in_ok-reserve.ensures.items c.push_reserved.ensures.items c.replaced-before.ensures.old
    c.replaced-before.ensures.new
    c.requires.kept c.requires.var c.requires.valid c.requires.within c.requires.level
