use Rattle.std.proofs.Common.{get_or, refl}
use Rattle.identity_forms.proofs.MemberLaws.{sure, sure_step, sure_objects_step, variables_push, sure_push}
use Rattle.identity_forms.proofs.members.sure_members.Goals as goal

pub loop-object-preserved : goal.loop-object-preserved
loop-object-preserved c =
    let xs = c.args.objects.now in
    let k = c.loop-object.object-index in
    let i = c.loop-object.invariant in
    record {
      members = λ a. sure_step xs k c.loop-object.members.items c.push.new.self.items a c.loop-object-test.true c.in_ok-push.ensures.items (i.members a);
      objects = sure_objects_step xs k c.loop-object.members.items c.push.new.self.items c.loop-object-test.true c.in_ok-push.ensures.items i.objects;
      variables = λ n. variables_push n c.loop-object.members.items c.push.new.self.items (sure (get_or xs k 0)) c.in_ok-push.ensures.items tt (i.variables n);
      sure = sure_push c.loop-object.members.items c.push.new.self.items (sure (get_or xs k 0)) c.in_ok-push.ensures.items refl i.sure;
    }
