use Rattle.site_model.proofs.ListLaws.{three_written}
use Rattle.site_model.proofs.classes.push_service_class.Goals as goal

pub returns : goal.returns
returns c =
    three_written c.args.text.now.items c.extend_from_slice.new.self.items
    c.push_service_members.new.text.items c.extend_from_slice-2.new.self.items _ _ _
    c.in_ok-extend_from_slice.ensures.items c.in_ok-push_service_members.ensures
    c.in_ok-extend_from_slice-2.ensures.items
