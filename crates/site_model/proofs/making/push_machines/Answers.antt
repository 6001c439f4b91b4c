use Rattle.std.specs.List.{flat_map}
use Rattle.site_model.proofs.ListLaws.{two_written, of_table}
use Rattle.site_model.specs.Classes.{enumeration_of, host_class}
use Rattle.site_model.specs.Model.{machines_text}
use Rattle.site_model.proofs.making.push_machines.Goals as goal

pub returns : goal.returns
unfolding machines_text
returns c =
    two_written c.args.text.now.items c.push_enumerations.new.text.items
    c.push_host_class.new.text.items _ _
    (of_table c.args.text.now.items c.push_enumerations.new.text.items
    (λ columns rows. flat_map (enumeration_of c.args.kinds.now rows) columns) _ _ _ _
    c.header.ensures c.behind.ensures c.in_ok-push_enumerations.ensures)
    (of_table c.push_enumerations.new.text.items c.push_host_class.new.text.items
    (host_class c.args.kinds.now) _ _ _ _ c.header-2.ensures c.behind-2.ensures
    c.in_ok-push_host_class.ensures)
