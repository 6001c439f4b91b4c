use Rattle.site_model.proofs.ListLaws.{of_table}
use Rattle.site_model.specs.Classes.{service_class}
use Rattle.site_model.specs.Goals.{aim_of}
use Rattle.site_model.specs.Model.{services_text}
use Rattle.site_model.proofs.making.push_services_class.Goals as goal

pub returns : goal.returns
unfolding services_text
returns c =
    of_table c.args.text.now.items c.push_service_class.new.text.items
    (λ columns rows. service_class c.args.kinds.now columns rows (aim_of c.args.goal)) _ _ _ _
    c.header.ensures c.behind.ensures c.in_ok-push_service_class.ensures
