use Rattle.std.proofs.Common.{◌∙◌, ap, codes}
use Rattle.std.specs.Prelude.{slice_index_or}
use Rattle.class_table.specs.declared.table.Class.{Class}
use Rattle.class_table.specs.Outline.{Outline}
use Rattle.serde_json.specs.Data.{string, put, no_members}
use Rattle.serde_json.specs.View.{view, members_view}
use Rattle.config_json.specs.Keys.{text_of}
use Rattle.config_json.proofs.TreeLaws.{class_name_read}
use Rattle.config_json.proofs.config.class_members.Goals as goal

pub returns : goal.returns
returns c =
    let told =
    λ (d : Class). c.class_name-class.ensures.name d
    ∙ ap (λ (t : Outline). (slice_index_or t.classes c.class.result d).name)
    c.table.ensures.table in
    let named =
    c.as_bytes.ensures.bytes
    ∙ class_name_read c.args.objects.now c.args.n c.class.result c.class_name-class.result.now
    c.requires.object c.class.ensures.there c.class.ensures.class told in
    record {
      members = c.in_ok-put.ensures.ok ∙ ap (λ ms. put (codes "class") (view c.in_ok-name.name) ms) (ap members_view c.new-members.ensures.empty)
          ∙ ap (λ v. put (codes "class") v no_members) (c.in_ok-name.ensures.value ∙ ap (λ w. string (text_of w)) named);
    }
