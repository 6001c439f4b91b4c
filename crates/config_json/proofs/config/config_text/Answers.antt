use Rattle.std.proofs.Common.{◌∙◌, ap, subst}
use Rattle.class_table.specs.Sound.{IsSound}
use Rattle.object_alloc.specs.Limits.{IsShallow}
use Rattle.serde_json.specs.Written.{compact_text, has_float}
use Rattle.config_json.specs.Tree.{config_data}
use Rattle.config_json.proofs.FloatFree.{config_free}
use Rattle.config_json.proofs.NestLaws.{config_depth, reads_as}
use Rattle.config_json.proofs.config.config_text.Goals as goal

pub returns : goal.returns
returns c =
    let o = c.args.table.now in
    let t = c.args.config.now in
    let made = c.in_ok-value.ensures.value in
    let sound = subst IsSound c.requires.same c.count-count.ensures.sound in
    let shallow = subst IsShallow c.requires.same c.count-count.ensures.limits.depths in
    record {
      text = c.in_ok-text.ensures.text (ap has_float made ∙ config_free o t) ∙ ap compact_text made;
      read = reads_as _ _ (config_data o t) c.in_ok-text.ensures.utf8 c.in_ok-text.ensures.reads_back made (config_depth o sound shallow t);
    }
