use Rattle.std.proofs.Common.{◌∙◌, ap}
use Rattle.std.specs.Str.Lossy.{utf8_lossy}
use Rattle.serde_json.specs.Data.{put}
use Rattle.serde_json.specs.View.{view, members_view}
use Rattle.serde_json.proofs.Views.{members_view-insert_entry}
use Rattle.config_json.proofs.config.put_value.Goals as goal

pub returns : goal.returns
returns c =
    let old = c.args.members.now.entries in
    record {
      members = ap members_view c.in_ok-insert.ensures.entries ∙ members_view-insert_entry old c.in_ok-key.key c.args.value
          ∙ ap (λ k. put k (view c.args.value) (members_view old)) (c.in_ok-key.ensures.lossy ∙ ap utf8_lossy c.as_bytes.ensures.bytes);
    }
