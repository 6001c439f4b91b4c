use Rattle.std.proofs.Common.{sym}
use Rattle.view_picture.proofs.MentionLaws.{noted_by_last}
use Rattle.view_picture.proofs.mentions.is_noted.Goals as goal

pub returns-in-Some : goal.returns-in-Some
returns-in-Some c =
    sym (noted_by_last c.args.list.now c.in-Some.field-0-1.now c.in-Some.last.now c.args.number
    c.in-Some.ensures.cases.0)
