use Rattle.view_leaves.proofs.Ascending.{leaves_ascend, no_leaves_ascend}
use Rattle.view_leaves.proofs.walk.leaves_of.Goals as goal

pub returns-in-None-clause-ascending : goal.returns-in-None-clause-ascending
returns-in-None-clause-ascending c = no_leaves_ascend _ c.in-None.ensures

pub returns-in_ok-push_members-in-Some-clause-ascending :
    goal.returns-in_ok-push_members-in-Some-clause-ascending
returns-in_ok-push_members-in-Some-clause-ascending c =
    leaves_ascend _ _ c.in-Some.ensures c.in_ok-push_members-in-Some.ensures.order
