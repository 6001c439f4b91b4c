use Rattle.run_law.proofs.Picked.{picked_searched, picked_split, picked_by}
use Rattle.run_law.proofs.following.pick_may_be_decided.Goals as goal

pub returns-clause-searched : goal.returns-clause-searched
returns-clause-searched c =
    picked_searched c.args.order c.args.boxes.now c.args.hints.now c.args.search c.args.split
    c.args.part.now
    (record {
      pick = c.requires.picked;
      part_is = c.requires.part;
      part_valid = c.ranges-2.ensures.valid;
      sets = c.requires.sets;
    })

pub returns-clause-splits : goal.returns-clause-splits
returns-clause-splits c =
    picked_split c.args.order c.args.boxes.now c.args.hints.now c.args.search c.args.split
    c.args.part.now
    (record {
      pick = c.requires.picked;
      part_is = c.requires.part;
      part_valid = c.ranges-2.ensures.valid;
      sets = c.requires.sets;
    })

pub returns-clause-by_order : goal.returns-clause-by_order
returns-clause-by_order c =
    picked_by c.args.order c.args.boxes.now c.args.hints.now c.args.search c.args.split
    c.args.part.now
    (record {
      pick = c.requires.picked;
      part_is = c.requires.part;
      part_valid = c.ranges-2.ensures.valid;
      sets = c.requires.sets;
    })
