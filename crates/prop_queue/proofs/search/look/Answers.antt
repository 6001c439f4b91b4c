use Rattle.std.proofs.Common.{rules}
use Rattle.prop_queue.proofs.FitLaws.{fits_less, none_more}
use Rattle.prop_queue.proofs.search.look.Goals as goal

pub returns-in-None-clause-fits : goal.returns-in-None-clause-fits
returns-in-None-clause-fits g c =
    fits_less c.args.g.now c.args.listing.now.marks c.unlist_first.new.self.marks c.args.boxes.now
    c.args.k c.requires.fits (search rules) (c.unlist_first.ensures.marks c.args.k c.requires.first)

pub returns-in-None-clause-fewer_marks : goal.returns-in-None-clause-fewer_marks
returns-in-None-clause-fewer_marks g c =
    none_more c.args.listing.now.marks c.unlist_first.new.self.marks c.args.k
    (c.unlist_first.ensures.marks c.args.k c.requires.first)
