use Rattle.std.proofs.Common.{[]}
use Rattle.desk_io.proofs.SteadyFiles.{steady_made}
use Rattle.desk_io.specs.FileList.{stored}
use Rattle.desk_io.proofs.steady.SteadyDeskDesk.create.Goals as goal

pub returns-clause-ok : goal.returns-clause-ok
returns-clause-ok c =
    steady_made c.args.name.now [] (stored c.make_empty.new.files.items) (stored c.args.self.now.files.items) c.in_ok-make_empty.ensures.ok
