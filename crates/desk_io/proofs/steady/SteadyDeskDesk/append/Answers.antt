use Rattle.std.proofs.Common.{◌∙◌, ap, sym, length, arith}
use Rattle.std.proofs.lemmas.List.{take_all}
use Rattle.desk_io.specs.Desk.{with_more}
use Rattle.desk_io.proofs.SteadyFiles.{steady_more}
use Rattle.desk_io.specs.FileList.{stored, steady}
use Rattle.desk_io.proofs.steady.SteadyDeskDesk.append.Goals as goal

pub returns-clause-ok : goal.returns-clause-ok
returns-clause-ok c =
    let piece = c.args.piece.now in
    steady_more c.args.name.now piece (stored c.add_bytes.new.files.items) (stored c.args.self.now.files.items) c.in_ok-add_bytes.ensures.ok
    ∙ ap (λ xs. with_more c.args.name.now xs (steady (stored c.args.self.now.files.items))) (sym (take_all (length piece) piece (omega arith)))
