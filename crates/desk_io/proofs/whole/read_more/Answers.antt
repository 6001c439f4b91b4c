use Rattle.std.proofs.Common.{length, ◌≡◌, ◌+◌, ◌≤◌, rules}
use Rattle.desk_io.proofs.Pieces.{piece_behind, in_front}
use Rattle.desk_io.proofs.whole.read_more.Goals as goal

pub returns-clause-read : goal.returns-clause-read
returns-clause-read g c =
    let size : c.len-length.result ≡ length c.args.bytes.now.items = search rules in
    let front = in_front c.args.bytes.now.items c.deref_mut.result.now c.resize.new.self.items _ c.len-length.result 65536 size c.deref_mut.ensures.value c.in_ok-resize.ensures.items in
    let room : c.len-length.result + c.in_ok-n.n ≤ c.resize.new.self.len = search rules in
    piece_behind _ _ c.args.bytes.now.items c.deref_mut.result.now c.read.new.buf _ _ c.truncate.new.self.items c.len-length.result c.in_ok-n.n c.resize.new.self.len
    size front room c.in_ok-n.ensures.count c.truncate.ensures.items c.in_ok-n.ensures.bytes
