use Rattle.std.proofs.Common.{arith}
use Rattle.config_json.specs.Tree.{path_data}
use Rattle.config_json.proofs.TreeLaws.{data_next, data_done}
use Rattle.config_json.proofs.config.path_values.Goals as goal

pub loop-n-preserved : goal.loop-n-preserved
loop-n-preserved c =
    data_next (path_data c.args.objects.now) c.args.numbers.now c.loop-n.n-index 0 c.loop-n.paths.items c.push.new.self.items c.in_ok-path.path _ c.loop-n-test.true c.in_ok-path.ensures.value c.in_ok-push.ensures.items c.loop-n.invariant

pub returns : goal.returns
returns c = record { paths = data_done (path_data c.args.objects.now) c.args.numbers.now c.loop-n.n-index c.loop-n.paths.items _ (omega (arith, c.loop-n-test.false, c.loop-n.auto)) c.loop-n.invariant }
