use Rattle.conf_types.specs.TreeOf.{tree_of}
use Rattle.conf_types.specs.Trees as tree
use Rattle.expr_forms.proofs.Configured.{cells_still}
use Rattle.expr_forms.proofs.Inside.{in_right}
use Rattle.ground_expr.proofs.Stating.{left_linear, says_form, says_comparison}
use Rattle.ground_expr.proofs.Steps.{operands, left_usable, right_usable, made_pair}
use Rattle.ground_expr.proofs.statements.require_operator.Goals as goal

pub form_at-requires-2-clause-standing : goal.form_at-requires-2-clause-standing
form_at-requires-2-clause-standing c =
    let scene = c.args.scene.now in
    in_right scene.objects.now scene.this scene.vars.now 0 c.args.op (tree_of c.args.left.now) (tree_of c.args.right.now) c.requires.standing

pub form_at-requires-2-clause-cells : goal.form_at-requires-2-clause-cells
form_at-requires-2-clause-cells c =
    cells_still c.args.scene.now.objects.now c.args.maker.now c.form_at.new.maker c.in_ok-l.ensures.made.adds.grows c.requires.cells

pub state_comparison-requires-clause-left : goal.state_comparison-requires-clause-left
state_comparison-requires-clause-left c =
    let scene = c.args.scene.now in
    left_linear scene.objects.now scene.known.now scene.this scene.vars.now c.form_at.new.maker c.form_at-2.new.maker (tree_of c.args.left.now) c.in_ok-l.l c.in_ok-l.ensures.made.form c.in_ok-r.ensures.made.adds.grows

pub returns-then-compares_numbers : goal.returns-then-compares_numbers
returns-then-compares_numbers c =
    let scene = c.args.scene.now in
    record {
      says = says_comparison scene.objects.now scene.known.now scene.this scene.vars.now c.args.maker.now c.form_at.new.maker c.form_at-2.new.maker c.state_comparison.new.maker 0 c.args.op (tree_of c.args.left.now) (tree_of c.args.right.now) c.in_ok-l.l c.in_ok-r.r c.args.want c.in_ok-l.ensures.made c.in_ok-r.ensures.made c.in_ok-state_comparison.ensures.says;
    }

pub operated-requires-clause-operands : goal.operated-requires-clause-operands
operated-requires-clause-operands c =
    let scene = c.args.scene.now in
    operands scene.objects.now scene.known.now scene.this scene.vars.now c.args.maker.now c.form_at.new.maker c.form_at-2.new.maker 0 c.args.op (tree_of c.args.left.now) (tree_of c.args.right.now) c.in_ok-l.l c.in_ok-r.r c.requires.standing c.in_ok-l.ensures.made c.in_ok-r.ensures.made

pub operated-requires-clause-left : goal.operated-requires-clause-left
operated-requires-clause-left c =
    let scene = c.args.scene.now in
    left_usable scene.objects.now scene.known.now scene.this scene.vars.now c.args.maker.now c.form_at.new.maker c.form_at-2.new.maker 0 c.args.op (tree_of c.args.left.now) (tree_of c.args.right.now) c.in_ok-l.l c.in_ok-r.r c.requires.standing c.in_ok-l.ensures.made c.in_ok-r.ensures.made

pub operated-requires-clause-right : goal.operated-requires-clause-right
operated-requires-clause-right c =
    let scene = c.args.scene.now in
    right_usable scene.objects.now scene.known.now scene.this scene.vars.now c.args.maker.now c.form_at.new.maker c.form_at-2.new.maker 0 c.args.op (tree_of c.args.left.now) (tree_of c.args.right.now) c.in_ok-l.l c.in_ok-r.r c.requires.standing c.in_ok-l.ensures.made c.in_ok-r.ensures.made

pub state_form-requires : goal.state_form-requires
state_form-requires c =
    let scene = c.args.scene.now in
    let made = made_pair scene.objects.now scene.known.now scene.this scene.vars.now c.args.maker.now c.form_at.new.maker c.form_at-2.new.maker 0 c.args.op (tree_of c.args.left.now) (tree_of c.args.right.now) c.in_ok-l.l c.in_ok-r.r c.requires.standing c.in_ok-l.ensures.made c.in_ok-r.ensures.made c.operated.new.maker c.in_ok-f.f c.in_ok-f.ensures.adds c.in_ok-f.ensures.operated in
    record { variable = made.form.form.truth }

pub returns : goal.returns
returns c =
    let scene = c.args.scene.now in
    let made = made_pair scene.objects.now scene.known.now scene.this scene.vars.now c.args.maker.now c.form_at.new.maker c.form_at-2.new.maker 0 c.args.op (tree_of c.args.left.now) (tree_of c.args.right.now) c.in_ok-l.l c.in_ok-r.r c.requires.standing c.in_ok-l.ensures.made c.in_ok-r.ensures.made c.operated.new.maker c.in_ok-f.f c.in_ok-f.ensures.adds c.in_ok-f.ensures.operated in
    record {
      says = says_form scene.objects.now scene.known.now scene.this scene.vars.now c.args.maker.now c.operated.new.maker c.state_form.new.maker (tree.Pair 0 c.args.op (tree_of c.args.left.now) (tree_of c.args.right.now)) c.in_ok-f.f c.args.want made c.in_ok-state_form.ensures.says;
    }
