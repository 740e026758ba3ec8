-- How the loop begins, steps and ends. Assumes nothing.
use mathlib.Core.Path.{◌≡◌, ◌∙◌}
use native.Mathlib.Omega.{arith}
use lib.ListN.{length}
use Rattle.std.proofs.Common.{rules}
use Rattle.field.proofs.Laws.{read_as}
use Rattle.point.proofs.Filling.{put_scale, start_at, ready, turn, finish}
use Rattle.point.proofs.equality.by_doubling.Goals as goal

pub loop-i-init : goal.loop-i-init
loop-i-init c =
    let z : length c.args.scale.c ≡ 4 = search rules in
    start_at _ _ _ _ _ (c.put.auto.ws ∙ c.requires.1) (put_scale _ _ _ c.requires.1 z c.put.ensures) c.requires.0

pub double-requires : goal.double-requires
double-requires c = ready _ _ _ _ _ _ _ c.loop-i.invariant c.loop-i-test.true c.read-c.ensures.below

pub loop-i-preserved : goal.loop-i-preserved
loop-i-preserved c =
    turn _ _ _ _ _ _ _ c.loop-i.invariant c.loop-i-test.true _
    (rw (read_as _ c.read-c.ensures, c.entering.ensures) at c.double.ensures)

pub returns : goal.returns
returns c =
    let q : c.loop-i.i ≡ c.args.point.count = omega arith in
    finish _ _ _ _ _ _ _ c.loop-i.invariant q
