-- The loop of `octets::encode`. Assumes nothing.
use Rattle.std.proofs.Common.{◌∙◌, arith}
use Rattle.octets.proofs.Encoding.{start, turn, finish}
use Rattle.octets.proofs.encode.Goals as goal

pub loop-i-init : goal.loop-i-init
loop-i-init c = start c.args.ws.now c.args.bytes.now

pub loop-i-preserved : goal.loop-i-preserved
loop-i-preserved c =
    turn c.args.ws.now c.args.bytes.now c.loop-i.i c.requires c.loop-i.bytes c.copy_from_slice.new.self c.loop-i.invariant
    c.loop-i-test.true (omega (arith, c.type_inv.ws c.loop-i.i)) (c.copy_from_slice.ensures.after ∙ c.to_le_bytes.ensures)

pub returns : goal.returns
returns c = finish c.args.ws.now c.args.bytes.now c.loop-i.i c.requires c.loop-i.bytes c.loop-i.invariant (omega arith)
