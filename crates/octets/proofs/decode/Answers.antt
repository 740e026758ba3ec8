-- What `octets::decode` has read. Assumes nothing.
use Rattle.std.proofs.Common.{arith, length}
use Rattle.octets.proofs.Decoding.{decoded}
use Rattle.octets.proofs.decode.Goals as goal

pub returns : goal.returns
returns c =
    decoded c.args.bytes.now c.loop-i.ws c.args.from (length c.args.ws.now) c.loop-i.auto.ws
    (λ k h. c.loop-i.invariant k (omega arith)) (omega arith)
