-- Side and weight are those of their bytes. Assumes nothing.
use Rattle.std.proofs.Common.{◌≡◌, arith}
use Rattle.std.proofs.lemmas.Grind.{common_steps}
use Rattle.multilinear.specs.Bytes.{side_byte, weight_byte}
use Rattle.frame.specs.Frame.{byte_at}
use Rattle.frame.proofs.FirstByte.{opened}
use Rattle.frame.proofs.read_open.Goals as goal

pub returns : goal.returns
returns c =
    let side : side_byte c.in_ok-ok.field-0 ≡ byte_at c.args.bytes.now 1 = grind (arith, common_steps) in
    let weight : weight_byte c.in_ok-ok-2.field-0 ≡ byte_at c.args.bytes.now 2 = grind (arith, common_steps) in
    rw (c.from.ensures, c.from-2.ensures) (opened c.args.bytes.now c.requires c.if-bytes-ne21.false side weight c.element.ensures)
