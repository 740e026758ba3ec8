-- Four bytes in a row. Assumes nothing.
use Rattle.std.proofs.Common.{ℕ, List, ap, get_or}
use Rattle.frame.proofs.Printing.{bytes_in_turn}
use Rattle.frame.proofs.put_word.Goals as goal

pub returns : goal.returns
returns c =
    let byte = λ (i : ℕ). ap (λ (bs : List ℕ). get_or bs i 0) c.to_be_bytes.ensures in
    bytes_in_turn c.args.at c.args.w c.ranges.w.fits (byte 0) (byte 1) (byte 2) (byte 3) _ _ _ _ _
    c.put_byte.ensures c.put_byte-2.ensures c.put_byte-3.ensures c.put_byte-4.ensures
