-- The words are those of the bytes. Assumes nothing.
use Rattle.std.proofs.Common.{◌/◌, arith, length}
use Rattle.byte_points.proofs.Room.{decoded}
use Rattle.byte_points.proofs.coordinates.Goals as goal

pub returns : goal.returns
returns c =
    decoded (length c.args.point.now / 4) c.args.room.now c.args.point.now c.decode.new.ws (omega arith) (omega (arith, c.requires.whole))
    c.decode.ensures
