-- More bytes are held, and the rest is as it was. Assumes nothing.
use Rattle.program.proofs.Cutting.{held_few}
use Rattle.program.proofs.Program.hold.Goals as goal

pub invariant_of-self : goal.invariant_of-self
invariant_of-self c =
    record { few = held_few _ c.hold.ensures; room = c.self.invariant.room }
