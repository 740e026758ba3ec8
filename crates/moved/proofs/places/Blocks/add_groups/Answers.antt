-- Places of few words by their rows' weights. Assumes nothing.
use Rattle.std.proofs.Common.{refl, ◌∙◌, arith}
use Rattle.moved.proofs.PlaceSums.{weights_held}
use Rattle.moved.proofs.PlaceByPlace.{groups, block_room, places_gained}
use Rattle.moved.proofs.places.Blocks.add_groups.Goals as goal

pub weights_of-weights-requires : goal.weights_of-weights-requires
weights_of-weights-requires g c =
    let b = block_room c.args.self.now refl (omega (arith, c.requires.rows, c.requires.few)) in (
      omega (arith, c.requires.few),
      (omega (arith, c.requires.few), (omega (arith, b, c.requires.rows), c.args.self.now.split.summed.room.below)),
    )

pub gain_groups-requires : goal.gain_groups-requires
gain_groups-requires g c = (
  omega (arith, c.requires.few),
  (
    groups c.args.self.now.piece c.rows.ensures c.requires.whole.1 refl c.requires.whole.0 (c.rows.ensures ∙ c.requires.rows),
    weights_held c.weights_of-weights.ensures (omega (arith, c.requires.few)),
  ),
)

pub returns : goal.returns
returns g c =
    places_gained c.args.self.now c.rows.ensures c.skip_of-skip.ensures c.requires.whole.1 refl (c.rows.ensures ∙ c.requires.rows)
    (omega (arith, c.requires.few)) c.weights_of-weights.ensures c.gain_groups.ensures
