-- `byte_fold::Section::fold_block`: the section is a fold of its own, of these words. Assumes nothing.
use Rattle.std.proofs.Common.{◌∙◌, ◌*◌, arith, refl, ap}
use Rattle.std.proofs.Math.Seq.{length-take-le}
use Rattle.byte_fold.proofs.Adding.{sums_fit}
use Rattle.byte_fold.proofs.Blocks.{fills, fills_bytes}
use Rattle.byte_fold.proofs.Section.fold_block.Goals as goal

pub by_weights-requires-clause-fills : goal.by_weights-requires-clause-fills
by_weights-requires-clause-fills c = fills_bytes c.args.self.now refl c.requires.block _ c.requires.room

pub by_weights-requires-in-2-clause-fills : goal.by_weights-requires-in-2-clause-fills
by_weights-requires-in-2-clause-fills c = fills_bytes c.args.self.now refl c.requires.block _ c.requires.room

pub slice_bounds-sums-end : goal.slice_bounds-sums-end
slice_bounds-sums-end c = sums_fit c.args.self.now c.places.ensures

pub fold-requires : goal.fold-requires
fold-requires c =
    let room = sums_fit c.args.self.now c.places.ensures in
    fills c.args.self.now refl c.requires.block
    (length-take-le (4 * c.places.result) c.args.held.now (omega (arith, room)) ∙ ap (λ m. 4 * m) c.places.ensures)
