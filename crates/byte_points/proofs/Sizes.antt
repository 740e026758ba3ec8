-- The words of bytes, by the tests of sizes: how many, and that they split no element. Assumes nothing.
use mathlib.Core.Path.{◌≡◌, ap}
use mathlib.Core.Bool.{false, not}
use Prim.Native.Nat.{ℕ, ◌*◌, ◌%◌}
use native.Mathlib.Omega.{arith}
use mathlib.Core.List.{List}
use lib.ListN.{length}
use borrow.Author.Tests.{ltb-false, eq-eqb}
use Rattle.octets.specs.Octets.{words}
use Rattle.octets.proofs.Octets.{words_length}
use Rattle.table.specs.Table.{entries}
use Rattle.table.specs.Refusals.{most, splits, too_many}
use Rattle.table.proofs.Tests.{same}
use Rattle.byte_points.specs.BytePoints.{splits_element, elements_differ}
use Rattle.byte_points.specs.Few.{Few}

module _ (bs : List ℕ) (h : splits_element bs ≡ false) where
  pub whole : length bs % 16 ≡ 0
  whole = same (length bs % 16) 0 h

  pub whole_words : splits (words bs) ≡ false
  whole_words =
      let w : length (words bs) % 4 ≡ 0 = omega (arith, words_length bs, whole) in
      ap not (eq-eqb (length (words bs) % 4) 0 w)

  pub few : too_many (words bs) ≡ false → Few bs
  few m = record { whole = whole; few = omega (arith, ltb-false most (entries (words bs)) m, words_length bs, whole) }

  pub sized : (n : ℕ) → elements_differ bs n ≡ false → length bs ≡ 16 * n
  sized n d = omega (arith, same (entries (words bs)) n d, words_length bs, whole)
