-- Tables of base words. Assumes nothing.
use mathlib.Core.Path.{◌≡◌}
use mathlib.Core.Bool.{false}
use Prim.Native.Nat.{ℕ, ◌^◌, ◌<◌}
use native.Mathlib.Omega.{arith}
use mathlib.Core.List.{List}
use lib.ListN.{length, get_or}
use lib.Pow.{pow_pos}
use Rattle.algebra.specs.Words.{unreduced}
use Rattle.algebra.proofs.Words.{below}
use Rattle.field.specs.Field.{p, p_pos}
use Rattle.weigh.specs.Entries.{WholeTable}
use Rattle.weigh.specs.Weigh.{NearlyWhole}

-- a word for each row
pub words_whole : (k : ℕ) (ws : List ℕ) → length ws ≡ 2 ^ k → unreduced p ws ≡ false → WholeTable 1 k ws
words_whole k ws e b = record { count = omega (arith, e); below = b }

module _ {n : ℕ} {table : List ℕ} (w : WholeTable 1 n table) where
  pub some : 0 < length table
  some = omega (arith, w.count, pow_pos n)

  pub word_below : (i : ℕ) → get_or table i 0 < p
  word_below = below p table w.below p_pos

  -- none is missing
  pub nearly : NearlyWhole n table
  nearly = record { fits = omega (arith, w.count); there = omega (arith, w.count); below = w.below }
