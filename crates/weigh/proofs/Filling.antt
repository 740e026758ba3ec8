-- A block's room, and its table. Assumes nothing.
use mathlib.Core.Path.{◌≡◌, ap, ◌∙◌}
use Prim.Native.Nat.{ℕ, ◌*◌, ◌^◌, ◌≤◌}
use native.Mathlib.Omega.{arith}
use mathlib.Core.List.{List, ◌++◌}
use lib.ListN.{length, take, drop, replicate, length-append, length-replicate}
use lib.Pow.{pow_mono}
use lib.Seq.{length-take-le}
use Rattle.algebra.proofs.Words.{unreduced_append, unreduced_drop, unreduced_zeros}
use Rattle.multilinear.specs.Equality.{eq_at}
use Rattle.field.specs.Field.{p, p_pos, Ext, field, from_words}
use Rattle.field.specs.declared.Element.{Element}
use Rattle.field.proofs.Laws.{read_back}
use Rattle.table.specs.Table.{elements, table_words}
use Rattle.table.proofs.Laws.{table_get, table_length}
use Rattle.table.proofs.Tests.{unreduced_table}
use Rattle.weigh.specs.Weigh.{BlockRoom, Block, InArray, block_variables}

-- a block of no more variables than n has room where one of n has
pub served : {n words : ℕ} → n ≤ block_variables → 4 * 2 ^ n ≡ words → {low : ℕ} → low ≤ n → InArray low words
served {n} s e l =
    record {
      small = omega (arith, s, l);
      room = omega (arith, e, pow_mono l);
      fours = omega (arith, e);
      few = omega (arith, e, pow_mono s);
    }

-- cleared words for a block
pub cleared : (n : ℕ) {low : ℕ} → 4 * 2 ^ low ≤ n → BlockRoom low (replicate n 0)
cleared n l = record { enough = rw (length-replicate {A = ℕ} n 0) l; below = unreduced_zeros p p_pos n }

module _ (point : List ℕ) (high low rows : ℕ) (scale : Element) (room : List ℕ) (is : BlockRoom low room) (e : rows ≡ 2 ^ low) where
  pub fitting : 4 * rows ≤ length room
  fitting = omega (arith, e, is.enough)

  pub taken : length (take (4 * rows) room) ≡ 4 * 2 ^ low
  taken = length-take-le (4 * rows) room fitting ∙ ap (λ n. 4 * n) e

  abbrev block_at : ℕ → Ext
  block_at y = field.mul (from_words scale) (eq_at field (elements point high low) y)

  pub made : {x : List ℕ} → x ≡ table_words (2 ^ low) block_at → Block high low point (from_words scale) (x ++ drop (4 * rows) room)
  made {x} q =
      record {
        room = rw q (record {
          enough = omega (
            arith,
            length-append (table_words (2 ^ low) block_at) (drop (4 * rows) room),
            table_length (2 ^ low) block_at,
          );
          below = unreduced_append p (table_words (2 ^ low) block_at) (drop (4 * rows) room) (unreduced_table (2 ^ low) block_at)
              (unreduced_drop p p_pos (4 * rows) room is.below);
        });
        holds = λ y b. rw q (ap from_words (table_get (2 ^ low) block_at (drop (4 * rows) room) y b) ∙ read_back _);
      }
