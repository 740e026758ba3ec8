-- The tables that a value is taken of: of base words and of elements. No operation that users call cites it. Assumes nothing.
use Rattle.std.specs.Prelude.{◌≡◌, false, ℕ, ◌+◌, ◌*◌, ◌^◌, ◌≤◌, ◌<◌, List, length, get_or, take}
use Rattle.std.proofs.Common.{ap, arith}
use lib.Seq.{get_or-take}
use Rattle.algebra.specs.Words.{unreduced}
use Rattle.multilinear.specs.Values.{value_at}
use Rattle.field.specs.Field.{p, Ext, field, base, from_words}
use Rattle.table.specs.Table.{element_at}
use Rattle.table.proofs.Parts.{after, after_word, rest_get, get_take}
use Rattle.point.specs.declared.Point.{Point}
use Rattle.point.specs.Points.{coordinates}

-- an entry for each row of k coordinates, of so many words each
-- A clause: at each halving one point, which is lent, goes on with two parts of the table, and a struct of both would be made for each.
pub record WholeTable (width k : ℕ) (ws : List ℕ) : Type 0 where
  pub count : length ws ≡ width * 2 ^ k
  pub below : unreduced p ws ≡ false

-- the words of entry y are there, and all are below p
pub record Entry (width y : ℕ) (ws : List ℕ) : Type 0 where
  pub there : width * y + width ≤ length ws
  pub below : unreduced p ws ≡ false

-- entry y of a table of base words
abbrev pub word_at : List ℕ → ℕ → Ext
word_at ws y = base (get_or ws y 0)

-- the value of a table at a point
abbrev pub table_value : (List ℕ → ℕ → Ext) → Point → List ℕ → Ext
table_value entry point ws = value_at field (coordinates point) (entry ws)

-- the first entries of a table are those of its first words, and the others those of the words after them
pub record Parted (width : ℕ) (entry : List ℕ → ℕ → Ext) : Type 0 where
  pub few : width ≤ 4
  pub low : (half : ℕ) (ws : List ℕ) (y : ℕ) → y < half → entry (take (width * half) ws) y ≡ entry ws y
  pub high : (half : ℕ) (ws : List ℕ) (y : ℕ) → entry (after (width * half) ws) y ≡ entry ws (half + y)

pub words_parted : Parted 1 word_at
words_parted =
    record {
      few = omega arith;
      low = λ half ws y b. let q : 1 * half ≡ half = omega arith in rw q (ap base (get_or-take half ws y 0 b));
      high = λ half ws y. let q : 1 * half ≡ half = omega arith in rw q (ap base (after_word half ws y));
    }

pub elements_parted : Parted 4 element_at
elements_parted =
    record {
      few = omega arith;
      low = λ half ws y b. ap from_words (get_take half y ws b);
      high = λ half ws y. ap from_words (rest_get half ws y);
    }
