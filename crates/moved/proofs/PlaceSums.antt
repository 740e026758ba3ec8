-- What one place gains: its words of the piece against a block's table, or against the weights of its rows. Assumes nothing.
use mathlib.Core.Path.{◌≡◌, refl, sym, ap, ◌∙◌}
use mathlib.Core.Bool.{Bool, true, false, cond}
use Prim.Native.Nat.{ℕ, zero, suc, min, ◌+◌, ◌-◌, ◌*◌, ◌^◌, ◌≤◌, ◌<◌}
use native.Mathlib.Decide.{dec_lt}
use native.Mathlib.Omega.{arith}
use mathlib.Core.List.{List}
use lib.Dec.{ltb}
use lib.ListN.{length, take, drop}
use borrow.Author.Tests.{le-ltb}
use Rattle.algebra.specs.Sum.{sum_to}
use Rattle.algebra.proofs.Ring.{mul_zero}
use Rattle.algebra.proofs.Sums.{sum_ext}
use Rattle.multilinear.specs.declared.Side.{Side}
use Rattle.multilinear.specs.declared.Side.TheVariants.{Suffix}
use Rattle.multilinear.specs.Equality.{eq_at}
use Rattle.multilinear.specs.declared.Weight.{Weight}
use Rattle.multilinear.specs.declared.Weight.TheVariants.{Plain, Shifted}
use Rattle.multilinear.specs.Folds.{word_of, weight_at, fold_at}
use Rattle.multilinear.specs.Inner.{moved_at}
use Rattle.multilinear.specs.Values.{value_at}
use Rattle.multilinear.proofs.Folds.{moved_value, moved_plain, moved_shifted}
use Rattle.field.specs.Field.{Ext, field, base, Reduced}
use Rattle.field.specs.declared.Element.{Element}
use Rattle.field.proofs.Laws.{field_ring, base_zero, read_as}
use Rattle.table.specs.Table.{element_at, elements, placed}
use Rattle.table.proofs.Laws.{elements_length}
use Rattle.table.proofs.Parts.{after_is, part_length}
use Rattle.table.proofs.Placed.{placed_after, placed_take, placed_further}
use Rattle.std.proofs.lemmas.List.Elements.{All-from_get_or}
use Rattle.kernel.specs.Kernel.{Weights, weighed}
use Rattle.weigh.specs.Weigh.{Block, block_sum}
use Rattle.weigh.proofs.Weighing.{weighed as weighed_blocks}
use Rattle.moved.specs.declared.Piece.{Piece}
use Rattle.moved.specs.Moved.{table_word}
use Rattle.moved.specs.Weighed.{weight_of, Weighed}

base_cond : (b : Bool) (x : ℕ) → base (cond b x 0) ≡ cond b (base x) field.zero
base_cond true x = refl
base_cond false x = base_zero

not_lt : {m n : ℕ} → (m < n → ⊥) → n ≤ m
not_lt h = omega arith

module _ {a b : ℕ} (h : a ≤ b) where
  lent : {l : ℕ} → b ≤ l → a + (b - a) ≤ l
  lent k = omega arith

  less : (from n : ℕ) → from + b ≤ n + a → from + (b - a) ≤ n
  less from n k = omega arith

  more : (from n : ℕ) → from + (b - a) ≤ n → from + b ≤ n + a
  more from n k = omega arith

-- the words of a piece from a to before b, those from word `start` to before word `stop` of the table, at the rows from `from` on
module _ (piece : Piece) {start stop a b from : ℕ} (order : start ≤ stop) (begun : piece.taken ≤ stop)
    (a_is : a ≡ min (length piece.words.now) (start - piece.taken)) (b_is : b ≡ min (length piece.words.now) (stop - piece.taken))
    (from_is : from ≡ piece.taken - start) where
  abbrev part : List ℕ
  part = take (b - a) (drop a piece.words.now)

  in_order : (a ≤ b) × (b ≤ length piece.words.now)
  in_order = (omega (arith, order, a_is, b_is), omega (arith, b_is))

  ends : from + b + start ≤ stop + a
  ends = omega (arith, order, begun, a_is, b_is, from_is)

  -- a word that is not there
  past : (y : ℕ) → start + y < stop → from + b ≤ y + a → piece.taken + length piece.words.now ≤ start + y
  past y h k = omega (arith, a_is, b_is, from_is)

  as_least : a ≡ length piece.words.now - (length piece.words.now - (start - piece.taken))
  as_least = omega (arith, a_is)

  as_place : from ≡ piece.taken + a - start
  as_place = omega (arith, a_is, from_is)

  count : length part ≡ b - a
  count = part_length a (b - a) piece.words.now (lent in_order.0 in_order.1)

  pub cut_fits : from + length part ≤ stop - start
  cut_fits = let e = ends in rw count (less in_order.0 from (stop - start) (omega (arith, e, order)))

  pub cut_each : (y : ℕ) → start + y < stop → placed from part y ≡ table_word piece (start + y)
  cut_each y h = go (dec_lt y (from + (b - a)))
    where
      go : Dec (y < from + (b - a)) → placed from part y ≡ table_word piece (start + y)
      go (yes k) =
          placed_take from (b - a) (drop a piece.words.now) y k
          ∙ ap (λ ws. placed from ws y) (sym (after_is a piece.words.now))
          ∙ placed_further start piece.taken piece.words.now a from as_least as_place y
      go (no k) =
          let far = more in_order.0 from y (not_lt k) in
          placed_after from part y (rw count (less in_order.0 from y far))
          ∙ sym (placed_after piece.taken piece.words.now (start + y) (past y h far))

module _ (k : ℕ) (point : List ℕ) (scale : Ext) (inner skip : ℕ) (word : ℕ → ℕ) (i : ℕ) where
  abbrev zs : List Ext
  zs = elements point 0 k

  rows_are : 2 ^ length zs ≡ 2 ^ k
  rows_are = ap (λ n. 2 ^ n) (elements_length point 0 k)

  abbrev moved : Ext
  moved = moved_at field Suffix skip inner zs scale (λ t. base (word t)) i

  -- the place's words against a block's table
  pub block_sum_lem : {low : ℕ} {block : List ℕ} → low ≤ k → Block (k - low) low point scale block → (row : ℕ → ℕ)
      → ((y : ℕ) → row y ≡ cond (ltb (y + skip) (2 ^ k)) (word (i * 2 ^ k + (y + skip))) 0)
      → value_at field (elements point 0 (k - low)) (block_sum low block (λ y. base (row y))) ≡ moved
  block_sum_lem {low} {block} h b row e =
      weighed_blocks h b (λ y. base (row y))
      ∙ moved_value field_ring Suffix skip inner zs scale (λ t. base (word t)) i (λ y. base (row y))
      (λ y c. ap base (e y) ∙ base_cond (ltb (y + skip) (2 ^ k)) (word (i * 2 ^ k + (y + skip)))
      ∙ ap (λ n. cond (ltb (y + skip) n) (base (word (i * n + (y + skip)))) field.zero) (sym rows_are))

  -- and on either side against the weights of the rows, where the block has them all
  module _ (side : Side) (block : List ℕ) (one : skip ≤ 1)
      (holds : (y : ℕ) → y < 2 ^ k → element_at block y ≡ field.mul scale (eq_at field zs y)) where
    abbrev row_word : ℕ → ℕ → Ext
    row_word n y = base (word (word_of side inner n i y))

    rows_sum : (weight : Weight) (s : ℕ) → ((y : ℕ) → y < 2 ^ k → weight_of block s y ≡ field.mul scale (weight_at field weight zs y))
        → sum_to field (2 ^ k) (λ y. field.mul (weight_of block s y) (row_word (2 ^ k) y))
        ≡ fold_at field side weight inner zs scale (λ t. base (word t)) i
    unfolding fold_at
    rows_sum weight s e =
        sum_ext field_ring (2 ^ k) _ _ (λ y h. ap (λ w. field.mul w (row_word (2 ^ k) y)) (e y h))
        ∙ ap (λ n. sum_to field n (λ y. field.mul (field.mul scale (weight_at field weight zs y)) (row_word n y))) (sym rows_are)

    own_weight : (y : ℕ) → y < 2 ^ k → weight_of block 0 y ≡ field.mul scale (weight_at field Plain zs y)
    unfolding weight_of
    own_weight y h = let q : y - 0 ≡ y = omega arith in rw (le-ltb y 0 (omega arith), q) (holds y h)

    weight_before : (y : ℕ) → y < 2 ^ k → weight_of block 1 y ≡ field.mul scale (weight_at field Shifted zs y)
    unfolding weight_of
    weight_before zero h = sym (mul_zero field_ring scale)
    weight_before (suc y) h = let q : suc y - 1 ≡ y = omega arith in rw (le-ltb (suc y) 1 (omega arith), q) (holds y (omega arith))

    pub row_sum : sum_to field (2 ^ k) (λ y. field.mul (weight_of block skip y) (row_word (2 ^ k) y))
        ≡ moved_at field side skip inner zs scale (λ t. base (word t)) i
    row_sum = go skip one
      where
        go : (s : ℕ) → s ≤ 1
            → sum_to field (2 ^ k) (λ y. field.mul (weight_of block s y) (row_word (2 ^ k) y))
            ≡ moved_at field side s inner zs scale (λ t. base (word t)) i
        go zero l = rows_sum Plain 0 own_weight ∙ sym (moved_plain field_ring side inner zs scale (λ t. base (word t)) i)
        go (suc zero) l = rows_sum Shifted 1 weight_before ∙ sym (moved_shifted field_ring side inner zs scale (λ t. base (word t)) i)
        go (suc (suc s)) l = absurd (omega arith)

-- the words of n rows by their weights
module _ {n : ℕ} {block : List ℕ} {skip : ℕ} {weights : List Element} (h : Weighed n block skip weights) where
  pub weighed_lem : (x : ℕ → ℕ) → weighed n weights x ≡ sum_to field n (λ y. field.mul (weight_of block skip y) (base (x y)))
  unfolding weighed
  weighed_lem x = sum_ext field_ring n _ _ (λ y b. ap (λ w. field.mul w (base (x y))) (read_as _ (h.each y b)))

  pub weights_held : n ≤ 4 → Weights n weights
  weights_held few = record { few = few; below = All-from_get_or Reduced weights _ (λ y b. (h.each y (omega (arith, h.len))).below) }
