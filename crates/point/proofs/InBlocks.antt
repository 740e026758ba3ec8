-- The table of many rows in `blocks::fill`: what its two parts are, and that their blocks are all of it. Assumes nothing.
use Rattle.std.proofs.Common.{◌≡◌, sym, ap, ap₂, ◌∙◌, ℕ, ◌+◌, ◌*◌, ◌/◌, ◌%◌, ◌^◌, ◌≤◌, ◌<◌, List, ◌++◌, length, drop, arith}
use native.Mathlib.Nat.{mod-lt}
use lib.ListN.{length-append, length-drop}
use lib.Pow.{pow_mono, pow_pos, pow-add, shr_lt, split}
use Rattle.algebra.proofs.Ring.{one_mul}
use Rattle.field.specs.Field.{Ext, field, to_words, from_words, Holds}
use Rattle.field.specs.declared.Element.{Element}
use Rattle.field.proofs.Laws.{field_ring, read_as, read_back, reduced}
use Rattle.table.specs.Table.{get_at, element_at, entries, table_words}
use Rattle.table.proofs.Laws.{table_length, table_get, table_at, table_whole}
use Rattle.table.proofs.Tests.{unreduced_table}
use Rattle.point.specs.declared.Point.{Point}
use Rattle.point.specs.declared.equality.BitOrder.{BitOrder}
use Rattle.point.specs.Point.{eq_by}
use Rattle.point.specs.Points.{coordinates}
use Rattle.point.specs.Inner.{low_bits, Halved, Spans, Spanned}

-- scale eq of a point's coordinates
abbrev pub scaled : BitOrder → Element → Point → ℕ → Ext
scaled order scale point y = field.mul (from_words scale) (eq_by order (coordinates point) y)

module _ {order : BitOrder} {point high low : Point} (scale : Element) (halved : Halved order point high low) (more : low_bits < point.count)
    (out : List ℕ) (room : length out ≡ 4 * 2 ^ point.count) where
  both : 2 ^ high.count * 2 ^ low_bits ≡ 2 ^ point.count
  both =
      let all : high.count + low_bits ≡ point.count = omega (arith, halved.high_count) in
      sym (pow-add 2 high.count low_bits) ∙ ap (λ (k : ℕ). 2 ^ k) all

  module _ {rows : ℕ} (n : rows ≡ 2 ^ high.count) where
    pub rows_fit : 4 * rows ≤ length out
    rows_fit =
        let m : 2 ^ high.count ≤ 2 ^ point.count = pow_mono (omega (arith, halved.high_count)) in
        omega (arith, room, n, m)

    -- of the tables that the calls make
    module _ {one : Element} (o : Holds one field.one) {block front : List ℕ} (b : block ≡ table_words (2 ^ low.count) (scaled order scale low))
        (f : front ≡ table_words (2 ^ high.count) (scaled order one high)) where
      abbrev pub now : List ℕ
      now = front ++ drop (4 * rows) out

      block_rows : entries block ≡ 2 ^ low_bits
      block_rows =
          let m : 2 ^ low.count ≡ 2 ^ low_bits = ap (λ (k : ℕ). 2 ^ k) halved.low_count in
          omega (arith, ap length b, table_length (2 ^ low.count) (scaled order scale low), m)

      front_rows : length front ≡ 4 * rows
      front_rows = omega (arith, ap length f, table_length (2 ^ high.count) (scaled order one high), n)

      size : length now ≡ length out
      size = omega (arith, length-append front (drop (4 * rows) out), length-drop (4 * rows) out, front_rows, rows_fit)

      element : (h : ℕ) → h < rows → get_at now h ≡ to_words (scaled order one high h)
      element h l =
          ap (λ ws. get_at (ws ++ drop (4 * rows) out) h) f
          ∙ table_get (2 ^ high.count) (scaled order one high) (drop (4 * rows) out) h (rw n at l)

      pub spans : Spans rows block now
      spans =
          record {
            some = rw block_rows (pow_pos low_bits);
            block_below = rw b (unreduced_table _ _);
            room = size ∙ room ∙ rw (n, block_rows) (ap (λ (x : ℕ). 4 * x) (sym both));
            below = λ h l. rw (element h l) (reduced _);
          }

      -- the product of the two parts, the scale in front
      joined : (a s e : Ext) → field.mul (field.mul (from_words one) a) (field.mul s e) ≡ field.mul s (field.mul a e)
      joined a s e =
          ap (λ x. field.mul x (field.mul s e)) (ap (λ x. field.mul x a) (read_as _ o) ∙ one_mul field_ring a)
          ∙ sym (field_ring.mul_assoc a s e) ∙ ap (λ x. field.mul x e) (field_ring.mul_comm a s) ∙ field_ring.mul_assoc s a e

      -- row l of block h
      row : {w : List ℕ} → Spanned 0 rows block now w → (h l : ℕ) → h < rows → l < 2 ^ low_bits
          → get_at w (h * 2 ^ low_bits + l) ≡ to_words (scaled order scale point (h * 2 ^ low_bits + l))
      row {w} d h l x y =
          let m : 2 ^ low.count ≡ 2 ^ low_bits = ap (λ (k : ℕ). 2 ^ k) halved.low_count in
          let at_h : element_at now h ≡ scaled order one high h = ap from_words (element h x) ∙ read_back _ in
          let at_l : element_at block l ≡ scaled order scale low l =
          ap (λ ws. element_at ws l) b ∙ table_at (2 ^ low.count) (scaled order scale low) l (rw m y) in
          ap (λ k. get_at w (h * k + l)) (sym block_rows) ∙ d.is h l (omega arith) x (rw block_rows y)
          ∙ ap to_words
          (ap₂ field.mul at_h at_l ∙ joined _ _ _ ∙ ap (field.mul (from_words scale)) (sym (halved.product h l (rw n at x) y)))

      pub filled : {w : List ℕ} → Spanned 0 rows block now w → w ≡ table_words (2 ^ point.count) (scaled order scale point)
      filled {w} d =
          table_whole (2 ^ point.count) (scaled order scale point) w (d.len ∙ size ∙ room)
          (λ y l.
          let all : high.count + low_bits ≡ point.count = omega (arith, halved.high_count) in
          let h : y / 2 ^ low_bits < rows = rw n (shr_lt high.count low_bits (rw all l)) in
          rw (split y low_bits) at (row d (y / 2 ^ low_bits) (y % 2 ^ low_bits) h (mod-lt y (pow_pos low_bits))))
