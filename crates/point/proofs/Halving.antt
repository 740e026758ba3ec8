-- A point's coordinates in two, those of a row's high bits and those of its low ones, in either bit order. Assumes nothing.
use Rattle.std.proofs.Common.{◌≡◌, sym, ap, ap₂, ◌∙◌, ℕ, ◌+◌, ◌-◌, ◌*◌, ◌^◌, ◌≤◌, ◌<◌, List, ◌++◌, length, drop, arith}
use native.Mathlib.Nat.{zero-add, mul-le-mul_right, suc-mul}
use mathlib.Core.List.{reverse, reverse-append}
use lib.ListN.{length-append, length-reverse}
use lib.Pow.{pow-add}
use Rattle.multilinear.specs.Equality.{eq_at}
use Rattle.multilinear.proofs.EqualityLaws.{equality_laws}
use Rattle.multilinear.proofs.Split.{eq_split}
use Rattle.field.specs.Field.{Ext, field}
use Rattle.field.proofs.Laws.{field_ring}
use Rattle.table.specs.Table.{elements}
use Rattle.table.proofs.Laws.{elements_length}
use Rattle.table.proofs.Parts.{elements_append, elements_cut, elements_drop}
use Rattle.point.specs.declared.Point.{Point}
use Rattle.point.specs.declared.equality.BitOrder.TheVariants.{Msb, Lsb}
use Rattle.point.specs.Point.{eq_by}
use Rattle.point.specs.Points.{coordinates}
use Rattle.point.specs.Inner.{low_bits, Halved}

-- in a list of two parts the second has the low bits
split_at : (us vs : List Ext) (n : ℕ) → length vs ≡ n → (h l : ℕ) → l < 2 ^ n
    → eq_at field (us ++ vs) (h * 2 ^ n + l) ≡ field.mul (eq_at field us h) (eq_at field vs l)
split_at us vs n e h l b =
    let m : 2 ^ n ≡ 2 ^ length vs = ap (λ (k : ℕ). 2 ^ k) (sym e) in
    ap (λ (s : ℕ). eq_at field (us ++ vs) (h * s + l)) m ∙ eq_split field_ring us vs h l (rw (sym m) b)

-- h 2^n + l is a row, where h is one of the rows of the other m coordinates
row_below : (m n h l : ℕ) → h < 2 ^ m → l < 2 ^ n → h * 2 ^ n + l < 2 ^ (m + n)
row_below m n h l a b = rw (pow-add 2 m n) (omega (arith, mul-le-mul_right (2 ^ n) a, suc-mul h (2 ^ n)))

-- with coordinate 0 lowest the first part has the low bits
split_lsb : (vs us : List Ext) (n m : ℕ) → length vs ≡ n → length us ≡ m → (h l : ℕ) → h < 2 ^ m → l < 2 ^ n
    → eq_by Lsb (vs ++ us) (h * 2 ^ n + l) ≡ field.mul (eq_by Lsb us h) (eq_by Lsb vs l)
split_lsb vs us n m e f h l a b =
    let laws = equality_laws field_ring in
    let all : length (vs ++ us) ≡ m + n = omega (arith, length-append {A = Ext} vs us) in
    laws.lowest_first (vs ++ us) (h * 2 ^ n + l) (rw all (row_below m n h l a b))
    ∙ ap (λ zs. eq_at field zs (h * 2 ^ n + l)) (reverse-append vs us)
    ∙ split_at (reverse us) (reverse vs) n (length-reverse vs ∙ e) h l b
    ∙ ap₂ field.mul (sym (laws.lowest_first us h (rw f a))) (sym (laws.lowest_first vs l (rw e b)))

module _ (point high low : Point) (fits : low_bits ≤ point.count) where
  pub halved_msb : high.words.now ≡ point.words.now → high.count ≡ point.count - low_bits
      → low.words.now ≡ drop (4 * (point.count - low_bits)) point.words.now → low.count ≡ point.count - (point.count - low_bits)
      → Halved Msb point high low
  halved_msb a b c d =
      let n : low.count ≡ low_bits = omega arith in
      let first : coordinates high ≡ elements point.words.now 0 (point.count - low_bits) = ap₂ (λ ws k. elements ws 0 k) a b in
      let last : coordinates low ≡ elements point.words.now (point.count - low_bits) low_bits =
      ap₂ (λ ws k. elements ws 0 k) c n ∙ elements_drop (point.count - low_bits) 0 low_bits point.words.now
      ∙ ap (λ a. elements point.words.now a low_bits) (omega arith) in
      let both : coordinates point ≡ coordinates high ++ coordinates low =
      sym (rw zero-add at (elements_cut point.words.now 0 fits)) ∙ ap₂ (λ us vs. us ++ vs) (sym first) (sym last) in
      record {
        low_count = n;
        high_count = b;
        product = λ h l _ y.
            ap (λ zs. eq_at field zs (h * 2 ^ low_bits + l)) both
            ∙ split_at (coordinates high) (coordinates low) low_bits (elements_length low.words.now 0 low.count ∙ n) h l y;
      }

  pub halved_lsb : high.words.now ≡ drop (4 * low_bits) point.words.now → high.count ≡ point.count - low_bits
      → low.words.now ≡ point.words.now → low.count ≡ low_bits → Halved Lsb point high low
  halved_lsb a b c d =
      let all : low_bits + (point.count - low_bits) ≡ point.count = omega arith in
      let first : coordinates low ≡ elements point.words.now 0 low_bits = ap₂ (λ ws k. elements ws 0 k) c d in
      let last : coordinates high ≡ elements point.words.now low_bits (point.count - low_bits) =
      ap₂ (λ ws k. elements ws 0 k) a b ∙ elements_drop low_bits 0 (point.count - low_bits) point.words.now in
      let both : coordinates point ≡ coordinates low ++ coordinates high =
      ap (λ k. elements point.words.now 0 k) (sym all) ∙ elements_append point.words.now 0 low_bits (point.count - low_bits)
      ∙ ap₂ (λ vs us. vs ++ us) (sym first) (sym last) in
      record {
        low_count = d;
        high_count = b;
        product = λ h l x y.
            ap (λ zs. eq_by Lsb zs (h * 2 ^ low_bits + l)) both
            ∙ split_lsb (coordinates low) (coordinates high) low_bits high.count (elements_length low.words.now 0 low.count ∙ d)
            (elements_length high.words.now 0 high.count) h l x y;
      }
