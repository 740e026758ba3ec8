-- The loop of `fill` at step i of k: how it starts, steps and ends, in either bit order. Assumes nothing.
use mathlib.Core.Path.{◌≡◌, refl, sym, ap, ap₂, ◌∙◌}
use Prim.Native.Nat.{ℕ, zero, suc, ◌+◌, ◌-◌, ◌*◌, ◌^◌, ◌≤◌, ◌<◌}
use native.Mathlib.Nat.{pow-suc}
use native.Mathlib.Numerals.{add-one}
use native.Mathlib.Decide.{dec_lt}
use native.Mathlib.Omega.{arith}
use mathlib.Core.List.{List, [], ◌∷◌, ◌++◌, append-nil, reverse, reverse-append}
use lib.ListN.{length, drop, drop_of_length-le}
use lib.Pow.{pow_mono, pow_pos}
use Rattle.algebra.specs.Ring.{minus}
use Rattle.field.specs.Field.{Ext, field, to_words, from_words, Reduced}
use Rattle.field.specs.declared.Element.{Element}
use Rattle.field.proofs.Laws.{field_ring, read_back, holds, words_again}
use Rattle.multilinear.specs.Equality.{eq_at}
use Rattle.multilinear.proofs.Equality.{doubled_low, doubled_high}
use Rattle.multilinear.proofs.EqualityLaws.{equality_laws}
use Rattle.table.specs.Table.{get_at, put_at, element_at, elements, table_words}
use Rattle.table.proofs.Laws.{get_put_same, table_of, elements_length}
use Rattle.point.specs.declared.equality.BitOrder.{BitOrder}
use Rattle.point.specs.declared.equality.BitOrder.TheVariants.{Msb, Lsb}
use Rattle.point.specs.Point.{eq_by}
use Rattle.point.specs.Inner.{entering, Doubled, Doubles}

-- the coordinates that entered in m steps of k, the latest first
unfoldable pub entered : BitOrder → List ℕ → ℕ → ℕ → List Ext
entered order ps k zero = []
entered order ps k (suc m) = element_at ps (entering order k m) ∷ entered order ps k m

entered_length : (order : BitOrder) (ps : List ℕ) (k m : ℕ) → length (entered order ps k m) ≡ m
unfolding entered
entered_length order ps k zero = refl
entered_length order ps k (suc m) = ap suc (entered_length order ps k m)

-- with the lowest bit last in the point, the coordinates in the point's order
entered_msb : (ps : List ℕ) (k m : ℕ) → m ≤ k → entered Msb ps k m ≡ elements ps (k - m) m
unfolding entered elements
entered_msb ps k zero h = refl
entered_msb ps k (suc m) h =
    let q : k - 1 - m ≡ k - suc m = omega arith in
    let r : suc (k - suc m) ≡ k - m = omega arith in
    ap₂ (λ a zs. element_at ps a ∷ zs) q (entered_msb ps k m (omega arith)) ∙ ap (λ a. element_at ps (k - suc m) ∷ elements ps a m) (sym r)

-- one element more, at the end
elements_last : (ws : List ℕ) (a m b : ℕ) → b ≡ a + m → elements ws a (suc m) ≡ elements ws a m ++ element_at ws b ∷ []
unfolding elements
elements_last ws a zero b e = ap (λ x. element_at ws x ∷ []) (omega arith)
elements_last ws a (suc m) b e = ap (λ zs. element_at ws a ∷ zs) (elements_last ws (suc a) m b (omega arith))

-- with the lowest bit first, in the reversed order
entered_lsb : (ps : List ℕ) (k m : ℕ) → entered Lsb ps k m ≡ reverse (elements ps 0 m)
unfolding entered elements
entered_lsb ps k zero = refl
entered_lsb ps k (suc m) =
    ap (λ zs. element_at ps m ∷ zs) (entered_lsb ps k m)
    ∙ sym (ap reverse (elements_last ps 0 m m (omega arith)) ∙ reverse-append (elements ps 0 m) (element_at ps m ∷ []))

-- all of them give the equality of the bit order
by_order : (order : BitOrder) (ps : List ℕ) (k y : ℕ) → y < 2 ^ k → eq_at field (entered order ps k k) y ≡ eq_by order (elements ps 0 k) y
by_order Msb ps k y h =
    let q : k - k ≡ 0 = omega arith in
    ap (λ zs. eq_at field zs y) (entered_msb ps k k (omega arith) ∙ ap (λ a. elements ps a k) q)
by_order Lsb ps k y h =
    ap (λ zs. eq_at field zs y) (entered_lsb ps k k)
    ∙ sym ((equality_laws field_ring).lowest_first (elements ps 0 k) y (rw (elements_length ps 0 k) h))

pub record Filling (s : Ext) (order : BitOrder) (ps : List ℕ) (k i len : ℕ) (out : List ℕ) : Type 0 where
  pub within : i ≤ k
  pub count : len ≡ 2 ^ i
  pub size : length out ≡ 4 * 2 ^ k
  pub at : (y : ℕ) → y < len → get_at out y ≡ to_words (field.mul s (eq_at field (entered order ps k i) y))

-- a slice of 2 ^ k elements has element 0
pub first : (k n : ℕ) → n ≡ 4 * 2 ^ k → 4 * 0 + 3 < n
first k n l = omega (arith, pow_pos k)

-- where the scale was put
pub put_scale : (k : ℕ) (out : List ℕ) (scale : Element) {w : List ℕ} → length out ≡ 4 * 2 ^ k → length scale.c ≡ 4
    → w ≡ put_at out 0 scale → get_at w 0 ≡ scale
put_scale k out scale l z e = ap (λ x. get_at x 0) e ∙ get_put_same out 0 scale (first k (length out) l) z

pub start : (order : BitOrder) (ps : List ℕ) (k : ℕ) (w : List ℕ) → length w ≡ 4 * 2 ^ k → Reduced (get_at w 0)
    → Filling (element_at w 0) order ps k 0 1 w
unfolding entered eq_at get_at
start order ps k w l r =
    record {
      within = omega arith;
      count = refl;
      size = l;
      at = λ y h.
          let y0 : y ≡ 0 = omega arith in
          ap (get_at w) y0 ∙ words_again (get_at w 0) refl r ∙ ap to_words (sym (field_ring.mul_one (element_at w 0)));
    }

-- the same of the scale that stands there
pub start_at : (order : BitOrder) (ps : List ℕ) (k : ℕ) (scale : Element) (w : List ℕ) → length w ≡ 4 * 2 ^ k → get_at w 0 ≡ scale
    → Reduced scale → Filling (from_words scale) order ps k 0 1 w
start_at order ps k scale w l e r = rw e at (start order ps k w l (rw e r))

module _ (s : Ext) (order : BitOrder) (ps : List ℕ) (k i len : ℕ) (out : List ℕ) (f : Filling s order ps k i len out) (m : i < k) where
  -- the table doubled once more fits
  pub room : 8 * len ≤ length out
  room =
      let h : 2 ^ suc i ≤ 2 ^ k = pow_mono m in
      omega (arith, f.count, f.size, pow-suc 2 i)

  pub ready : {c : Element} → Reduced c → Doubles len c out
  ready r = record { room = room; below = λ y h. (holds _ (f.at y h)).below; by = r }

  module _ (w : List ℕ) (d : Doubled len len (element_at ps (entering order k i)) out w) where
    abbrev z : Ext
    z = element_at ps (entering order k i)

    abbrev zs : List Ext
    zs = entered order ps k i

    rows : 2 ^ length zs ≡ len
    rows = ap (λ (x : ℕ). 2 ^ x) (entered_length order ps k i) ∙ sym f.count

    was : (y : ℕ) → y < len → element_at out y ≡ field.mul s (eq_at field zs y)
    was y h = ap from_words (f.at y h) ∙ read_back _

    below : (y : ℕ) → y < len → get_at w y ≡ to_words (field.mul s (eq_at field (z ∷ zs) y))
    below y h =
        d.low y h
        ∙ ap to_words (ap (λ v. minus field v (field.mul v z)) (was y h) ∙ doubled_low field_ring s z zs y (rw rows h))

    above : (y : ℕ) → y < len → get_at w (len + y) ≡ to_words (field.mul s (eq_at field (z ∷ zs) (len + y)))
    above y h =
        d.high y h
        ∙ ap to_words
        (ap (λ v. field.mul v z) (was y h) ∙ doubled_high field_ring s z zs y (rw rows h)
        ∙ ap (λ n. field.mul s (eq_at field (z ∷ zs) (n + y))) rows)

    both : (y : ℕ) → y < len * 2 → get_at w y ≡ to_words (field.mul s (eq_at field (z ∷ zs) y))
    both y h = go (dec_lt y len)
      where
        go : Dec (y < len) → get_at w y ≡ to_words (field.mul s (eq_at field (z ∷ zs) y))
        go (yes l) = below y l
        go (no l) =
            let q : len + (y - len) ≡ y = omega arith in
            rw q at (above (y - len) (omega arith))

    pub turn : Filling s order ps k (i + 1) (len * 2) w
    unfolding entered
    turn =
        rw (add-one i)
        (record { within = m; count = omega (arith, f.count, pow-suc 2 i); size = d.len ∙ f.size; at = both })

pub finish : (s : Ext) (order : BitOrder) (ps : List ℕ) (k i len : ℕ) (out : List ℕ) → Filling s order ps k i len out → i ≡ k
    → out ≡ table_words (2 ^ k) (λ y. field.mul s (eq_by order (elements ps 0 k) y))
finish s order ps k i len out f q =
    let n : len ≡ 2 ^ k = f.count ∙ ap (λ (x : ℕ). 2 ^ x) q in
    let d : drop (4 * 2 ^ k) out ≡ [] = drop_of_length-le out {i = 4 * 2 ^ k} (omega (arith, f.size)) in
    table_of (2 ^ k) (λ y. field.mul s (eq_by order (elements ps 0 k) y)) out (omega (arith, f.size))
    (λ y h.
    f.at y (omega arith)
    ∙ ap (λ e. to_words (field.mul s e)) (ap (λ x. eq_at field (entered order ps k x) y) q ∙ by_order order ps k y h))
    ∙ (rw d (append-nil _))
