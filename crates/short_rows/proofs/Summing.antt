-- The sums of the rows taken together, and what places gain of them. Assumes nothing.
use mathlib.Core.Path.{◌≡◌, sym, ap, ap₂, ◌∙◌}
use Prim.Native.Nat.{ℕ, ◌+◌, ◌-◌, ◌*◌, ◌^◌, ◌≤◌, ◌<◌}
use native.Mathlib.Nat.{mul_assoc}
use native.Mathlib.Omega.{arith}
use mathlib.Core.List.{List, ◌++◌}
use lib.ListN.{length, drop, replicate, length-replicate}
use lib.Pow.{pow-add}
use Rattle.algebra.proofs.Words.{unreduced_zeros}
use Rattle.multilinear.specs.declared.Side.TheVariants.{Prefix}
use Rattle.multilinear.specs.declared.Weight.TheVariants.{Plain}
use Rattle.multilinear.specs.Folds.{fold_at}
use Rattle.multilinear.proofs.Weighed.{prefix_ext}
use Rattle.multilinear.proofs.Together.{fold_of_sums}
use Rattle.field.specs.Field.{p, p_pos, Ext, field, base, from_words}
use Rattle.field.specs.declared.Element.{Element}
use Rattle.field.proofs.Laws.{field_ring}
use Rattle.table.specs.Table.{element_at, elements, entries, placed}
use Rattle.table.specs.Gained.{Gained}
use Rattle.table.proofs.Laws.{elements_length, table_at}
use Rattle.table.proofs.Gaining.{gained_as, zeros_table}
use Rattle.table.proofs.Parts.{elements_drop, elements_cut}
use Rattle.point.specs.declared.Point.{Point}
use Rattle.point.specs.Points.{coordinates}
use Rattle.scatter.specs.Scatter.{Scatters, Scattered}
use Rattle.short_rows.specs.ShortRows.{most_sums, PutOff, Rows}

-- the coordinates before the last ones, and the last ones
module _ (rest first last : Point) {late : ℕ} (few : late ≤ rest.count) (w0 : first.words.now ≡ rest.words.now)
    (c0 : first.count ≡ rest.count - late) (w1 : last.words.now ≡ drop (4 * (rest.count - late)) rest.words.now)
    (c1 : last.count ≡ rest.count - (rest.count - late)) where
  abbrev early : ℕ
  early = rest.count - late

  last_count : last.count ≡ late
  last_count = omega (arith, c1)

  last_length : length (coordinates last) ≡ last.count
  last_length = elements_length last.words.now 0 last.count

  both : coordinates first ++ coordinates last ≡ coordinates rest
  both =
      let q : early + 0 ≡ 0 + early = omega arith in
      ap₂ ◌++◌ (ap₂ (λ ws n. elements ws 0 n) w0 c0)
      (ap₂ (λ ws n. elements ws 0 n) w1 last_count ∙ elements_drop early 0 late rest.words.now ∙ ap (λ a. elements rest.words.now a late) q)
      ∙ elements_cut rest.words.now 0 few

module _ {at late : ℕ} {rest : Point} {weight : Element} {words out : List ℕ} (s : Scatters at rest weight words out)
    (o : PutOff (entries out) rest.count late) (some : 0 < late) {rows : ℕ} (r : rows ≡ 2 ^ late) where
  abbrev inner : ℕ
  inner = entries out

  pub room : {most : ℕ} → 4 * (2 ^ late * inner) ≤ most → 4 * (rows * inner) ≤ most
  room h = let q : rows * inner ≡ 2 ^ late * inner = ap (λ n. n * inner) r in omega (arith, q)

  -- as many words as before
  all : 2 ^ (rest.count - late) * (rows * inner) ≡ 2 ^ rest.count * inner
  all =
      let few : late ≤ rest.count = o.few in
      let q : rest.count - late + late ≡ rest.count = omega arith in
      ap (λ n. 2 ^ (rest.count - late) * (n * inner)) r ∙ sym (mul_assoc (2 ^ (rest.count - late)) (2 ^ late) inner)
      ∙ ap (λ n. n * inner) (sym (pow-add 2 (rest.count - late) late) ∙ ap (λ n. 2 ^ n) q)

  module _ (first : Point) (c0 : first.count ≡ rest.count - late) {sums : List ℕ} (z : sums ≡ replicate (4 * (rows * inner)) 0) where
    size : length sums ≡ 4 * (rows * inner)
    size = ap length z ∙ length-replicate {A = ℕ} (4 * (rows * inner)) 0

    sized : entries sums ≡ rows * inner
    sized = omega (arith, size)

    spread : 2 ^ first.count * entries sums ≡ 2 ^ rest.count * inner
    spread = ap₂ (λ m n. 2 ^ m * n) c0 sized ∙ all

    pub sums_scatter : Scatters at first weight words sums
    sums_scatter =
        record {
          weight_is = s.weight_is;
          small = rw spread s.small;
          within = rw spread s.within;
          below = s.below;
          room = omega (arith, size, sized);
          out_below = rw z (unreduced_zeros p p_pos (4 * (rows * inner)));
        }

    module _ {w : List ℕ} (d : Scattered at first weight words sums w) (last : Point)
        (c1 : last.count ≡ rest.count - (rest.count - late)) where
      few_rows : 2 ^ last.count ≡ 2 ^ late
      few_rows = let few : late ≤ rest.count = o.few in let q : last.count ≡ late = omega (arith, c1) in ap (λ n. 2 ^ n) q

      pub rows_there : Rows last w out
      rows_there =
          record {
            there = d.len ∙ size ∙ ap (λ n. 4 * (n * inner)) (r ∙ sym few_rows);
            fits = omega (arith, d.len, size, room {most = 4 * most_sums} (omega (arith, o.fits some)));
            below = d.below (rw z (unreduced_zeros p p_pos (4 * (rows * inner))));
            room = s.room;
            out_below = s.out_below;
          }

      module _ (w0 : first.words.now ≡ rest.words.now) (w1 : last.words.now ≡ drop (4 * (rest.count - late)) rest.words.now) where
        abbrev us : List Ext
        us = coordinates first

        abbrev vs : List Ext
        vs = coordinates last

        abbrev f : ℕ → Ext
        f t = base (placed at words t)

        taken : 2 ^ length vs * inner ≡ entries sums
        taken =
            ap (λ n. 2 ^ n * inner) (last_length rest first last o.few w0 c0 w1 c1) ∙ ap (λ n. n * inner) (few_rows ∙ sym r) ∙ sym sized

        -- the sum at a place of the rows taken together
        abbrev sum_of : ℕ → Ext
        sum_of t = fold_at field Prefix Plain (2 ^ length vs * inner) us (from_words weight) f t

        sum_at : (t : ℕ) → t < entries sums → element_at w t ≡ sum_of t
        sum_at t b =
            let l : 4 * (rows * inner) ≡ 4 * entries sums = ap (λ n. 4 * n) (sym sized) in
            ap (λ ws. element_at ws t) (zeros_table (entries sums) (4 * (rows * inner)) l z _ w d) ∙ table_at (entries sums) _ t b
            ∙ ap (λ n. fold_at field Prefix Plain n us (from_words weight) f t) (sym taken)

        pub scattered : {out' : List ℕ} → Gained 0 inner (fold_at field Prefix Plain inner vs field.one (element_at w)) out out'
            → Scattered at rest weight words out out'
        scattered g =
            gained_as _ g (λ i h.
            prefix_ext field_ring inner vs field.one (element_at w) sum_of (λ t b. sum_at t (rw (sym taken) b)) i h
            ∙ sym (fold_of_sums field_ring inner us vs (from_words weight) f i)
            ∙ ap (λ zs. fold_at field Prefix Plain inner zs (from_words weight) f i) (both rest first last o.few w0 c0 w1 c1))
