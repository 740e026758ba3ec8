-- Rows of sums by their coordinates: the second half comes to the first, until one row is left. Assumes nothing.
use mathlib.Core.Path.{◌≡◌, refl, sym, ap, ap₂, ◌∙◌}
use mathlib.Core.Bool.{false}
use Prim.Native.Nat.{ℕ, suc, ◌+◌, ◌-◌, ◌*◌, ◌^◌, ◌≤◌, ◌<◌}
use native.Mathlib.Nat.{mul-le-mul_right, add-mul, two-pow-succ, zero-add}
use native.Mathlib.Numerals.{add-one}
use native.Mathlib.Omega.{arith}
use mathlib.Core.List.{List, ◌∷◌}
use lib.ListN.{length}
use lib.Pow.{pow_mono, pow_pos}
use Rattle.algebra.specs.Ring.{minus}
use Rattle.algebra.specs.Words.{unreduced}
use Rattle.algebra.proofs.Ring.{one_mul}
use Rattle.multilinear.specs.declared.Side.TheVariants.{Prefix}
use Rattle.multilinear.specs.declared.Weight.TheVariants.{Plain}
use Rattle.multilinear.specs.Folds.{fold_at}
use Rattle.multilinear.proofs.Weighed.{fold_one, prefix_ext}
use Rattle.multilinear.proofs.Together.{fold_joined}
use Rattle.field.specs.Field.{p, Ext, field, from_words, Holds}
use Rattle.field.specs.declared.Element.{Element}
use Rattle.field.proofs.Laws.{field_ring, read_as, read_back}
use Rattle.table.specs.Table.{element_at, elements, entries, put_at}
use Rattle.table.specs.Gained.{Gained}
use Rattle.table.proofs.Gaining.{gained_as, turn}
use Rattle.table.proofs.Laws.{elements_length}
use Rattle.point.specs.declared.Point.{Point}
use Rattle.point.specs.Points.{coordinates}
use Rattle.short_rows.specs.ShortRows.{most_sums, Rows, Halves, Front, joined}

-- an element of the first half more
pub element_joined : (r : Ext) {half i : ℕ} {ws w w' : List ℕ} {low high less e : Element}
    → Gained 0 i (joined (element_at ws) half r) ws w → i < half → 8 * half ≤ length ws
    → Holds low (element_at w i) → Holds high (element_at w (half + i))
    → Holds less (minus field (from_words high) (from_words low))
    → Holds e (field.add (from_words low) (field.mul (from_words less) r)) → w' ≡ put_at w i e
    → Gained 0 (i + 1) (joined (element_at ws) half r) ws w'
element_joined r {half} {i} {ws} {w} d h l hl hh hd he q =
    let fits : 4 * (0 + i) + 3 < length ws = omega arith in
    turn 0 i (joined (element_at ws) half r) ws w d fits i (omega arith) _ _ (read_as _ hl)
    (ap (λ x. field.mul x r)
    (read_as _ hd
    ∙ ap₂ (minus field) (read_as _ hh ∙ ap from_words (d.after (half + i) (omega arith)))
    (read_as _ hl ∙ ap from_words (d.after i (omega arith)))))
    he q

-- one row of the coordinates from j on is left for each place of it, as the rows of all were
pub record Joined (last : Point) (inner : ℕ) (was : List ℕ) (j : ℕ) (sums : List ℕ) : Type 0 where
  pub len : length sums ≡ length was
  pub below : unreduced p sums ≡ false
  pub same : (i : ℕ) → i < inner
      → fold_at field Prefix Plain inner (elements last.words.now j (last.count - j)) field.one (element_at sums) i
      ≡ fold_at field Prefix Plain inner (coordinates last) field.one (element_at was) i

module _ {last : Point} {was out : List ℕ} (r : Rows last was out) where
  abbrev inner : ℕ
  inner = entries out

  abbrev fold : List Ext → (ℕ → Ext) → ℕ → Ext
  fold zs f i = fold_at field Prefix Plain inner zs field.one f i

  pub start : Joined last inner was 0 was
  start =
      let q : last.count - 0 ≡ last.count = omega arith in
      record {
        len = refl;
        below = r.below;
        same = λ i h. ap (λ n. fold (elements last.words.now 0 n) (element_at was) i) q;
      }

  -- with the code's count of rows of a half
  module _ {j : ℕ} {sums : List ℕ} (d : Joined last inner was j sums) (more : j < last.count) {rows : ℕ}
      (e : rows ≡ 2 ^ (last.count - 1 - j)) where
    two_halves : rows * inner + rows * inner ≤ 2 ^ last.count * inner
    two_halves =
        let m : 2 ^ suc (last.count - 1 - j) ≤ 2 ^ last.count = pow_mono {i = suc (last.count - 1 - j)} {j = last.count} (omega arith) in
        let q : 2 ^ suc (last.count - 1 - j) * inner ≡ rows * inner + rows * inner =
        ap (λ n. n * inner) (two-pow-succ (last.count - 1 - j)) ∙ add-mul (2 ^ (last.count - 1 - j)) (2 ^ (last.count - 1 - j)) inner
        ∙ ap (λ n. n * inner + n * inner) (sym e) in
        omega (arith, q, mul-le-mul_right inner m)

    pub half_fits : rows * inner ≤ most_sums
    half_fits = omega (arith, two_halves, r.there, r.fits)

    pub halves : {z : Element} {x : Ext} → Holds z x → Halves (rows * inner) z sums
    halves h = record { coordinate = h.below; there = omega (arith, two_halves, r.there, d.len); below = d.below }

    abbrev zs : List Ext
    zs = elements last.words.now (j + 1) (last.count - (j + 1))

    first_and_others : elements last.words.now j (last.count - j) ≡ element_at last.words.now j ∷ zs
    unfolding elements
    first_and_others =
        let q : last.count - j ≡ suc (last.count - (j + 1)) = omega arith in
        ap (elements last.words.now j) q
        ∙ ap (λ a. element_at last.words.now j ∷ elements last.words.now a (last.count - (j + 1))) (sym (add-one j))

    half_is : rows * inner ≡ 2 ^ length zs * inner
    half_is =
        let q : last.count - 1 - j ≡ last.count - (j + 1) = omega arith in
        ap (λ n. n * inner) (e ∙ ap (λ n. 2 ^ n) (q ∙ sym (elements_length last.words.now (j + 1) (last.count - (j + 1)))))

    module _ {z : Element} (hz : Holds z (element_at last.words.now j)) {sums' : List ℕ}
        (g : Gained 0 (rows * inner) (joined (element_at sums) (rows * inner) (from_words z)) sums sums') where
      element_is : (t : ℕ) → t < 2 ^ length zs * inner → element_at sums' t
          ≡ field.add (element_at sums t)
          (field.mul (minus field (element_at sums (2 ^ length zs * inner + t)) (element_at sums t)) (element_at last.words.now j))
      element_is t b =
          let here = rw zero-add at (g.gained t (rw half_is b)) in
          ap from_words here ∙ read_back _
          ∙ ap₂ (λ n x. field.add (element_at sums t) (field.mul (minus field (element_at sums (n + t)) (element_at sums t)) x)) half_is
          (read_as _ hz)

      pub next : Joined last inner was (j + 1) sums'
      next =
          record {
            len = g.len ∙ d.len;
            below = g.below d.below;
            same = λ i h.
                prefix_ext field_ring inner zs field.one (element_at sums') _ element_is i h
                ∙ fold_joined field_ring inner (element_at last.words.now j) zs field.one (element_at sums) i
                ∙ ap (λ us. fold us (element_at sums) i) (sym first_and_others) ∙ d.same i h;
          }

  module _ {j : ℕ} {sums : List ℕ} (d : Joined last inner was j sums) where
    pub front : Front sums out
    front =
        let m : 1 * inner ≤ 2 ^ last.count * inner = mul-le-mul_right inner (pow_pos last.count) in
        record { there = omega (arith, m, r.there, r.room, d.len); below = d.below; out_below = r.out_below }

    pub finish : last.count ≤ j → {out' : List ℕ} → Gained 0 inner (element_at sums) out out'
        → Gained 0 inner (fold (coordinates last) (element_at was)) out out'
    unfolding elements
    finish h g =
        let q : last.count - j ≡ 0 = omega arith in
        gained_as _ g (λ i b.
        sym (one_mul field_ring (element_at sums i)) ∙ sym (fold_one field_ring inner field.one (element_at sums) i)
        ∙ ap (λ n. fold (elements last.words.now j n) (element_at sums) i) (sym q) ∙ d.same i b)
