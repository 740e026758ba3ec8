-- A block of a section's words, where they stand in the table: they are there, and what is read is the block. Assumes nothing.
use mathlib.Core.Path.{◌≡◌, sym, ap, ◌∙◌}
use Prim.Native.Nat.{ℕ, ◌+◌, ◌-◌, ◌*◌, ◌/◌, ◌%◌, ◌^◌, ◌≤◌}
use native.Mathlib.Nat.{add-mul, add_assoc, mul_comm, mul-le-mul_right, le_of_mul-le-mul_right, mul-add-div_right, mul-add-mod_self_right, div-add-mod'}
use native.Mathlib.Omega.{arith}
use mathlib.Core.List.{List}
use lib.ListN.{length, get_or, take, drop}
use lib.Pow.{pow_pos}
use Rattle.octets.specs.Octets.{words}
use Rattle.octets.proofs.Octets.{words_length}
use Rattle.multilinear.specs.declared.Side.TheVariants.{Prefix, Suffix}
use Rattle.plan.specs.Plan.{rows, places, capacity}
use Rattle.plan.specs.Section.{origin_of}
use Rattle.plan.proofs.OneColumn.{one_words}
use Rattle.byte_fold.specs.declared.Section.{Section}
use Rattle.byte_fold.specs.Inner.{Portion, Strided, block_at, first_words, row_word}
use Rattle.byte_fold.proofs.Words.{first_ext, first_part}

module _ (s : Section) {at count : ℕ} (b : Portion s.plan at count) where
  abbrev R : ℕ
  R = rows s.plan

  abbrev H : ℕ
  H = places s.plan

  there : length (words s.table.now) ≡ R * s.inner
  there = omega (arith, words_length s.table.now, s.cut.count)

  all : capacity s.plan ≡ R * H
  all = one_words s.plan s.cut.one_column s.cut.sound.fits

  module _ {rs : ℕ} (r : rs ≡ 2 ^ s.plan.k) where
    pub suffix_there : 4 * (s.from * rs + at + count) ≤ length s.table.now
    suffix_there =
        let le : (s.from + H) * R ≤ s.inner * R = mul-le-mul_right {m = s.from + H} {n = s.inner} R s.cut.within in
        rw r (omega (arith, s.cut.count, b.within, all, add-mul s.from H R, mul_comm H R, mul_comm s.inner R))

    pub suffix_read : s.plan.side ≡ Suffix → {w : List ℕ} → w ≡ take count (drop (s.from * rs + at) (words s.table.now))
        → w ≡ block_at s at count
    unfolding origin_of
    suffix_read e q =
        q
        ∙ first_part (s.from * rs + at) count _ (words s.table.now) (omega (arith, suffix_there, words_length s.table.now))
        (λ i h. rw (e, r) (ap (λ m. get_or (words s.table.now) m 0) (add_assoc (s.from * R) at i)))

  module _ {ps : ℕ} (e : s.plan.side ≡ Prefix) (r : ps ≡ 2 ^ (s.plan.n - s.plan.k)) where
    -- one section
    module _ (whole : ps ≡ s.inner) where
      pub whole_there : 4 * (at + count) ≤ length s.table.now
      whole_there = omega (arith, s.cut.count, b.within, all, ap (λ m. R * m) (sym r ∙ whole))

      pub whole_read : {w : List ℕ} → w ≡ take count (drop at (words s.table.now)) → w ≡ block_at s at count
      unfolding origin_of
      whole_read q =
          let z : s.from ≡ 0 = omega (arith, s.cut.within) in
          q
          ∙ first_part at count _ (words s.table.now) (omega (arith, whole_there, words_length s.table.now))
          (λ i h. rw (e, ← whole, r) (ap (λ m. get_or (words s.table.now) m 0) (omega (arith, div-add-mod' (at + i) H, z))))

    -- rows of the places of one section among others
    at_row : at / H * H ≡ at
    at_row = omega (arith, div-add-mod' at H, (b.whole e).0)

    -- the block's rows are among the table's
    row_within : at / H + count / H ≤ R
    row_within =
        le_of_mul-le-mul_right {m = at / H + count / H} {n = R} {k = H}
        (omega (arith, add-mul (at / H) (count / H) H, at_row, div-add-mod' count H, (b.whole e).1, b.within, all))
        (pow_pos (s.plan.n - s.plan.k))

    row_there : (m : ℕ) → m ≤ R → 4 * (m * s.inner) ≤ length s.table.now
    row_there m h = omega (arith, s.cut.count, mul-le-mul_right {m = m} {n = R} s.inner h)

    pub start_fits : at / ps * s.inner + s.from ≤ length s.table.now
    start_fits =
        rw r (omega (arith, row_there (at / H) (omega (arith, row_within)), row_there 1 (pow_pos s.plan.k), s.cut.within))

    pub strided : Strided (record { places = ps; inner = s.inner; start = at / ps * s.inner + s.from }) s.table.now count
    strided =
        record {
          some = rw r (pow_pos (s.plan.n - s.plan.k));
          whole = rw r (b.whole e).1;
          there = λ m h. rw r
              (omega (
                arith,
                row_there (at / H + m + 1) (omega (arith, row_within, (rw r at h))),
                add-mul (at / H + m) 1 s.inner,
                add-mul (at / H) m s.inner,
                s.cut.within,
              ));
        }

    pub rows_read : {w : List ℕ}
        → w ≡ first_words count (row_word (record { places = ps; inner = s.inner; start = at / ps * s.inner + s.from }) (words s.table.now))
        → w ≡ block_at s at count
    unfolding origin_of
    rows_read q = q ∙ first_ext count _ _ (λ i h. rw (e, r) (ap (λ m. get_or (words s.table.now) m 0) (origin i)))
      where
        origin : (i : ℕ) → at / H * s.inner + s.from + i / H * s.inner + i % H ≡ (at + i) / H * s.inner + s.from + (at + i) % H
        origin i =
            let m : (at + i) / H ≡ at / H + i / H =
            ap (λ m. (m + i) / H) (sym at_row) ∙ mul-add-div_right (pow_pos (s.plan.n - s.plan.k)) (at / H) i in
            let l : (at + i) % H ≡ i % H = ap (λ m. (m + i) % H) (sym at_row) ∙ mul-add-mod_self_right (at / H) H i in
            rw (m, l) (omega (arith, add-mul (at / H) (i / H) s.inner))
