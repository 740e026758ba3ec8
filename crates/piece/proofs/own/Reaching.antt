-- The places whose word of the own row is in the piece, and what they gain. Assumes nothing.
use mathlib.Core.Path.{◌≡◌, sym, ap, ◌∙◌}
use mathlib.Core.Logic.{◌≢◌}
use Prim.Native.Nat.{ℕ, suc, ◌+◌, ◌-◌, ◌*◌, ◌^◌, ◌≤◌, ◌<◌}
use native.Mathlib.Decide.{dec_lt}
use native.Mathlib.Nat.{add-mul, mul-le-mul_right}
use native.Mathlib.Omega.{arith}
use mathlib.Core.List.{List}
use lib.ListN.{length}
use Rattle.std.specs.Int.{div_ceil}
use Rattle.std.proofs.lemmas.Grind.{div_ceil_times}
use Rattle.multilinear.specs.Equality.{eq_at}
use Rattle.field.specs.Field.{Ext, field, base, from_words, Holds}
use Rattle.field.specs.declared.Element.{Element}
use Rattle.field.proofs.Laws.{read_as}
use Rattle.table.specs.Refusals.{largest}
use Rattle.table.specs.Gained.{Gained}
use Rattle.table.proofs.Gaining.{none, widened_to}
use Rattle.table.proofs.Laws.{elements_length}
use Rattle.table.proofs.Parts.{after, after_length, after_word, after_below}
use Rattle.table.proofs.Placed.{absent, placed_before, placed_word, placed_after}
use Rattle.point.specs.Points.{coordinates}
use Rattle.kernel.specs.Kernel.{Row, row_at}
use Rattle.moved.specs.declared.Piece.{Piece}
use Rattle.moved.specs.Moved.{Adds, table_word}
use Rattle.piece.specs.declared.own.Stand.{Stand}
use Rattle.piece.specs.Inner.{Stands, reached, row_by}

-- the numbers below d / s, rounded up, are those whose multiple of s is below d
module _ (d s i : ℕ) (some : 0 < s) where
  inside : i < div_ceil d s → i * s < d
  inside h =
      let m : suc i * s ≤ div_ceil d s * s = mul-le-mul_right s h in
      omega (arith, (div_ceil_times d s some).1)

  outside : div_ceil d s ≤ i → d ≤ i * s
  outside h =
      let m : div_ceil d s * s ≤ i * s = mul-le-mul_right s h in
      omega (arith, (div_ceil_times d s some).0)

module _ (stand : Stand) (inner t : ℕ) (some : 0 < stand.stride) where
  pub reached_fits : reached stand inner t ≤ inner
  unfolding reached
  reached_fits = omega arith

  pub reached_in : {i : ℕ} → i < reached stand inner t → stand.start + i * stand.stride < t
  unfolding reached
  reached_in {i} h = let m = inside (t - stand.start) stand.stride i some (omega arith) in omega (arith, m)

  pub reached_out : {i : ℕ} → reached stand inner t ≤ i → i < inner → t ≤ stand.start + i * stand.stride
  unfolding reached
  reached_out {i} h l = let m = outside (t - stand.start) stand.stride i some (omega arith) in omega (arith, m)

-- a word of the row by its weight
abbrev term : Stand → Ext → Piece → ℕ → Ext
term stand weight piece i = field.mul weight (base (table_word piece (stand.start + i * stand.stride)))

module _ (stand : Stand) (piece : Piece) {out : List ℕ} (a : Adds piece out) (s : Stands stand piece.inner) {first end : ℕ}
    (qf : first ≡ reached stand piece.inner piece.taken) (qe : end ≡ reached stand piece.inner (piece.taken + length piece.words.now)) where
  abbrev inner : ℕ
  inner = piece.inner

  abbrev taken : ℕ
  taken = piece.taken

  abbrev words : List ℕ
  words = piece.words.now

  -- word i of the row from that of place `first` on
  abbrev at : ℕ → ℕ
  at i = stand.start + (first + i) * stand.stride

  fits : (first ≤ inner) × (end ≤ inner)
  fits =
      (rw qf (reached_fits stand inner taken s.some), rw qe (reached_fits stand inner (taken + length words) s.some))

  before_first : {i : ℕ} → i < first → stand.start + i * stand.stride < taken
  before_first h = reached_in stand inner taken s.some (rw qf at h)

  from_first : {i : ℕ} → first ≤ i → i < inner → taken ≤ stand.start + i * stand.stride
  from_first h l = reached_out stand inner taken s.some (rw qf at h) l

  before_end : {i : ℕ} → i < end → stand.start + i * stand.stride < taken + length words
  before_end h = reached_in stand inner (taken + length words) s.some (rw qe at h)

  from_end : {i : ℕ} → end ≤ i → i < inner → taken + length words ≤ stand.start + i * stand.stride
  from_end h l = reached_out stand inner (taken + length words) s.some (rw qe at h) l

  -- the places that have a word of it gained
  widened : (weight : Ext) {w : List ℕ} {n : ℕ} (g : ℕ → Ext) → first + n ≡ end → Gained first n g out w
      → ((i : ℕ) → i < n → g i ≡ term stand weight piece (first + i)) → Gained 0 inner (term stand weight piece) out w
  widened weight g q d e =
      widened_to _ d a.out_below (omega (arith, q, fits.1)) e
      (λ y b. absent _ (placed_before taken words _ (before_first b)))
      (λ y b l. absent _ (placed_after taken words _ (from_end (rw q at b) l)))

  -- a piece that has no word of the row
  pub untouched : first ≡ end → Gained 0 inner (row_by stand piece) out out
  unfolding row_by
  untouched e =
      let q : first + 0 ≡ end = omega (arith, e) in
      widened _ (λ i. field.zero) q (none first _ out) (λ i h. absurd (omega arith))

  module _ (e : first ≢ end) where
    in_order : first < end
    in_order = go (dec_lt first end)
      where
        go : Dec (first < end) → first < end
        go (yes h) = h
        go (no h) =
            let here : end < first = omega (arith, e) in
            let b = before_first here in
            let c = from_end {i = end} (omega arith) (omega (arith, here, fits.0)) in
            absurd (omega (arith, b, c))

    pub first_there : taken ≤ stand.start + first * stand.stride
    first_there = from_first (omega arith) (omega (arith, in_order, fits.1))

    pub first_fits : stand.start + first * stand.stride ≤ largest
    first_fits = let b = before_end in_order in omega (arith, b, piece.fits.within, piece.fits.small)

    -- the row's words as the kernel takes them
    module _ {start : ℕ} (q : start ≡ stand.start + first * stand.stride - taken) where
      further : (i : ℕ) → taken + (start + i * stand.stride) ≡ at i
      further i = omega (arith, q, first_there, add-mul first i stand.stride)

      within : {i : ℕ} → i < end - first → start + i * stand.stride < length words
      within {i} h =
          let b = before_end {i = first + i} (omega (arith, h)) in
          omega (arith, b, further i)

      pub start_within : start ≤ length words
      start_within = let b = within {i = 0} (omega (arith, in_order)) in omega (arith, b)

      pub row_there : Row stand.stride first end out (after start words)
      row_there =
          record {
            order = omega (arith, in_order);
            room = omega (arith, a.room, fits.1);
            there = λ i h. let b = within h in omega (arith, b, after_length start words);
            words_below = after_below start words piece.below;
          }

      pub row_gained : {rows : ℕ} {eq weight : Element} {w : List ℕ} → rows ≡ 2 ^ piece.point.count
          → Holds eq (eq_at field (coordinates piece.point) (rows - 1))
          → Holds weight (field.mul (from_words piece.scale) (from_words eq))
          → Gained first (end - first) (row_at weight stand.stride (after start words)) out w → Gained 0 inner (row_by stand piece) out w
      unfolding row_by
      row_gained {weight} r he hw d =
          let all : first + (end - first) ≡ end = omega (arith, in_order) in
          let n = r ∙ ap (λ m. 2 ^ m) (sym (elements_length piece.point.words.now 0 piece.point.count)) in
          rw (read_as _ hw, read_as _ he, n) at
          (widened (from_words weight) _ all d (λ i h.
          ap (λ n. field.mul (from_words weight) (base n))
          (after_word start words (i * stand.stride) ∙ sym (placed_word taken words (start + i * stand.stride))
          ∙ ap (table_word piece) (further i))))
