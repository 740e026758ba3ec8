-- Section after section, each in its part of the bytes: how that starts, steps and ends. Assumes nothing.
use mathlib.Core.Path.{◌≡◌, sym, ap, ap₂, ◌∙◌}
use Prim.Native.Nat.{ℕ, ◌+◌, ◌-◌, ◌*◌, ◌^◌, ◌≤◌, ◌<◌, min}
use native.Mathlib.Nat.{mul-zero, mul-add, mul-one, mul-le-mul_left}
use native.Mathlib.Omega.{arith}
use mathlib.Core.Bool.{false}
use mathlib.Core.List.{List}
use lib.ListN.{length, get_or}
use lib.Pow.{pow-add}
use borrow.Rule.Slice.PartMut.{mid_of, put_mid}
use Rattle.octets.specs.Octets.{words, octets}
use Rattle.octets.proofs.Octets.{octets_length, octets_append}
use Rattle.algebra.specs.Words.{unreduced}
use Rattle.field.specs.Field.{p, Ext, base}
use Rattle.table.specs.Table.{table_words}
use Rattle.table.proofs.Laws.{table_length, table_append}
use Rattle.plan.specs.declared.Plan.{Plan}
use Rattle.plan.specs.Plan.{rows, places, width, capacity, out_of, fold_of}
use Rattle.plan.specs.Sound.{Sound}
use Rattle.plan.specs.Section.{section_of, origin_of}
use Rattle.plan.proofs.OneColumn.{one_width, one_words}
use Rattle.plan.proofs.Sections.{part_sound, section}
use Rattle.byte_fold.specs.declared.Section.{Section}
use Rattle.byte_fold.specs.Takes.{most_held, FillsBytes, Cut}
use Rattle.byte_fold.specs.Inner.{first_words, sums_to}
use Rattle.byte_fold.proofs.Words.{first_at}
use Rattle.piece.proofs.Fronts.{Front, front_start, front_lent, front_turn, front_end}

-- a section has 2^held places
places_of : (plan : Plan) (held : ℕ) → places (section_of plan held) ≡ 2 ^ held
places_of plan held = let q : plan.k + held - plan.k ≡ held = omega arith in ap (λ m. 2 ^ m) q

-- 2^held places of a table's are a section of it
pub cut : {plan : Plan} {held from : ℕ} {table : List ℕ} → Sound plan → plan.columns ≡ 1 → held ≤ plan.n - plan.k → held ≤ most_held
    → from + 2 ^ held ≤ places plan → length table ≡ 4 * capacity plan → unreduced p (words table) ≡ false
    → Cut (section_of plan held) (places plan) from table
cut {plan} {held} sound one fits few within count below =
    record {
      sound = part_sound sound fits;
      one_column = one;
      few = omega arith;
      within = omega (arith, places_of plan held);
      count = count ∙ ap (λ m. 4 * m) (one_words plan one sound.fits);
      below = below;
    }

-- place i of the whole fold
abbrev whole_at : Plan → List ℕ → ℕ → Ext
whole_at plan ws i = out_of plan (λ t. base (get_or ws t 0)) i

-- the sums of a section over all its words, by what it has
abbrev sums_by : Plan → ℕ → ℕ → List ℕ → List ℕ
sums_by plan inner from ws =
    fold_of plan (first_words (capacity plan) (λ t. get_or ws (origin_of plan.side inner (rows plan) (places plan) from t) 0))

bytes_of : (m : ℕ) (f : ℕ → Ext) → length (octets (table_words m f)) ≡ 16 * m
bytes_of m f = omega (arith, octets_length (table_words m f), table_length m f)

-- the bytes of the first m places stand in out
pub record Joined (plan : Plan) (ws : List ℕ) (m : ℕ) (was out : List ℕ) : Type 0 where
  pub front : Front (16 * m) (octets (table_words m (whole_at plan ws))) was out

module _ {plan : Plan} {table was : List ℕ} (s : FillsBytes plan table was) {held size count : ℕ}
    (h : held ≡ min (plan.n - plan.k) 10) (r : size ≡ 2 ^ held) (c : count ≡ 2 ^ (plan.n - plan.k - held)) where
  -- rows of one column, of the table and of a section
  one : width plan ≡ places plan
  one = one_width plan s.one_column

  one_part : width (section_of plan held) ≡ places (section_of plan held)
  one_part = one_width (section_of plan held) s.one_column

  pub start : Joined plan (words table) (size * 0) was was
  unfolding octets table_words
  start = record { front = rw (mul-zero size) (front_start was) }

  all_places : size * count ≡ places plan
  all_places =
      let q : held + (plan.n - plan.k - held) ≡ plan.n - plan.k = omega arith in
      rw (r, c) (sym (pow-add 2 held (plan.n - plan.k - held)) ∙ ap (λ m. 2 ^ m) q)

  module _ {j : ℕ} (b : j < count) where
    pub within : size * j + size ≤ places plan
    within =
        let le : size * (j + 1) ≤ size * count = mul-le-mul_left {m = j + 1} {n = count} size (omega arith) in
        omega (arith, all_places, mul-add size j 1, mul-one size)

    pub part_within : 16 * (size * j) + 16 * size ≤ length was
    part_within = omega (arith, within, s.room)

    abbrev a : ℕ
    a = 16 * (size * j)

    -- the section that is made
    module _ (σ : Section) (ep : σ.plan ≡ section_of plan held) (ei : σ.inner ≡ places plan) (ef : σ.from ≡ size * j)
        (et : σ.table.now ≡ table) where
      module _ {out : List ℕ} (d : Joined plan (words table) (size * j) was out) where
        pub part : length (mid_of a (a + 16 * size - a) out) ≡ 16 * places σ.plan
        part =
            front_lent d.front (16 * size) part_within
            ∙ ap (λ m. 16 * m) (r ∙ sym (places_of plan held) ∙ ap places (sym ep))

        pub turn : {ys : List ℕ} → ys ≡ octets (sums_to σ (capacity σ.plan))
            → Joined plan (words table) (size * (j + 1)) was (put_mid a (a + 16 * size - a) out ys)
        turn {ys} q =
            let more : size * (j + 1) ≡ size * j + size = mul-add size j 1 ∙ ap (λ m. size * j + m) (mul-one size) in
            let next : a + 16 * size ≡ 16 * (size * j + size) = omega arith in
            let all : ys ≡ octets (sums_by σ.plan σ.inner σ.from (words σ.table.now)) = q in
            let row : ys ≡ octets (table_words size (λ i. whole_at plan (words table) (size * j + i))) =
            (rw (ep, ei, ef, et) at all)
            ∙ ap octets
            (section s.sound (omega (arith, h)) (size * j) (λ t. base (get_or (words table) t 0)) _
            (λ t l. ap base
            (first_at _ _ t l
            ∙ ap₂ (λ m n. get_or (words table) (origin_of plan.side m (rows plan) n (size * j) t) 0) (sym one) (sym one_part)))
            ∙ ap (λ m. table_words m (λ i. whole_at plan (words table) (size * j + i))) (one_part ∙ places_of plan held ∙ sym r)) in
            record {
              front = rw (more, table_append (size * j) size (whole_at plan (words table)), octets_append, ← row, ← next)
                  (front_turn d.front (16 * size) part_within ys (ap length row ∙ bytes_of size _));
            }

  pub finish : {j : ℕ} {out : List ℕ} → Joined plan (words table) (size * j) was out → j ≤ count → count ≤ j
      → out ≡ octets (fold_of plan (words table))
  finish {j} d l g =
      let q : j ≡ count = omega arith in
      let all : size * j ≡ width plan = ap (λ i. size * i) q ∙ all_places ∙ sym one in
      front_end (rw all at d.front) (s.room ∙ ap (λ m. 16 * m) (sym one))
