-- A piece added place by place: the places that have words of it, what each gains, and that the others gain nothing. Assumes nothing.
use mathlib.Core.Path.{◌≡◌, refl, sym, ap, ap₂, ◌∙◌}
use Prim.Native.Nat.{ℕ, suc, ◌+◌, ◌-◌, ◌*◌, ◌^◌, ◌/◌, ◌≤◌, ◌<◌, min}
use native.Mathlib.Decide.{dec_lt}
use native.Mathlib.Nat.{mul_comm, add-mul, mul-le-mul_left, mul-le-mul_right, le_of_mul-le-mul_right, lt_of_mul-lt-mul_right}
use native.Mathlib.Nat.{div-mul-le_self, lt-div-mul-add, le_antisymm}
use native.Mathlib.Omega.{arith}
use mathlib.Core.Bool.{cond}
use mathlib.Core.List.{List}
use lib.Dec.{ltb}
use lib.ListN.{length, get_or}
use borrow.Author.Tests.{lt-ltb, le-ltb}
use lib.Pow.{pow_pos, pow_mono}
use Rattle.algebra.specs.Sum.{sum_to}
use Rattle.multilinear.specs.declared.Side.TheVariants.{Suffix}
use Rattle.multilinear.specs.Equality.{eq_at}
use Rattle.multilinear.specs.Inner.{skip_of, moved_at}
use Rattle.multilinear.specs.Values.{value_at}
use Rattle.multilinear.proofs.Weighed.{moved_none}
use Rattle.field.specs.Field.{Ext, field, base, from_words, Holds}
use Rattle.field.specs.declared.Element.{Element}
use Rattle.field.proofs.Laws.{field_ring, base_zero, read_as}
use Rattle.table.specs.Table.{element_at, elements, put_at, placed}
use Rattle.table.specs.Refusals.{largest}
use Rattle.table.specs.Gained.{Gained}
use Rattle.table.proofs.Laws.{elements_length}
use Rattle.table.proofs.Gaining.{none, turn, gained_as, blocks, widened}
use Rattle.table.proofs.Parts.{after, after_length, after_word, after_below}
use Rattle.table.proofs.Placed.{placed_before, placed_word, placed_after, placed_none}
use Rattle.point.specs.Points.{coordinates}
use Rattle.kernel.specs.Kernel.{Groups, weighed, words_at}
use Rattle.weigh.specs.Weigh.{block_sum, block_variables}
use Rattle.weigh.proofs.Filling.{served}
use Rattle.weigh.specs.Blocks.{Fits, part_value}
use Rattle.weigh.specs.declared.blocks.Piece.{Piece as Words}
use Rattle.moved.specs.declared.Piece.{Piece}
use Rattle.moved.specs.declared.places.Blocks.{Blocks}
use Rattle.moved.specs.Moved.{Adds, table_word, moved_by}
use Rattle.moved.specs.Weighed.{weight_of, Weighed}
use Rattle.moved.specs.Inner.{Served, Reached, Wholes, GainedIn, Cuts}
use Rattle.moved.proofs.Moving.{skip_small}
use Rattle.moved.proofs.PlaceSums.{block_sum_lem, row_sum, weighed_lem}

-- the places from `from` to before i gained, of those to before `to`
pub record Done (g : ℕ → Ext) (from to : ℕ) (ws w : List ℕ) (i : ℕ) : Type 0 where
  pub begun : from ≤ i
  pub within : i ≤ to
  pub gained : Gained from (i - from) (λ y. g (from + y)) ws w

pub next : {g : ℕ → Ext} {from to i : ℕ} {ws w w' : List ℕ} {r sum e : Element} {v : Ext} → Done g from to ws w i → i < to
    → 4 * i + 3 < length ws → Holds r (element_at w i) → Holds sum v → v ≡ g i → Holds e (field.add (from_words r) (from_words sum))
    → w' ≡ put_at w i e → Done g from to ws w' (i + 1)
next {g} {from} {to} {i} {ws} {w} d h l hr hs is he put =
    let q : i ≡ from + (i - from) = omega (arith, d.begun) in
    let m : i + 1 - from ≡ i - from + 1 = omega (arith, d.begun) in
    let fits : 4 * (from + (i - from)) + 3 < length ws = omega (arith, d.begun) in
    record {
      begun = omega (arith, d.begun);
      within = omega arith;
      gained = rw m (turn from (i - from) _ ws w d.gained fits i q _ _ (read_as _ hr) (read_as _ hs ∙ is ∙ ap g q) he put);
    }

-- one range of places after another
pub adjacent : (g : ℕ → Ext) {from mid to : ℕ} {ws w w' : List ℕ} → from ≤ mid → mid ≤ to
    → Gained from (mid - from) (λ y. g (from + y)) ws w → Gained mid (to - mid) (λ y. g (mid + y)) w w'
    → Gained from (to - from) (λ y. g (from + y)) ws w'
adjacent g {from} {mid} {to} {ws} {w} {w'} h k a b =
    let q : from + (mid - from) ≡ mid = omega arith in
    let r : mid - from + (to - mid) ≡ to - from = omega arith in
    rw r at
    (blocks from (mid - from) (to - mid) (λ y. g (mid + y)) (λ y. g (from + y)) ws w w' a (rw q b)
    (λ y u. ap g (omega arith)))

module _ (piece : Piece) where
  abbrev moved : ℕ → Ext
  moved = moved_by Suffix piece

  abbrev k : ℕ
  k = piece.point.count

  abbrev inner : ℕ
  inner = piece.inner

  abbrev word : ℕ → ℕ
  word = table_word piece

  -- a place that has no words gains nothing
  gains_none : (i : ℕ) → ((y : ℕ) → y < 2 ^ k → word (i * 2 ^ k + y) ≡ 0) → moved i ≡ field.zero
  unfolding moved_by
  gains_none i e =
      moved_none field_ring Suffix _ inner _ _ _ i
      (λ y h. ap base (ap (λ n. word (i * n + y)) rows_are ∙ e y (omega (arith, rows_are))) ∙ base_zero)
    where
      rows_are : 2 ^ length (coordinates piece.point) ≡ 2 ^ k
      rows_are = ap (λ n. 2 ^ n) (elements_length piece.point.words.now 0 k)

  -- the places of a range gained, and no other has words
  finish : {from to : ℕ} {out w : List ℕ} → Adds piece out → from ≤ to → to ≤ inner → GainedIn piece from to out w
      → ((t : ℕ) → t < from * 2 ^ k → word t ≡ 0) → ((t : ℕ) → to * 2 ^ k ≤ t → word t ≡ 0) → Gained 0 inner moved out w
  finish {from} {to} a h l d early late =
      widened moved d a.out_below (omega arith) (λ y u. refl)
      (λ i u. gains_none i (λ y v.
      let m : suc i * 2 ^ k ≤ from * 2 ^ k = mul-le-mul_right (2 ^ k) u in
      early _ (omega arith)))
      (λ i u. gains_none i (λ y v.
      let m : to * 2 ^ k ≤ i * 2 ^ k = mul-le-mul_right (2 ^ k) (omega arith) in
      late _ (omega arith)))

  pub nothing : {out : List ℕ} → Adds piece out → length piece.words.now ≡ 0 → Gained 0 inner moved out out
  nothing {out} a e =
      finish {from = 0} {to = 0} a (omega arith) (omega arith) (none 0 _ out) (λ t h. placed_none piece.taken piece.words.now e t)
      (λ t h. placed_none piece.taken piece.words.now e t)

  module _ {rows : ℕ} (r : rows ≡ 2 ^ k) where
    pub some : 0 < rows
    some = omega (arith, r, pow_pos k)

    all_words : inner * rows ≡ 2 ^ k * inner
    all_words = ap (λ n. inner * n) r ∙ mul_comm inner (2 ^ k)

    same : (i : ℕ) → i * rows ≡ i * 2 ^ k
    same i = ap (λ n. i * n) r

    pub few_words : (piece.taken + length piece.words.now ≤ largest) × (inner ≤ largest)
    few_words =
        let m : inner * 1 ≤ inner * rows = mul-le-mul_left inner some in
        (omega (arith, piece.fits.within, piece.fits.small), omega (arith, m, all_words, piece.fits.small))

    -- the first and the last place of a piece of some words
    module _ (more : 0 < length piece.words.now) where
      abbrev first : ℕ
      first = piece.taken / rows

      abbrev last : ℕ
      last = (piece.taken + length piece.words.now - 1) / rows

      first_at : (first * rows ≤ piece.taken) × (piece.taken < first * rows + rows)
      first_at = (div-mul-le_self piece.taken rows, lt-div-mul-add some)

      last_at : (last * rows < piece.taken + length piece.words.now) × (piece.taken + length piece.words.now ≤ last * rows + rows)
      last_at =
          let l = div-mul-le_self (piece.taken + length piece.words.now - 1) rows in
          let m : piece.taken + length piece.words.now - 1 < last * rows + rows = lt-div-mul-add some in
          (omega (arith, l, more), omega (arith, m, more))

      pub in_order : (first ≤ last) × (last < inner)
      in_order =
          let h : first * rows < suc last * rows = omega (arith, first_at.0, last_at.1, more) in
          let l : last * rows < inner * rows = omega (arith, last_at.0, all_words, piece.fits.within) in
          let o : first < suc last = lt_of_mul-lt-mul_right rows h in
          (omega (arith, o), lt_of_mul-lt-mul_right rows l)

      pub head : Reached piece first (first + 1)
      head = record { order = omega arith; begun = omega (arith, first_at.1, same first, r); there = omega (arith, in_order) }

      pub tail : Reached piece last (last + 1)
      tail =
          let m : first * rows ≤ last * rows = mul-le-mul_right rows in_order.0 in
          record { order = omega arith; begun = omega (arith, m, first_at.1, same last, r); there = omega (arith, in_order) }

      pub middle : first < last → Wholes piece (first + 1) last
      middle h =
          let m : (first + 1) * rows ≡ first * rows + 1 * rows = add-mul first 1 rows in
          record {
            order = omega arith;
            begun = omega (arith, m, first_at.1, same (first + 1));
            ended = omega (arith, last_at.0, same last);
          }

      -- no other place has words
      early : (t : ℕ) → t < first * 2 ^ k → word t ≡ 0
      early t h = placed_before piece.taken piece.words.now t (omega (arith, first_at.0, same first))

      late : (t : ℕ) → (last + 1) * 2 ^ k ≤ t → word t ≡ 0
      late t h =
          let m : (last + 1) * rows ≡ last * rows + 1 * rows = add-mul last 1 rows in
          placed_after piece.taken piece.words.now t (omega (arith, m, last_at.1, same (last + 1)))

      pub one_place : {out w : List ℕ} → Adds piece out → last ≤ first → GainedIn piece first (first + 1) out w → Gained 0 inner moved out w
      one_place a h d =
          let q : first ≡ last = le_antisymm in_order.0 h in
          finish a (omega arith) (omega (arith, in_order)) d early (rw (sym q) at late)

      pub all_places : {out w₁ w₂ w₃ : List ℕ} → Adds piece out → first < last → GainedIn piece first (first + 1) out w₁
          → GainedIn piece (first + 1) last w₁ w₂ → GainedIn piece last (last + 1) w₂ w₃ → Gained 0 inner moved out w₃
      all_places a h d₁ d₂ d₃ =
          finish a (omega arith) (omega (arith, in_order))
          (adjacent moved (omega arith) (omega arith) (adjacent moved (omega arith) (omega arith) d₁ d₂) d₃) early late

    module _ {from to : ℕ} (w : Wholes piece from to) where
      -- the words of whole places: from the first place's to the end of the last place's
      pub spans : (piece.taken ≤ from * rows) × (from * rows ≤ to * rows) × (to * rows ≤ piece.taken + length piece.words.now)
      spans = (omega (arith, w.begun, same from), mul-le-mul_right rows w.order, omega (arith, w.ended, same to))

      pub reach : Reached piece from to
      reach =
          let n : to * rows ≤ inner * rows = omega (arith, spans, all_words, piece.fits.within) in
          record { order = w.order; begun = omega (arith, w.begun); there = le_of_mul-le-mul_right n some }

      -- the words from the first place's on
      module _ {x : ℕ} (ex : x ≡ from * rows - piece.taken) where
        pub groups : {n : ℕ} {out : List ℕ} → Adds piece out → rows ≡ n → Groups n from (to - from) out (after x piece.words.now)
        groups {n} a e =
            let q : from + (to - from) ≡ to = omega (arith, w.order) in
            let m : from * rows + (to - from) * rows ≡ to * rows = sym (add-mul from (to - from) rows) ∙ ap (λ j. j * rows) q in
            let t : n * (to - from) ≡ (to - from) * rows = mul_comm n (to - from) ∙ ap (λ j. (to - from) * j) (sym e) in
            record {
              room = omega (arith, reach.there, q, a.room);
              there = rw (t, after_length x piece.words.now) (omega (arith, ex, spans, m));
              words_below = after_below x piece.words.now piece.below;
            }

        -- word z of place j
        word_is : (n j z : ℕ) → n ≡ j * rows + z → get_or (after x piece.words.now) n 0 ≡ word ((from + j) * rows + z)
        word_is n j z e =
            let a : (from + j) * rows ≡ from * rows + j * rows = add-mul from j rows in
            let q : piece.taken + (x + n) ≡ (from + j) * rows + z = omega (arith, ex, e, spans.0, a) in
            after_word x piece.words.now n ∙ sym (placed_word piece.taken piece.words.now (x + n)) ∙ ap word q

    module _ {skip : ℕ} (s : skip ≡ skip_of piece.weight) where
      skip_fits : skip ≤ 1
      skip_fits = rw s (skip_small piece.weight)

      pub place_fits : {i : ℕ} → i < inner → (i * rows + rows ≤ largest) × (i * rows + skip ≤ largest) × (i < largest)
      place_fits {i} h =
          let m : suc i * rows ≤ inner * rows = mul-le-mul_right rows h in
          let n : suc i * 1 ≤ suc i * rows = mul-le-mul_left (suc i) some in
          let e : suc i * rows ≤ largest = omega (arith, m, all_words, piece.fits.small) in
          (omega (arith, e), omega (arith, e, some, skip_fits), omega (arith, e, n))

      pub cut_needs : {from to i : ℕ} → Reached piece from to → from ≤ i
          → (i * rows + skip ≤ i * rows + rows) × (piece.taken ≤ i * rows + rows)
      cut_needs {from} {to} {i} t h =
          let m : from * rows ≤ i * rows = mul-le-mul_right rows h in
          (omega (arith, some, skip_fits), omega (arith, t.begun, r, same from, m))

      -- a place's words
      cut_row : (i : ℕ) (cut : Words) → Cuts piece (i * rows + skip) (i * rows + rows) cut → (y : ℕ)
          → placed cut.from cut.words.now y ≡ cond (ltb (y + skip) (2 ^ k)) (word (i * 2 ^ k + (y + skip))) 0
      cut_row i cut c y = go (dec_lt (y + skip) (2 ^ k))
        where
          go : Dec (y + skip < 2 ^ k)
              → placed cut.from cut.words.now y ≡ cond (ltb (y + skip) (2 ^ k)) (word (i * 2 ^ k + (y + skip))) 0
          go (yes h) = rw (lt-ltb (y + skip) (2 ^ k) h) (c.each y (omega (arith, r)) ∙ ap word (omega (arith, same i)))
          go (no h) = rw (le-ltb (y + skip) (2 ^ k) (omega arith)) (placed_after cut.from cut.words.now y (omega (arith, c.fits, r)))

module _ {size : ℕ} (s : Blocks size) where
  abbrev piece : Piece
  piece = s.piece

  high_low : s.split.high.count + s.split.low ≡ piece.point.count
  high_low = omega (arith, s.blocked.count, s.blocked.low_fits)

  -- a block's table that has all rows
  whole_block : s.split.low ≡ piece.point.count → (y : ℕ) → y < 2 ^ piece.point.count
      → element_at s.split.block.table.now y ≡ field.mul (from_words piece.scale) (eq_at field (coordinates piece.point) y)
  whole_block e y h =
      let q : piece.point.count - s.split.low ≡ 0 = omega (arith, e) in
      s.blocked.block_is.holds y (rw e h)
      ∙ ap₂ (λ a n. field.mul (from_words piece.scale) (eq_at field (elements piece.point.words.now a n) y)) q e

  module _ {rows : ℕ} (r : rows ≡ 2 ^ piece.point.count) where
    -- few rows are all in the block
    low_is : rows ≤ 4 → s.split.low ≡ piece.point.count
    low_is few = go (dec_lt 2 piece.point.count)
      where
        go : Dec (2 < piece.point.count) → s.split.low ≡ piece.point.count
        go (yes h) = let m : 2 ^ 3 ≤ 2 ^ piece.point.count = pow_mono h in absurd (omega (arith, r, few))
        go (no h) = omega (arith, s.blocked.low_fits, s.blocked.enough)

    pub block_room : rows ≤ 4 → 4 * rows ≤ length s.split.block.table.now
    block_room few =
        let e : 2 ^ s.split.low ≡ 2 ^ piece.point.count = ap (λ n. 2 ^ n) (low_is few) in
        omega (arith, e, r, s.split.summed.room.enough)

    module _ {skip : ℕ} (q : skip ≡ skip_of piece.weight) where
      -- a place's words against the block's table
      module _ (i : ℕ) (cut : Words) (c : Cuts piece (i * rows + skip) (i * rows + rows) cut) where
        pub part_fits : Fits s.split cut
        part_fits = rw high_low (omega (arith, c.fits, r))

        pub place_is : part_value s.split cut ≡ moved_by Suffix piece i
        unfolding moved_by
        place_is =
            ap₂ (λ ws n.
            value_at field (elements ws 0 n)
            (block_sum s.split.low s.split.block.table.now (λ y. base (placed cut.from cut.words.now y))))
            s.blocked.words s.blocked.count
            ∙ block_sum_lem piece.point.count piece.point.words.now _ piece.inner skip (table_word piece) i s.blocked.low_fits
            s.blocked.block_is _ (cut_row piece r q i cut c)
            ∙ ap (λ n.
            moved_at field Suffix n piece.inner (coordinates piece.point) (from_words piece.scale) (λ t. base (table_word piece t)) i) q

      -- a place's words against the weights of its rows
      few_is : {n : ℕ} → rows ≡ n → n ≤ 4 → (i : ℕ)
          → sum_to field n (λ z. field.mul (weight_of s.split.block.table.now skip z) (base (table_word piece (i * rows + z))))
          ≡ moved_by Suffix piece i
      unfolding moved_by
      few_is e h i =
          let m = sym e ∙ r in
          ap₂ (λ m l. sum_to field m (λ z. field.mul (weight_of s.split.block.table.now skip z) (base (table_word piece (i * l + z))))) m r
          ∙ row_sum piece.point.count piece.point.words.now _ piece.inner skip (table_word piece) i Suffix s.split.block.table.now
          (skip_fits piece r q) (whole_block (low_is (omega (arith, e))))
          ∙ ap (λ n.
          moved_at field Suffix n piece.inner (coordinates piece.point) (from_words piece.scale) (λ t. base (table_word piece t)) i) q

      module _ {from to : ℕ} (w : Wholes piece from to) {x : ℕ} (ex : x ≡ from * rows - piece.taken) {out out' : List ℕ} where
        pub places_gained : {n : ℕ} {weights : List Element} → rows ≡ n → n ≤ 4 → Weighed n s.split.block.table.now skip weights
            → Gained from (to - from) (words_at n weights (after x piece.words.now)) out out' → GainedIn piece from to out out'
        places_gained {n} {weights} e few h d =
            gained_as _ d λ j l.
            let t : n * j ≡ j * rows = mul_comm n j ∙ ap (λ m. j * m) (sym e) in
            ap (weighed n weights) (λ i z. word_is piece r w ex (n * j + z) j z (ap (λ m. m + z) t) i)
            ∙ weighed_lem h (λ z. table_word piece ((from + j) * rows + z))
            ∙ few_is e few (from + j)

-- a block of as many variables as the point has, and no more than n
pub served_by : (piece : Piece) {n words low : ℕ} → 2 ≤ n → n ≤ block_variables → 4 * 2 ^ n ≡ words → low ≡ min piece.point.count n
    → Served piece low words
served_by piece t s e m =
    record {
      low_fits = omega (arith, m);
      enough = omega (arith, m, t);
      in_array = served s e (omega (arith, m));
    }
