-- Tables of few rows, set by the weights of their rows: what the weights are, and the fold by them. Assumes nothing.
use mathlib.Core.Path.{◌≡◌, refl, sym, ap, ap₂, ◌∙◌}
use Prim.Native.Nat.{ℕ, ◌+◌, ◌-◌, ◌*◌, ◌^◌, ◌≤◌, ◌<◌}
use native.Mathlib.Decide.{ℕ_discrete}
use native.Mathlib.Nat.{mul_comm}
use native.Mathlib.Omega.{arith}
use mathlib.Core.List.{List, []}
use lib.ListN.{length, get_or, set, length-set}
use lib.Seq.{get_or-set_same, get_or-set_other}
use Rattle.std.specs.Prelude.{Option, Some, None}
use Rattle.std.proofs.lemmas.Option.{none-some, same_Some}
use Rattle.algebra.specs.Sum.{sum_to}
use Rattle.algebra.proofs.Ring.{add_mul}
use Rattle.algebra.proofs.Sums.{sum_ext, sum_gain}
use Rattle.multilinear.specs.declared.Side.{Side}
use Rattle.multilinear.specs.declared.Side.TheVariants.{Prefix, Suffix}
use Rattle.multilinear.specs.declared.Weight.{Weight}
use Rattle.multilinear.specs.Equality.{eq_at}
use Rattle.multilinear.specs.Folds.{word_of}
use Rattle.multilinear.specs.Inner.{skip_of, own_row, of_row, moved_at, own_at}
use Rattle.multilinear.proofs.Weighed.{moved_own}
use Rattle.field.specs.Field.{Ext, field, base, from_words, Reduced, Holds}
use Rattle.field.specs.declared.Element.{Element}
use Rattle.field.proofs.Laws.{field_ring, read_as}
use Rattle.table.specs.Table.{element_at, entries, table_words}
use Rattle.table.proofs.Laws.{table_ext, elements_length}
use Rattle.kernel.specs.Kernel.{Groups, Weights, weight_at, weighed, rows_at, words_at}
use Rattle.std.proofs.lemmas.List.Elements.{All-from_get_or}
use Rattle.weigh.specs.Weigh.{Block}
use Rattle.moved.specs.Weighed.{weight_of, Weighed}
use Rattle.moved.proofs.Moving.{skip_small}
use Rattle.moved.proofs.PlaceSums.{row_sum}
use Rattle.plan.specs.declared.Plan.{Plan}
use Rattle.plan.specs.Plan.{rows, width, coordinates_of, out_of, fold_of}
use Rattle.plan.specs.Sound.{Fills}
use Rattle.plan.proofs.Columns.{all_words, in_rows}
use Rattle.piece.specs.Inner.{RowWeights}
use Rattle.piece.proofs.own.Owning.{own_there}

-- the own row's weight beside the one that it is moved by
pub with_own : {n row : ℕ} {block : List ℕ} {weight : Weight} {weights : List Element} {last e : Element}
    → Weighed n block (skip_of weight) weights → own_row weight n ≡ Some row → row < n → Holds last (element_at block (n - 1))
    → Holds e (field.add (from_words (weight_at weights row)) (from_words last)) → RowWeights n block weight (set weights row e)
with_own {n} {row} {block} {weight} {weights} {last} {e} h q l hl he =
    record {
      len = length-set weights row e ∙ h.len;
      others = λ y b d.
          let other = get_or-set_other weights row y e (record { c = [] }) (λ s. d (q ∙ ap Some (sym s))) in
          rw other (h.each y b);
      own = λ y o. rw (sym (same_Some row y (sym q ∙ o))) here;
    }
  where
    here : Holds (weight_at (set weights row e) row) (field.add (weight_of block (skip_of weight) row) (element_at block (n - 1)))
    here =
        rw (get_or-set_same weights row e (record { c = [] }) (omega (arith, h.len)))
        (rw (read_as _ (h.each row l), read_as _ hl) at he)

module _ {n : ℕ} {block : List ℕ} {weight : Weight} {weights : List Element} (h : RowWeights n block weight weights) where
  module _ (word : ℕ → ℕ) where
    abbrev term : ℕ → Ext
    term y = field.mul (weight_of block (skip_of weight) y) (base (word y))

    abbrev own_term : ℕ → Ext
    own_term y = field.mul (element_at block (n - 1)) (base (word y))

    -- the words by them: as the rows are moved, and the own row's beside that
    pub words_sum : 0 < n → weighed n weights word ≡ field.add (sum_to field n term) (of_row field (own_row weight n) own_term)
    unfolding weighed
    words_sum some = go (own_row weight n) refl
      where
        go : (o : Option ℕ) → own_row weight n ≡ o
            → sum_to field n (λ t. field.mul (from_words (weight_at weights t)) (base (word t)))
            ≡ field.add (sum_to field n term) (of_row field o own_term)
        go None e =
            sum_ext field_ring n _ _
            (λ y l. ap (λ w. field.mul w (base (word y))) (read_as _ (h.others y l (λ q. none-some y (sym e ∙ q)))))
            ∙ sym (field_ring.add_zero _)
        go (Some row) e =
            sum_gain field_ring n _ _ row _ (own_there weight some e)
            (λ y l d.
            ap (λ w. field.mul w (base (word y))) (read_as _ (h.others y l (λ q. d (sym (same_Some row y (sym e ∙ q)))))))
            (ap (λ w. field.mul w (base (word row))) (read_as _ (h.own row e)) ∙ add_mul field_ring _ _ _)

  pub row_weights : n ≤ 4 → Weights n weights
  row_weights few =
      record {
        few = few;
        below = All-from_get_or Reduced weights _ (λ y b. go (own_row weight n) refl y (omega (arith, b, h.len)));
      }
    where
      go : (o : Option ℕ) → own_row weight n ≡ o → (y : ℕ) → y < n → Reduced (weight_at weights y)
      go None e y l = (h.others y l (λ q. none-some y (sym e ∙ q))).below
      go (Some row) e y l = here (ℕ_discrete row y)
        where
          here : Dec (row ≡ y) → Reduced (weight_at weights y)
          here (yes d) = (h.own y (e ∙ ap Some d)).below
          here (no d) = (h.others y l (λ q. d (same_Some row y (sym e ∙ q)))).below

-- out has an element for each place
pub counted : {plan : Plan} {table out : List ℕ} → Fills plan table out → entries out ≡ width plan
counted f = omega (arith, f.room)

module _ {plan : Plan} {table out : List ℕ} (f : Fills plan table out) {n : ℕ} (q : n ≡ rows plan) where
  -- n words for each place
  pub grouped : Groups n 0 (entries out) out table × (length out ≡ 4 * entries out)
  grouped =
      let r : length out ≡ 4 * entries out = omega (arith, f.room) in
      let t : n * entries out ≡ length table = ap₂ (λ a b. a * b) q (counted f) ∙ sym (f.count ∙ all_words plan f.sound.fits) in
      (record { room = omega (arith, r); there = omega (arith, t); words_below = f.below }, r)

  module _ {block : List ℕ} {weights : List Element} (some : 0 < n) (h : RowWeights n block plan.weight weights)
      (b : Block (plan.k - plan.k) plan.k plan.coordinates (from_words plan.scale) block) where
    abbrev word : ℕ → Ext
    word t = base (get_or table t 0)

    abbrev zs : List Ext
    zs = coordinates_of plan

    abbrev side : Side
    side = plan.side

    abbrev row_word : ℕ → ℕ → ℕ → ℕ
    row_word m i y = get_or table (word_of side (width plan) m i y) 0

    none_before : plan.k - plan.k ≡ 0
    none_before = omega arith

    holds : (y : ℕ) → y < 2 ^ plan.k → element_at block y ≡ field.mul (from_words plan.scale) (eq_at field zs y)
    holds = rw none_before at b.holds

    all : n ≡ 2 ^ length zs
    all = q ∙ ap (λ m. 2 ^ m) (sym (elements_length plan.coordinates 0 plan.k))

    moved_sum : (i : ℕ)
        → sum_to field n (λ y. field.mul (weight_of block (skip_of plan.weight) y) (base (row_word n i y)))
        ≡ moved_at field side (skip_of plan.weight) (width plan) zs (from_words plan.scale) word i
    moved_sum i =
        ap (λ m. sum_to field m (λ y. field.mul (weight_of block (skip_of plan.weight) y) (base (row_word m i y)))) q
        ∙ row_sum plan.k plan.coordinates _ (width plan) (skip_of plan.weight) (λ t. get_or table t 0) i side block
        (skip_small plan.weight) holds

    own_sum : (i : ℕ)
        → of_row field (own_row plan.weight n) (λ y. field.mul (element_at block (n - 1)) (base (row_word n i y)))
        ≡ own_at field side plan.weight (width plan) zs (from_words plan.scale) word i
    unfolding own_at
    own_sum i =
        let last : n - 1 < 2 ^ plan.k = omega (arith, some, q) in
        ap (λ w. of_row field (own_row plan.weight n) (λ y. field.mul w (base (row_word n i y)))) (holds (n - 1) last)
        ∙ ap (λ m. of_row field (own_row plan.weight m)
        (λ y. field.mul (field.mul (from_words plan.scale) (eq_at field zs (m - 1))) (base (row_word m i y)))) all

    place_is : (i : ℕ) → weighed n weights (row_word n i) ≡ out_of plan word i
    place_is i =
        words_sum h (row_word n i) some
        ∙ ap₂ field.add (moved_sum i) (own_sum i)
        ∙ moved_own field_ring side plan.weight (width plan) zs _ word i
        ∙ sym (in_rows f.sound word i)

    -- on the prefix side by rows, on the suffix side by groups
    pub rows_fold : {out' : List ℕ} → side ≡ Prefix → out' ≡ table_words (entries out) (rows_at n weights (entries out) table)
        → out' ≡ fold_of plan table
    rows_fold e d =
        d ∙ rw (counted f)
        (table_ext (width plan) _ _ λ i l.
        ap (λ s. weighed n weights (λ y. get_or table (word_of s (width plan) n i y) 0)) (sym e) ∙ place_is i)

    pub groups_fold : {out' : List ℕ} → side ≡ Suffix → out' ≡ table_words (entries out) (words_at n weights table)
        → out' ≡ fold_of plan table
    groups_fold e d =
        d ∙ rw (counted f)
        (table_ext (width plan) _ _ λ i l.
        ap (weighed n weights) (λ j y. get_or table (mul_comm n i j + y) 0)
        ∙ ap (λ s. weighed n weights (λ y. get_or table (word_of s (width plan) n i y) 0)) (sym e) ∙ place_is i)
