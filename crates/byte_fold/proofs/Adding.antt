-- Block after block, from the section's first word to its last: how that starts, steps and ends. Assumes nothing.
use mathlib.Core.Path.{◌≡◌, sym, ap, ◌∙◌}
use Prim.Native.Nat.{ℕ, ◌+◌, ◌-◌, ◌*◌, ◌%◌, ◌^◌, ◌≤◌, ◌<◌, min}
use native.Mathlib.Nat.{zero-mod, mod_self, mod-add-mod, mul-mod_right, mul-mod_left, zero-add}
use native.Mathlib.Decide.{dec_lt}
use native.Mathlib.Omega.{arith}
use mathlib.Core.List.{List}
use lib.ListN.{replicate}
use lib.Pow.{pow-add, pow_pos, pow_mono}
use Rattle.multilinear.specs.declared.Side.{Side}
use Rattle.multilinear.specs.declared.Side.TheVariants.{Prefix, Suffix}
use Rattle.plan.specs.Plan.{rows, places, width, capacity}
use Rattle.plan.proofs.Joining.{none}
use Rattle.plan.proofs.OneColumn.{one_width, one_table, one_words}
use Rattle.byte_fold.specs.declared.Section.{Section}
use Rattle.byte_fold.specs.Inner.{Portion, most_block, first_row, first_words, sums_to}

-- what follows whole rows
rest_of : (m a c : ℕ) → a % m ≡ 0 → (a + c) % m ≡ c % m
rest_of m a c h = sym (mod-add-mod a m c) ∙ (rw (h, zero-add c))

4096_is : (held : ℕ) → held ≤ 10 → 4096 % 2 ^ held ≡ 0
4096_is held h =
    let q : held + (12 - held) ≡ 12 = omega arith in
    ap (λ m. m % 2 ^ held) (sym (sym (pow-add 2 held (12 - held)) ∙ ap (λ m. 2 ^ m) q)) ∙ mul-mod_right (2 ^ held) (2 ^ (12 - held))

-- blocks up to word `at` are added, or all where `at` is beyond the last word
pub record Adding (s : Section) (at : ℕ) (sums : List ℕ) : Type 0 where
  pub whole : s.plan.side ≡ Prefix → at % places s.plan ≡ 0
  pub sums_are : sums ≡ sums_to s (min at (capacity s.plan))

module _ (s : Section) where
  abbrev H : ℕ
  H = places s.plan

  -- in one column a row has a word for each place, and the table as many for each row
  one_row : width s.plan ≡ H
  one_row = one_width s.plan s.cut.one_column

  all_rows : capacity s.plan ≡ rows s.plan * H
  all_rows = one_words s.plan s.cut.one_column s.cut.sound.fits

  one_all : capacity s.plan ≡ 2 ^ s.plan.n
  one_all = one_table s.plan s.cut.one_column

  -- all words are a block, where they are few
  pub all_block : {n : ℕ} → n ≡ capacity s.plan → n ≤ most_block → Portion s.plan 0 n
  all_block {n} e h =
      record {
        within = omega (arith, e);
        most_words = h;
        whole = λ side. (zero-mod H, (rw (e, all_rows) (mul-mod_left _ H)));
      }

  -- the sums have room
  pub sums_fit : {z : ℕ} → z ≡ H → 4 * z ≤ most_block
  sums_fit e = let le : H ≤ 2 ^ 10 = pow_mono {j = 10} s.cut.few in omega (arith, le)

  -- no sum yet
  pub none_added : {sums : List ℕ} {n : ℕ} → sums ≡ replicate n 0 → n ≡ 4 * H → sums ≡ sums_to s 0
  unfolding first_words
  none_added q l = q ∙ ap (λ m. replicate m 0) l ∙ ap (λ m. replicate (4 * m) 0) (sym one_row) ∙ none s.plan

  -- the first row is a block
  module _ {len : ℕ} (l : len ≡ first_row s.plan.side H) where
    first_few : (side : Side) → first_row side H ≤ capacity s.plan × first_row side H ≤ most_block
    first_few Prefix =
        ((let le : H ≤ 2 ^ s.plan.n = pow_mono {j = s.plan.n} (omega arith) in omega (arith, le, one_all)), (let le : H ≤ 2 ^ 10 = pow_mono {j = 10} s.cut.few in omega (arith, le)))
    first_few Suffix = ((let some = pow_pos s.plan.n in omega (arith, some, one_all)), omega arith)

    first_whole : s.plan.side ≡ Prefix → len % H ≡ 0
    first_whole e = let m : len ≡ H = l ∙ ap (λ side. first_row side H) e in rw m (mod_self H)

    pub first_block : Portion s.plan 0 (len - 0)
    first_block =
        let few = first_few s.plan.side in
        let all : len - 0 ≡ len = omega arith in
        record {
          within = omega (arith, l, few.0);
          most_words = omega (arith, l, few.1);
          whole = λ e. (zero-mod H, rw all (first_whole e));
        }

    pub first_added : {sums : List ℕ} → sums ≡ sums_to s len → Adding s len sums
    first_added e =
        let m : min len (capacity s.plan) ≡ len = omega (arith, l, (first_few s.plan.side).0) in
        record { whole = first_whole; sums_are = rw m e }

  module _ {at end stop : ℕ} {sums : List ℕ} (a : Adding s at sums) (q : end ≡ capacity s.plan)
      (more : at < end) (c : stop ≡ min end (at + 4096)) where
    count_rows : s.plan.side ≡ Prefix → (stop - at) % H ≡ 0
    count_rows e = go (dec_lt (at + 4096) end)
      where
        go : Dec (at + 4096 < end) → (stop - at) % H ≡ 0
        go (yes h) = let l : stop - at ≡ 4096 = omega (arith, c) in rw l (4096_is (s.plan.n - s.plan.k) s.cut.few)
        go (no h) =
            let l : at + (stop - at) ≡ end = omega (arith, c) in
            sym (rest_of H at (stop - at) (a.whole e)) ∙ (rw (l, q, all_rows) (mul-mod_left _ H))

    pub block : Portion s.plan at (stop - at)
    block =
        record {
          within = omega (arith, c, q);
          most_words = omega (arith, c);
          whole = λ e. (a.whole e, count_rows e);
        }

    pub start_sums : sums ≡ sums_to s at
    start_sums = let m : min at (capacity s.plan) ≡ at = omega (arith, q) in rw m at a.sums_are

    pub turn : {w : List ℕ} → w ≡ sums_to s stop → Adding s (at + 4096) w
    turn e =
        let m : min (at + 4096) (capacity s.plan) ≡ stop = omega (arith, c, q) in
        record {
          whole = λ h. rest_of H at 4096 (a.whole h) ∙ 4096_is (s.plan.n - s.plan.k) s.cut.few;
          sums_are = rw m e;
        }
