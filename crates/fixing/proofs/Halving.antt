-- Two halves made one by a rule: the pairs that are read while the entries before them are written, and what is made of them. Assumes
-- nothing.
use Rattle.std.proofs.Common.{◌≡◌, refl, sym, ap, ap₂, subst, ◌∙◌, ℕ, ◌+◌, ◌-◌, ◌*◌, ◌≤◌, ◌<◌, List, ◌++◌, length, drop, arith}
use lib.ListN.{length-append, length-drop}
use Rattle.field.specs.Field.{Ext, field, to_words, from_words, Reduced, Holds}
use Rattle.field.specs.declared.Element.{Element}
use Rattle.field.proofs.Laws.{field_ring, read_as, read_back, reduced}
use Rattle.multiplier.specs.Tables.{Reaches, Becomes}
use Rattle.table.specs.Table.{get_at, element_at, table_words, entries}
use Rattle.table.proofs.Laws.{table_at, table_length}
use Rattle.table.proofs.Tests.{reduced_at, unreduced_table}
use Rattle.fixing.specs.Fixing.{Rule, Prefix, Suffix, Sum, Monomial, fixed_at}
use Rattle.fixing.specs.Inner.{Halves, Made, PairsBy, Summands, taken, taken_at, sum_at, combined, pair_of}
use Rattle.fixing.proofs.Making.{later, made_more}

-- the pair of entry i of 2h entries stands at or past it
ahead : (rule : Rule) (h i : ℕ) → (i ≤ (pair_of rule h i).0) × (i ≤ (pair_of rule h i).1)
ahead Prefix h i = (omega arith, omega arith)
ahead Suffix h i = (omega arith, omega arith)
ahead Sum h i = (omega arith, omega arith)
ahead Monomial h i = (omega arith, omega arith)

-- made one, they are entry i of what remains
one_at : (rule : Rule) (h i : ℕ) (t : ℕ → Ext) (r : Ext)
    → combined rule (t (pair_of rule h i).0) (t (pair_of rule h i).1) r ≡ fixed_at rule h t r i
one_at Prefix h i t r = refl
one_at Suffix h i t r = refl
one_at Sum h i t r = refl
one_at Monomial h i t r = refl

-- the first of a pair, with r times what the rule takes of the two, is what the rule makes of them
abbrev pub Makes : Rule → Type 0
Makes rule = (a0 a1 r : Ext) → field.add a0 (field.mul (taken rule a0 a1) r) ≡ combined rule a0 a1 r

-- what `take` makes of the pair of an entry
pub taken_holds : (rule : Rule) (h : ℕ) (ws : List ℕ) (i : ℕ) {j : ℕ × ℕ} {a b x : Element} → j ≡ pair_of rule h i → a ≡ get_at ws j.0
    → b ≡ get_at ws j.1 → Holds x (taken rule (from_words a) (from_words b)) → Holds x (taken_at rule h ws i)
taken_holds rule h ws i {x = x} e p q hx =
    let first = p ∙ ap (λ (k : ℕ × ℕ). get_at ws k.0) e in
    let second = q ∙ ap (λ (k : ℕ × ℕ). get_at ws k.1) e in
    subst (Holds x) (ap₂ (λ (y z : Element). taken rule (from_words y) (from_words z)) first second) hx

-- what `take` leaves is multiplied
pub reaches : (n : ℕ) (f : ℕ → Ext) {room more : List ℕ} → room ≡ table_words n f → 4 * n ≤ length more → Reaches 0 room more
reaches n f {room} {more} p l =
    record {
      fits = omega (arith, ap length p, table_length n f);
      below = rw p (unreduced_table n f);
    }

-- the room that `take` wrote to the front of is as long as it was
pub room_length : (n : ℕ) (f : ℕ → Ext) {rows : List ℕ} (room : List ℕ) → rows ≡ table_words n f → 4 * n ≤ length room
    → length (rows ++ drop (4 * n) room) ≡ length room
room_length n f {rows} room p l =
    omega (arith, length-append rows (drop (4 * n) room), length-drop (4 * n) room, ap length p, table_length n f)

-- a turn of `add`, at entry from + i
module _ (rule : Rule) (more : List ℕ) {h from n i : ℕ} {ws w : List ℕ} (t : PairsBy rule h from n ws)
    (d : Made (sum_at rule h ws from more) from (from + i) ws w) (l : i < n) {j : ℕ × ℕ} {a : Element}
    (e : j ≡ pair_of rule h (from + i)) (p : a ≡ get_at w j.0) where
  read_first : a ≡ get_at ws (pair_of rule h (from + i)).0
  read_first =
      p ∙ ap (λ (k : ℕ × ℕ). get_at w k.0) e ∙ later d (pair_of rule h (from + i)).0 (ahead rule h (from + i)).0

  pub first_reduced : Reduced a
  first_reduced = rw read_first (t.below (from + i) (omega arith) (omega arith)).0

  pub added : {b x : Element} → b ≡ get_at more i → Holds x (field.add (from_words a) (from_words b)) → Holds x (sum_at rule h ws from more (from + i))
  added {b} {x} q hx =
      let k : from + i - from ≡ i = omega arith in
      subst (Holds x)
      (ap₂ (λ (y z : Element). field.add (from_words y) (from_words z)) read_first (q ∙ ap (get_at more) (sym k)))
      hx

module _ (rule : Rule) (h : ℕ) (ws : List ℕ) (t : Halves h ws) where
  -- where the entries before entry `at` were written
  module _ {g : ℕ → Ext} {at : ℕ} {w : List ℕ} (d : Made g 0 at ws w) where
    pub first_later : (i : ℕ) → at ≤ i → get_at w (pair_of rule h i).0 ≡ get_at ws (pair_of rule h i).0
    first_later i l = later d (pair_of rule h i).0 (omega (arith, l, (ahead rule h i).0))

    pub second_later : (i : ℕ) → at ≤ i → get_at w (pair_of rule h i).1 ≡ get_at ws (pair_of rule h i).1
    second_later i l = later d (pair_of rule h i).1 (omega (arith, l, (ahead rule h i).1))

    pub pairs_by : (n : ℕ) → at + n ≤ h → PairsBy rule h at n w
    pairs_by n b =
        record {
          table = record { few = t.table.few; count = d.len ∙ t.table.count };
          within = b;
          below = λ i l k. (rw (first_later i l) (reduced_at ws t.below _), rw (second_later i l) (reduced_at ws t.below _));
        }

    -- one entry more, of its pair as it is read
    module _ {j : ℕ × ℕ} {a b : Element} (l : at < h) (e : j ≡ pair_of rule h at) (p : a ≡ get_at w j.0) (q : b ≡ get_at w j.1) where
      first_is : a ≡ get_at ws (pair_of rule h at).0
      first_is = p ∙ ap (λ (k : ℕ × ℕ). get_at w k.0) e ∙ first_later at (omega arith)

      second_is : b ≡ get_at ws (pair_of rule h at).1
      second_is = q ∙ ap (λ (k : ℕ × ℕ). get_at w k.1) e ∙ second_later at (omega arith)

      pub both_reduced : Reduced a × Reduced b
      both_reduced = (rw first_is (reduced_at ws t.below _), rw second_is (reduced_at ws t.below _))

      pub one_made : Makes rule → (r : Ext) {x v : Element} → Holds x (taken rule (from_words a) (from_words b))
          → Holds v (field.add (from_words a) (field.mul (from_words x) r)) → Holds v (fixed_at rule h (element_at ws) r at)
      one_made makes r {x} {v} hx hv =
          let made : field.add (from_words a) (field.mul (from_words x) r) ≡ fixed_at rule h (element_at ws) r at =
          ap (λ z. field.add (from_words a) (field.mul z r)) (read_as _ hx)
          ∙ makes (from_words a) (from_words b) r
          ∙ ap₂ (λ (y z : Element). combined rule (from_words y) (from_words z) r) first_is second_is
          ∙ one_at rule h at (element_at ws) r in
          rw made at hv

    -- a part more: what r multiplies of its pairs, the products, and the sums with them
    module _ (n : ℕ) (b : at + n ≤ h) (r : Ext) {room more old : List ℕ} (p : room ≡ table_words n (λ i. taken_at rule h w (at + i)))
        (m : Becomes 0 (entries room) (λ y. field.mul r (element_at room y)) old more) where
      room_entries : entries room ≡ n
      room_entries = omega (arith, ap length p, table_length n (λ i. taken_at rule h w (at + i)))

      product : (i : ℕ) → i < n → get_at more i ≡ to_words (field.mul r (taken_at rule h w (at + i)))
      product i l =
          ap (get_at more) (sym (zero_first i)) ∙ m.is i (omega (arith, room_entries))
          ∙ ap (λ e. to_words (field.mul r e)) (ap (λ zs. element_at zs i) p ∙ table_at n (λ i. taken_at rule h w (at + i)) i l)
        where
          zero_first : (i : ℕ) → 0 + i ≡ i
          zero_first i = omega arith

      pub summands : 4 * n ≤ length old → Summands n more
      summands f = record { there = omega (arith, m.len); below = λ i l. rw (product i l) (reduced _) }

      pub part_made : Makes rule → ((y : ℕ) → g y ≡ fixed_at rule h (element_at ws) r y)
          → {w₁ : List ℕ} → Made (sum_at rule h w at more) at (at + n) w w₁ → Made g 0 (at + n) ws w₁
      part_made makes gs s = made_more d (omega arith) (omega arith) (sum_at rule h w at more) s go
        where
          go : (y : ℕ) → at ≤ y → y < at + n → sum_at rule h w at more y ≡ g y
          go y l k =
              let q : at + (y - at) ≡ y = omega arith in
              let x : element_at more (y - at) ≡ field.mul r (taken_at rule h w y) =
              rw q at (ap from_words (product (y - at) (omega arith)) ∙ read_back _) in
              ap (λ z. field.add (element_at w (pair_of rule h y).0) z) (x ∙ field_ring.mul_comm r _)
              ∙ makes _ _ r
              ∙ ap₂ (λ (a b : Element). combined rule (from_words a) (from_words b) r) (first_later y l) (second_later y l)
              ∙ one_at rule h y (element_at ws) r
              ∙ sym (gs y)
