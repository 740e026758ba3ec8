-- What the inner functions take and give. No operation that users call cites it. Assumes nothing.
use Rattle.std.specs.Prelude.{◌≡◌, false, ℕ, ◌+◌, ◌-◌, ◌*◌, ◌≤◌, ◌<◌, List, [], ◌∷◌, ◌++◌, length, take, drop}
use Rattle.algebra.specs.Ring.{minus}
use Rattle.algebra.specs.Words.{unreduced}
use Rattle.multilinear.specs.Beside.{line}
use Rattle.field.specs.Field.{p, Ext, field, to_words, Reduced}
use Rattle.field.specs.declared.Element.{Element}
use Rattle.table.specs.Table.{table_words, entries, get_at, element_at}
use Rattle.table.specs.Refusals.{Test, ◌gives◌, splits, not_power, too_many_variables}
use Rattle.fixing.specs.Fixing.{Rule, Prefix, Suffix, Sum, Monomial, fixed_at}

-- the sum's tests of sizes: 1, 2, 3
abbrev pub size_tests : List ℕ → List Test
size_tests ws =
    splits ws gives 1
    ∷ not_power (entries ws) gives 2
    ∷ too_many_variables (entries ws) gives 3
    ∷ []

-- and the last: 5
abbrev pub word_tests : List ℕ → List Test
word_tests ws = unreduced p ws gives 5 ∷ []

-- two entries made one
abbrev pub combined : Rule → Ext → Ext → Ext → Ext
combined Prefix a0 a1 r = line field a0 a1 r
combined Suffix a0 a1 r = line field a0 a1 r
combined Sum a0 a1 r = field.add a0 a1
combined Monomial a0 a1 r = field.add a0 (field.mul a1 r)

-- what of the two r multiplies; a sum takes no r
abbrev pub taken : Rule → Ext → Ext → Ext
taken Prefix a0 a1 = minus field a1 a0
taken Suffix a0 a1 = minus field a1 a0
taken Sum a0 a1 = a1
taken Monomial a0 a1 = a1

-- the two of a table of 2h entries that become entry i
abbrev pub pair_of : Rule → ℕ → ℕ → ℕ × ℕ
pair_of Prefix h i = (i, h + i)
pair_of Suffix h i = (2 * i, 2 * i + 1)
pair_of Sum h i = (i, h + i)
pair_of Monomial h i = (i, h + i)

-- a table of 2h entries
pub record TwoHalves (h : ℕ) (ws : List ℕ) : Type 0 where
  pub few : h < 2305843009213693952
  pub count : length ws ≡ 8 * h

-- all of them reduced
pub record Halves (h : ℕ) (ws : List ℕ) : Type 0 where
  pub table : TwoHalves h ws
  pub below : unreduced p ws ≡ false

-- entries from..to of each half reduced
pub record Pairs (h from to : ℕ) (ws : List ℕ) : Type 0 where
  pub table : TwoHalves h ws
  pub ordered : from ≤ to
  pub within : to ≤ h
  pub below : (i : ℕ) → from ≤ i → i < to → Reduced (get_at ws i) × Reduced (get_at ws (h + i))

-- the pairs of n entries from entry `from` on, reduced
pub record PairsBy (rule : Rule) (h from n : ℕ) (ws : List ℕ) : Type 0 where
  pub table : TwoHalves h ws
  pub within : from + n ≤ h
  pub below : (i : ℕ) → from ≤ i → i < from + n → Reduced (get_at ws (pair_of rule h i).0) × Reduced (get_at ws (pair_of rule h i).1)

-- n reduced elements
pub record Summands (n : ℕ) (more : List ℕ) : Type 0 where
  pub there : 4 * n ≤ length more
  pub below : (i : ℕ) → i < n → Reduced (get_at more i)

-- what r multiplies of the pair of entry i
abbrev pub taken_at : Rule → ℕ → List ℕ → ℕ → Ext
taken_at rule h ws i = taken rule (element_at ws (pair_of rule h i).0) (element_at ws (pair_of rule h i).1)

-- the first of the pair of entry i, with its element of a part's `more`
abbrev pub sum_at : Rule → ℕ → List ℕ → ℕ → List ℕ → ℕ → Ext
sum_at rule h ws from more i = field.add (element_at ws (pair_of rule h i).0) (element_at more (i - from))

-- n entries, from entry a on
abbrev pub part : ℕ → ℕ → List ℕ → List ℕ
part a n ws = take (4 * n) (drop (4 * a) ws)

-- entries from..to have become g's, all else is as it was
pub record Made (g : ℕ → Ext) (from to : ℕ) (ws w : List ℕ) : Type 0 where
  pub len : length w ≡ length ws
  pub before : (y : ℕ) → y < from → get_at w y ≡ get_at ws y
  pub done : (y : ℕ) → y < to → from ≤ y → get_at w y ≡ to_words (g y)
  pub after : drop (4 * to) w ≡ drop (4 * to) ws

-- f of an entry of the first half and its entry of the second
abbrev pub paired : (Ext → Ext → Ext) → ℕ → List ℕ → ℕ → Ext
paired f h ws i = f (element_at ws i) (element_at ws (h + i))

-- its first half made of two entries each, its second as it was
abbrev pub halved : Rule → ℕ → List ℕ → Ext → List ℕ
halved rule h ws r = table_words h (fixed_at rule h (element_at ws) r) ++ drop (4 * h) ws

-- a pair of entries of ws that stand at or past entry i, and may be made one
pub record Joinable (make_pre : Element → Element → Type 0) (i : ℕ) (j : ℕ × ℕ) (ws : List ℕ) : Type 0 where
  pub ahead : (i ≤ j.0) × (i ≤ j.1)
  pub room : (4 * j.0 + 3 < length ws) × (4 * j.1 + 3 < length ws)
  pub may : make_pre (get_at ws j.0) (get_at ws j.1)

-- a loop over entries from..to of ws may ask for the pair of each, and make it one
pub record Combinable (pair_pre : ℕ → Type 0) (pair_post : ℕ → ℕ × ℕ → Type 0) (make_pre : Element → Element → Type 0)
    (from to : ℕ) (ws : List ℕ) : Type 0 where
  pub ordered : from ≤ to
  pub room : 4 * to ≤ length ws
  pub asked : (i : ℕ) → from ≤ i → i < to → pair_pre i
  pub paired_at : (i : ℕ) → from ≤ i → i < to → (j : ℕ × ℕ) → pair_post i j → Joinable make_pre i j ws

-- entry e is what the pair of entry i was made
abbrev pub IsMade : (ℕ → ℕ × ℕ → Type 0) → (Element → Element → Element → Type 0) → ℕ → List ℕ → Element → Type 0
IsMade pair_post make_post i ws e = (j : ℕ × ℕ) × pair_post i j × make_post (get_at ws j.0) (get_at ws j.1) e

-- entries from..to are made of their pairs, all else is as it was
pub record Combined (pair_post : ℕ → ℕ × ℕ → Type 0) (make_post : Element → Element → Element → Type 0)
    (from to : ℕ) (ws w : List ℕ) : Type 0 where
  pub len : length w ≡ length ws
  pub before : (y : ℕ) → y < from → get_at w y ≡ get_at ws y
  pub done : (y : ℕ) → y < to → from ≤ y → IsMade pair_post make_post y ws (get_at w y)
  pub after : drop (4 * to) w ≡ drop (4 * to) ws
