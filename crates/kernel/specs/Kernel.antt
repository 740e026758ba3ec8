-- What the additions to out take and give. No operation that users call cites it. Assumes nothing.
use Rattle.std.specs.Prelude.{◌≡◌, false, ℕ, ◌+◌, ◌-◌, ◌*◌, ◌/◌, ◌≤◌, ◌<◌, List, [], length, get_or}
use Rattle.std.specs.List.{All}
use Rattle.algebra.specs.Sum.{sum_to}
use Rattle.algebra.specs.Words.{unreduced}
use Rattle.field.specs.Field.{p, Ext, field, base, from_words, Reduced}
use Rattle.field.specs.declared.Element.{Element}
use Rattle.lowering.specs.Lowering.{unit_inverse}
use Rattle.table.specs.Table.{element_at, entries}

-- reduced words, k for each of n elements of out from place `from` on
-- A clause: a struct with out as `&mut` would be made for each call, and its fact shown again at each write through it.
pub record Groups (k from n : ℕ) (out words : List ℕ) : Type 0 where
  pub room : 4 * (from + n) ≤ length out
  pub there : k * n ≤ length words
  pub words_below : unreduced p words ≡ false

-- reduced words, `apart` from each other, one for each of out's places from `start` to before `end`
-- A clause, as `Groups`.
pub record Row (apart start end : ℕ) (out words : List ℕ) : Type 0 where
  pub order : start ≤ end
  pub room : 4 * end ≤ length out
  pub there : (i : ℕ) → i < end - start → i * apart < length words
  pub words_below : unreduced p words ≡ false

-- weight t, where there is one
abbrev pub weight_at : List Element → ℕ → Element
weight_at weights t = get_or weights t (record { c = [] })

-- each weight is reduced, and they are four or fewer
-- A clause: an array of elements is what the callers have, and a type of it would be made for one call.
pub record Weights (n : ℕ) (weights : List Element) : Type 0 where
  pub few : n ≤ 4
  pub below : All Reduced weights

-- the sum of n words, each times its weight
unfoldable pub weighed : ℕ → List Element → (ℕ → ℕ) → Ext
weighed n weights word = sum_to field n (λ t. field.mul (from_words (weight_at weights t)) (base (word t)))

-- word y of each of k rows of n words, times the row's weight
abbrev pub rows_at : ℕ → List Element → ℕ → List ℕ → ℕ → Ext
rows_at k weights n words y = weighed k weights (λ t. get_or words (t * n + y) 0)

-- word i of a row whose words stand `apart` from each other, times the weight
abbrev pub row_at : Element → ℕ → List ℕ → ℕ → Ext
row_at weight apart words i = field.mul (from_words weight) (base (get_or words (i * apart) 0))

-- the k words of a place, each times its weight
abbrev pub words_at : ℕ → List Element → List ℕ → ℕ → Ext
words_at k weights words i = weighed k weights (λ t. get_or words (k * i + t) 0)

-- weights of rows by fours, some and no more than 256, and the rows' words, all reduced, and an element of out for each word of a row
-- A clause, as `Groups`.
pub record Tabled (table words out : List ℕ) : Type 0 where
  pub fours : length table ≡ 16 * (length table / 16)
  pub some : 0 < length table
  pub few : length table ≤ 1024
  pub table_below : unreduced p table ≡ false
  pub rows_are : Groups (length table / 4) 0 (entries out) out words
  pub out_below : unreduced p out ≡ false

-- the word of place i of row y by the row's weight
unfoldable pub row_term : List ℕ → ℕ → List ℕ → ℕ → ℕ → Ext
row_term table n words i y = field.mul (element_at table y) (base (get_or words (y * n + i) 0))

-- what place i gains of all rows, divided by 2⁶⁴
abbrev pub row_sum : List ℕ → ℕ → List ℕ → ℕ → Ext
row_sum table n words i =
    field.mul (sum_to field (length table / 4) (row_term table n words i)) (base (unit_inverse * unit_inverse))
