-- What a fold is about, and its places (document 01, "Split folds" and "Fold session"; document 02, (e): its columns). Assumes nothing.
use Rattle.std.specs.Prelude.{ℕ, ◌+◌, ◌-◌, ◌*◌, ◌/◌, ◌%◌, ◌^◌, List, ◌++◌, length, get_or, replicate}
use Rattle.algebra.specs.Sum.{sum_to}
use Rattle.multilinear.specs.declared.Side.{Side}
use Rattle.multilinear.specs.declared.Side.TheVariants.{Prefix, Suffix}
use Rattle.multilinear.specs.declared.Weight.{Weight}
use Rattle.multilinear.specs.Folds.{word_of, weight_at}
use Rattle.field.specs.Field.{Ext, field, base, from_words}
use Rattle.field.specs.declared.Element.{Element}
use Rattle.table.specs.Table.{table_words, element_at, elements, placed}
use Rattle.table.specs.Refusals.{most, most_columns}
use Rattle.plan.specs.declared.Plan.{Plan}

-- the words of a point, and 0 for the coordinates that are not given
abbrev pub padded : List ℕ → List ℕ
padded point = point ++ replicate (4 * most - length point) 0

-- a plan of these numbers and this point
abbrev pub plan_of : ℕ → ℕ → ℕ → Side → Weight → Element → List ℕ → Plan
plan_of n k columns side weight scale point =
    record { n = n; k = k; columns = columns; side = side; weight = weight; scale = scale; coordinates = padded point }

-- the most columns of a side: 16, and 1 on the suffix side
abbrev pub most_on : Side → ℕ
most_on Prefix = most_columns
most_on Suffix = 1

-- 2^k rows
abbrev pub rows : Plan → ℕ
rows plan = 2 ^ plan.k

-- inner = 2^(n-k) places of a row
abbrev pub places : Plan → ℕ
places plan = 2 ^ (plan.n - plan.k)

-- c elements of out for each place, and as many words of each row
abbrev pub width : Plan → ℕ
width plan = places plan * plan.columns

-- the table has c·2^n words
abbrev pub capacity : Plan → ℕ
capacity plan = plan.columns * 2 ^ plan.n

-- the k coordinates
abbrev pub coordinates_of : Plan → List Ext
coordinates_of plan = elements plan.coordinates 0 plan.k

-- the word of row y, place i, column j: on the prefix side (y·inner + i)·c + j
abbrev pub word_in : Plan → ℕ → ℕ → ℕ → ℕ
word_in plan i j y = word_of plan.side (places plan) (rows plan) i y * plan.columns + j

-- the weight of row y
abbrev pub weight_in : Plan → ℕ → Ext
weight_in plan y = weight_at field plan.weight (coordinates_of plan) y

-- column j of place i of a table's fold: the sum over the rows y of scale·weight[y]·(the word of row y, place i, column j)
unfoldable pub place_of : Plan → (ℕ → Ext) → ℕ → ℕ → Ext
place_of plan f i j =
    sum_to field (rows plan)
    (λ y. field.mul (field.mul (from_words plan.scale) (weight_in plan y)) (f (word_in plan i j y)))

-- element m of out, in which column j of place i stands at i·c + j
abbrev pub out_of : Plan → (ℕ → Ext) → ℕ → Ext
out_of plan f m = place_of plan f (m / plan.columns) (m % plan.columns)

-- all columns of all places of the words ws, a word that is not there being 0
abbrev pub fold_of : Plan → List ℕ → List ℕ
fold_of plan ws = table_words (width plan) (out_of plan (λ t. base (get_or ws t 0)))

-- all of out with what it gains of a piece, whose words are the table's from word `taken` on
abbrev pub gained_by : Plan → ℕ → List ℕ → List ℕ → List ℕ
gained_by plan taken piece out =
    table_words (width plan) (λ m. field.add (element_at out m) (out_of plan (λ t. base (placed taken piece t)) m))
