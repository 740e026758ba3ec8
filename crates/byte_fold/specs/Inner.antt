-- What the functions take and give. No operation that users call cites it. Assumes nothing.
use Rattle.std.specs.Prelude.{◌≡◌, ℕ, zero, suc, ◌+◌, ◌*◌, ◌/◌, ◌%◌, ◌≤◌, ◌<◌, List, [], ◌∷◌, length, get_or}
use Rattle.octets.specs.Octets.{words}
use Rattle.multilinear.specs.declared.Side.{Side}
use Rattle.multilinear.specs.declared.Side.TheVariants.{Prefix, Suffix}
use Rattle.plan.specs.declared.Plan.{Plan}
use Rattle.plan.specs.Plan.{rows, places, capacity, fold_of}
use Rattle.plan.specs.Section.{origin_of}
use Rattle.byte_fold.specs.declared.Section.{Section}
use Rattle.byte_fold.specs.declared.Rows.{Rows}

-- most words of a block, and of the sums that are held at a time
abbrev pub most_block : ℕ
most_block = 4096

-- f 0, f 1, .. f (n - 1)
unfoldable pub first_words : ℕ → (ℕ → ℕ) → List ℕ
first_words zero f = []
first_words (suc n) f = f 0 ∷ first_words n (λ i. f (suc i))

-- word t of the section's table, among the words of the whole one
abbrev pub section_at : Section → ℕ → ℕ
section_at s t = get_or (words s.table.now) (origin_of s.plan.side s.inner (rows s.plan) (places s.plan) s.from t) 0

-- the section's words from word `at` on, n of them
abbrev pub block_at : Section → ℕ → ℕ → List ℕ
block_at s at n = first_words n (λ i. section_at s (at + i))

-- the sums of the section's places over its first n words
abbrev pub sums_to : Section → ℕ → List ℕ
sums_to s n = fold_of s.plan (first_words n (section_at s))

-- a block of a section's words, from word `at` on; on the prefix side whole rows
pub record Portion (plan : Plan) (at count : ℕ) : Type 0 where
  pub within : at + count ≤ capacity plan
  pub most_words : count ≤ most_block
  pub whole : plan.side ≡ Prefix → (at % places plan ≡ 0) × (count % places plan ≡ 0)

-- the words of the first row that come first
abbrev pub first_row : Side → ℕ → ℕ
first_row Prefix places = places
first_row Suffix places = 1

-- `count` words, which are whole rows of these, and the table has them
pub record Strided (rows : Rows) (table : List ℕ) (count : ℕ) : Type 0 where
  pub some : 0 < rows.places
  pub whole : count % rows.places ≡ 0
  pub there : (r : ℕ) → r < count / rows.places → 4 * (rows.start + r * rows.inner + rows.places) ≤ length table

-- word i of these rows
abbrev pub row_word : Rows → List ℕ → ℕ → ℕ
row_word rows ws i = get_or ws (rows.start + i / rows.places * rows.inner + i % rows.places) 0
