-- The padded table by the numbers of its words, for readers: request (d), sentence by sentence. Assumes nothing.
use Rattle.std.specs.Prelude.{◌≡◌, ℕ, ◌-◌, ◌≤◌, ◌<◌, List, length, get_or}
use Rattle.multilinear.specs.declared.Side.TheVariants.{Prefix, Suffix}
use Rattle.plan.specs.declared.Plan.{Plan}
use Rattle.plan.specs.Plan.{width, capacity}
use Rattle.padding.specs.Padding.{padded_table}

-- word t of the padded table
abbrev pub word_at : Plan → List ℕ → ℕ → ℕ
word_at plan came t = get_or (padded_table plan came) t 0

pub record ByNumber : Type 0 where
  -- the table has its 2^n words
  pub whole : (plan : Plan) (came : List ℕ) → length came ≤ capacity plan → length (padded_table plan came) ≡ capacity plan
  -- those that came are its first
  pub came_first : (plan : Plan) (came : List ℕ) (t : ℕ) → t < length came → word_at plan came t ≡ get_or came t 0
  -- "on the prefix side, a missing word takes the value of the word 2^(n-k) places earlier, once one whole row has come"
  pub earlier : (plan : Plan) (came : List ℕ) (t : ℕ) → plan.side ≡ Prefix → width plan ≤ length came → length came ≤ t
      → t < capacity plan → word_at plan came t ≡ word_at plan came (t - width plan)
  -- "Where fewer words than one row came, .. every missing word is 0"
  pub too_few : (plan : Plan) (came : List ℕ) (t : ℕ) → length came < width plan → length came ≤ t → t < capacity plan
      → word_at plan came t ≡ 0
  -- ".. and on the suffix side"
  pub on_suffix : (plan : Plan) (came : List ℕ) (t : ℕ) → plan.side ≡ Suffix → length came ≤ t → t < capacity plan
      → word_at plan came t ≡ 0
