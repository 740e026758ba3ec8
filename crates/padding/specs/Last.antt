-- The last word of each place of a row, which is all that padding needs of the words that came. Assumes nothing.
use Rattle.std.specs.Prelude.{◌≡◌, false, cond, ℕ, zero, suc, ◌-◌, ◌*◌, ◌%◌, ◌≤◌, List, [], ◌∷◌, length, get_or, set}
use Rattle.algebra.specs.Words.{unreduced}
use Rattle.multilinear.specs.declared.Side.{Side}
use Rattle.multilinear.specs.declared.Side.TheVariants.{Prefix, Suffix}
use Rattle.field.specs.Field.{p}
use Rattle.plan.specs.declared.Plan.{Plan}
use Rattle.plan.specs.Plan.{width, capacity}
use Rattle.plan.specs.Sound.{Sound}
use Rattle.padding.specs.Padding.{repeats}

-- words come from word t on, in rows of `inner`: each stands for its place until the next one of that place comes
unfoldable pub kept : ℕ → ℕ → List ℕ → List ℕ → List ℕ
kept inner t [] last = last
kept inner t (w ∷ ws) last = kept inner (suc t) ws (set last (t % inner) w)

-- what is kept of them: on the suffix side nothing, as no row is repeated there
abbrev pub kept_on : Side → ℕ → ℕ → List ℕ → List ℕ → List ℕ
kept_on Prefix inner t ws last = kept inner t ws last
kept_on Suffix inner t ws last = last

-- f t, f (t + 1), .. m of them
unfoldable pub words_from : (ℕ → ℕ) → ℕ → ℕ → List ℕ
words_from f t zero = []
words_from f t (suc m) = f t ∷ words_from f (suc t) m

-- the missing words, where so many came: the last word of their place, or 0
abbrev pub missing_words : Plan → ℕ → List ℕ → List ℕ
missing_words plan taken last =
    words_from (λ t. cond (repeats plan.side (width plan) taken) (get_or last (t % width plan) 0) 0)
    taken (capacity plan - taken)

-- a sound plan, and room for a word of each place
pub record Keeps (plan : Plan) (last : List ℕ) : Type 0 where
  pub sound : Sound plan
  pub last_room : width plan ≤ length last

-- a sound plan of which so many words came, with a last word for each place, and an out of an element for each place, all reduced
pub record Pads (plan : Plan) (taken : ℕ) (last out : List ℕ) : Type 0 where
  pub sound : Sound plan
  pub within : taken ≤ capacity plan
  pub last_room : width plan ≤ length last
  pub last_below : unreduced p last ≡ false
  pub room : length out ≡ 4 * width plan
  pub out_below : unreduced p out ≡ false
