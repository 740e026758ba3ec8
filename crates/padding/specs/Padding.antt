-- The padded table of `foldframes`, word by word (document 02, request (d)). Assumes nothing.
use Rattle.std.specs.Prelude.{ℕ, zero, suc, ◌-◌, Bool, false, cond, List, [], ◌∷◌, ◌++◌, leb, length, get_or}
use Rattle.multilinear.specs.declared.Side.{Side}
use Rattle.multilinear.specs.declared.Side.TheVariants.{Prefix, Suffix}
use Rattle.plan.specs.declared.Plan.{Plan}
use Rattle.plan.specs.Plan.{width, capacity}

-- "on the prefix side .. once one whole row has come": a row has 2^(n-k) words, one for each place; with c columns c of each, though
-- `foldframes` has one
abbrev pub repeats : Side → ℕ → ℕ → Bool
repeats Prefix inner came = leb inner came
repeats Suffix inner came = false

-- the word behind the words ws, of which so many came: "a missing word takes the value of the word 2^(n-k) places earlier", or "is 0"
abbrev pub missing_word : Plan → ℕ → List ℕ → ℕ
missing_word plan came ws = cond (repeats plan.side (width plan) came) (get_or ws (length ws - width plan) 0) 0

-- m words more, one by one, each by the words before it
unfoldable pub appended : ℕ → (List ℕ → ℕ) → List ℕ → List ℕ
appended zero word ws = ws
appended (suc m) word ws = appended m word (ws ++ word ws ∷ [])

-- the words that came, and the missing ones behind them, until the table has its 2^n
abbrev pub padded_table : Plan → List ℕ → List ℕ
padded_table plan came = appended (capacity plan - length came) (missing_word plan (length came)) came
