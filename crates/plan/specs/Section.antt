-- A section of a fold, 2^held of its places: it is a fold of its own, of the words of these places. Assumes nothing.
use Rattle.std.specs.Prelude.{ℕ, ◌+◌, ◌*◌, ◌/◌, ◌%◌}
use Rattle.multilinear.specs.declared.Side.{Side}
use Rattle.multilinear.specs.declared.Side.TheVariants.{Prefix, Suffix}
use Rattle.plan.specs.declared.Plan.{Plan}

-- the section's plan
abbrev pub section_of : Plan → ℕ → Plan
section_of plan held =
    record {
      n = plan.k + held;
      k = plan.k;
      columns = plan.columns;
      side = plan.side;
      weight = plan.weight;
      scale = plan.scale;
      coordinates = plan.coordinates;
    }

-- where word t of the table of a section, whose rows have `places` words, stands in a table whose rows have `inner` words: the section's
-- are those from `from` on
unfoldable pub origin_of : Side → ℕ → ℕ → ℕ → ℕ → ℕ → ℕ
origin_of Prefix inner rows places from t = t / places * inner + from + t % places
origin_of Suffix inner rows places from t = from * rows + t
