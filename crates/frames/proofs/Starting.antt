-- Before the first line. Assumes nothing.
use mathlib.Core.Path.{◌≡◌, refl, ap, ◌∙◌}
use Prim.Native.Nat.{ℕ, ◌*◌, ◌^◌}
use native.Mathlib.Omega.{arith}
use mathlib.Core.List.{List, []}
use lib.ListN.{length, replicate}
use Rattle.algebra.specs.Words.{unreduced}
use Rattle.field.specs.Field.{p}
use Rattle.runs.specs.declared.Reader.{Reader}
use Rattle.runs.specs.Reader.{most_places, started}
use Rattle.runs.specs.Runs.{start}
use Rattle.frames.specs.Inside.{with_gathered, Gathers}
use Rattle.frames.proofs.Keeping.{at_start_zeros, last_zeros}
use Rattle.frames.proofs.Gathering.{settled}

module _ {r : Reader} {gathered out last : List ℕ} (q : r ≡ started) (o : out ≡ replicate (4 * 2 ^ most_places) 0)
    (w : last ≡ replicate (2 ^ most_places) 0) (g : gathered ≡ []) where
  pub first_gathers : Gathers r gathered out last
  unfolding unreduced
  first_gathers =
      record {
        ready = rw q (at_start_zeros o);
        last_ready = last_zeros w;
        below = ap (unreduced p) g;
        counted = omega (arith, ap length g);
        none = λ z. g;
      }

  pub first_seen : with_gathered r gathered out last ≡ start (replicate (4 * 2 ^ most_places) 0) (replicate (2 ^ most_places) 0)
  first_seen = settled last first_gathers.ready g ∙ rw (q, o, w) refl
