-- The indices of the accepted `02` lines are 0, 1, .. as many as have come. Assumes nothing.
use mathlib.Core.Path.{◌≡◌, refl, sym, ap, ◌∙◌}
use mathlib.Core.Bool.{false}
use Prim.Native.Nat.{ℕ, zero, suc}
use native.Mathlib.Numerals.{add-one}
use native.Mathlib.Omega.{arith}
use mathlib.Core.List.{List, [], ◌∷◌, append-nil}
use lib.ListN.{length, length-append}
use Rattle.runs.specs.Reader.{started}
use Rattle.runs.specs.State.{State}
use Rattle.runs.specs.Runs.{start, index_by, up_to, is_opened}
use Rattle.runs.proofs.Steps.{never, Keeps}

pub record Indexed (s : State) (is : List ℕ) : Type 0 where
  pub indices : is ≡ up_to s.reader.came
  pub none : is_opened s.reader.phase ≡ false → is ≡ []

pub indexed_start : (out last : List ℕ) → Indexed (start out last) []
unfolding started
indexed_start out last = record { indices = refl; none = λ q. refl }

pub indexed_keeps : Keeps index_by Indexed
indexed_keeps =
    record {
      opens = λ s o is i e h.
          let z : is ≡ [] = i.none (ap is_opened e) in
          rw z (record { indices = refl; none = λ q. refl });
      notes = λ s j x is i e h l.
          record {
            indices = rw (add-one s.reader.came, i.indices, h.next);
            none = λ q. never (sym (ap is_opened e) ∙ q);
          };
      takes = λ s ws is i h w. rw append-nil (record { indices = i.indices; none = λ q. never q });
      closes = λ s is i h. rw append-nil (record { indices = i.indices; none = λ q. never q });
    }

length_up_to : (n : ℕ) → length (up_to n) ≡ n
length_up_to zero = refl
length_up_to (suc n) = length-append (up_to n) (n ∷ []) ∙ omega (arith, length_up_to n)

pub rising : (s : State) (is : List ℕ) → Indexed s is → is ≡ up_to (length is)
rising s is i = i.indices ∙ ap up_to (sym (ap length i.indices ∙ length_up_to s.reader.came))
