-- The coordinates are those that the accepted `02` lines gave, in their order. Assumes nothing.
use mathlib.Core.Path.{◌≡◌, refl, sym, ap, ◌∙◌}
use mathlib.Core.Bool.{true, false}
use Prim.Native.Nat.{ℕ, ◌+◌, ◌*◌, ◌≤◌}
use native.Mathlib.Omega.{arith}
use mathlib.Core.List.{List, [], ◌++◌, append-nil}
use lib.ListN.{length, length-append}
use Rattle.table.specs.Table.{put_at}
use Rattle.table.specs.Refusals.{most}
use Rattle.plan.specs.Plan.{padded}
use Rattle.plan.proofs.Padding.{padded_put}
use Rattle.field.specs.declared.Element.{Element}
use Rattle.runs.specs.declared.Phase.{Phase}
use Rattle.runs.specs.declared.Phase.TheVariants as phase
use Rattle.runs.specs.Reader.{started, opened, noted}
use Rattle.runs.specs.Inner.{marked_as}
use Rattle.runs.specs.State.{State}
use Rattle.runs.specs.Runs.{start, coordinate_by, is_opened, is_settled}
use Rattle.runs.proofs.Accepted.{Notes}
use Rattle.runs.proofs.Steps.{never, state, Placed, Keeps}

-- their words are ws
pub record Given (s : State) (ws : List ℕ) : Type 0 where
  pub coordinates : s.reader.session.plan.coordinates ≡ padded ws
  pub count : length ws ≡ 4 * s.reader.came
  pub none : is_opened s.reader.phase ≡ false → ws ≡ []
  pub narrow : s.reader.session.plan.k ≤ most
  pub within : s.reader.came ≤ s.reader.session.plan.k
  pub all : is_settled s.reader.phase ≡ true → s.reader.session.plan.k ≤ s.reader.came

-- no coordinate has come yet
fresh : (s : State) → s.reader.session.plan.coordinates ≡ padded [] → s.reader.came ≡ 0 → s.reader.session.plan.k ≤ most
    → is_settled s.reader.phase ≡ false → Given s []
fresh s c n k q =
    record {
      coordinates = c;
      count = omega (arith, n);
      none = λ z. refl;
      narrow = k;
      within = omega (arith, n);
      all = λ z. never (sym z ∙ q);
    }

pub given_start : (out last : List ℕ) → Given (start out last) []
unfolding started
given_start out last = fresh (start out last) refl refl (omega arith) refl

-- an accepted `02`
noted_keeps : (s : State) (j : ℕ) (x : Element) (ws : List ℕ) → Given s ws → s.reader.phase ≡ phase.Points → Notes s.reader j x
    → length x.c ≡ 4 → Given (state (noted s.reader j x) s.out s.last) (ws ++ x.c)
noted_keeps s j x ws i e h l =
    record {
      coordinates =
          ap (λ cs. put_at cs j x) i.coordinates
          ∙ padded_put ws j x (omega (arith, i.count, h.next)) (omega (arith, i.narrow, h.below)) l;
      count = length-append ws x.c ∙ omega (arith, i.count, l);
      none = λ q. never (sym (ap is_opened e) ∙ q);
      narrow = i.narrow;
      within = omega (arith, h.next, h.below);
      all = λ q. never (sym q ∙ ap is_settled e);
    }

-- an accepted `03` or `04`: another phase, and so many words taken
marked_keeps : (s : State) (ws : List ℕ) → Given s ws → Placed s.reader → (ph : Phase) → is_opened ph ≡ true → (taken : ℕ)
    (out last : List ℕ) → Given (state (marked_as s.reader ph taken) out last) ws
marked_keeps s ws i h ph o taken out last =
    record {
      coordinates = i.coordinates;
      count = i.count;
      none = λ q. never (sym o ∙ q);
      narrow = i.narrow;
      within = i.within;
      all = λ q. h.all;
    }

pub given_keeps : Keeps coordinate_by Given
given_keeps =
    record {
      opens = λ s o ws i e h. rw (i.none (ap is_opened e)) (fresh (state (opened o) _ _) refl refl h.narrow refl);
      notes = λ s j x ws i e h l. noted_keeps s j x ws i e h l;
      takes = λ s more ws i h w.
          rw append-nil (marked_keeps s ws i h phase.Words refl (s.reader.session.taken + length more) _ _);
      closes = λ s ws i h. rw append-nil (marked_keeps s ws i h phase.Done refl s.reader.session.taken _ _);
    }

-- from the first `03` or `04` on there are k of them
pub given_all : (s : State) (ws : List ℕ) → Given s ws → is_settled s.reader.phase ≡ true
    → length ws ≡ 4 * s.reader.session.plan.k
given_all s ws i q = omega (arith, i.count, i.within, i.all q)
