-- What a shifted fold answers: by the tests of sizes, and then by the others. Assumes nothing.
use mathlib.Core.Path.{◌≡◌}
use Prim.Native.Nat.{ℕ, ◌/◌, ◌≤◌}
use mathlib.Core.List.{List}
use lib.ListN.{length}
use borrow.Author.Tests.{ltb-false}
use Rattle.octets.specs.Octets.{words}
use Rattle.octets.proofs.Octets.{words_length}
use Rattle.table.specs.Table.{entries}
use Rattle.table.specs.Refusals.{number, verdict, most, variables}
use Rattle.table.specs.declared.Refusal.{Refusal}
use Rattle.table.proofs.Verdicts.{clear}
use Rattle.table.proofs.Fronts.{front_refused, front_passed}
use Rattle.ward.specs.declared.shifted.Fold.{Fold}
use Rattle.ward.specs.Ward.{fold_answer}
use Rattle.ward.specs.Inner.{size_tests, other_tests, Sized}

module _ (fold : Fold) (work out : List ℕ) where
  abbrev whole : ℕ
  whole = fold_answer fold.table.now fold.point.now fold.scale work out

  pub refused_by_size : (r : Refusal) → number r ≡ verdict (size_tests fold work out) → number r ≡ whole
  unfolding fold_answer
  refused_by_size r h = front_refused (size_tests fold work out) (other_tests fold work out) tt r h

  pub by_others : 0 ≡ verdict (size_tests fold work out) → {n : ℕ} → n ≡ verdict (other_tests fold work out) → n ≡ whole
  unfolding fold_answer
  by_others h q = front_passed (size_tests fold work out) (other_tests fold work out) tt h q

  -- at most 20 variables, and at most 20 coordinates
  pub few : Sized fold work out → (variables (length fold.table.now / 4) ≤ most) × (length fold.point.now / 4 / 4 ≤ most)
  few s =
      let many = (clear (size_tests fold work out) tt s.accepted).1.1.1.1.1 in (
        rw (← words_length fold.table.now) (ltb-false most (variables (length (words fold.table.now))) many.0),
        rw (← words_length fold.point.now) (ltb-false most (entries (words fold.point.now)) many.1.0),
      )
