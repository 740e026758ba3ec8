-- What holds after every list of lines (specs/Runs.antt). Assumes nothing.
use mathlib.Core.Path.{refl}
use Prim.Native.Nat.{ℕ}
use mathlib.Core.List.{List, []}
use Rattle.runs.specs.Runs.{start, Rooms, after, opening_by, words_by, coordinate_by, index_by, openings, joined, given, indices, Runs}
use Rattle.runs.proofs.Steps.{lines_keep}
use Rattle.runs.proofs.Opened.{Opened, opened_start, opened_keeps}
use Rattle.runs.proofs.Counted.{Counted, counted_start, counted_keeps}
use Rattle.runs.proofs.Folded.{Folded, folded_start, folded_keeps}
use Rattle.runs.proofs.Given.{Given, given_start, given_keeps, given_all}
use Rattle.runs.proofs.Indexed.{Indexed, indexed_start, indexed_keeps, rising}

module _ (ls : List (List ℕ)) (out last : List ℕ) where
  opened : Opened (after ls (start out last)) (openings ls (start out last))
  opened =
      lines_keep opening_by Opened opened_keeps openings (λ s. refl) (λ l ls s. refl) ls (start out last) [] (opened_start out last)

  counted : Counted (after ls (start out last)) (joined ls (start out last))
  counted =
      lines_keep words_by Counted counted_keeps joined (λ s. refl) (λ l ls s. refl) ls (start out last) [] (counted_start out last)

  folded : Rooms out last → Folded (after ls (start out last)) (joined ls (start out last))
  folded l =
      lines_keep words_by Folded folded_keeps joined (λ s. refl) (λ l ls s. refl) ls (start out last) [] (folded_start out last l)

  were_given : Given (after ls (start out last)) (given ls (start out last))
  were_given =
      lines_keep coordinate_by Given given_keeps given (λ s. refl) (λ l ls s. refl) ls (start out last) [] (given_start out last)

  indexed : Indexed (after ls (start out last)) (indices ls (start out last))
  indexed =
      lines_keep index_by Indexed indexed_keeps indices (λ s. refl) (λ l ls s. refl) ls (start out last) [] (indexed_start out last)

pub runs : Runs
runs =
    record {
      unopened = λ ls out last q. (opened ls out last).none q;
      opened_by = λ ls out last q. (opened ls out last).held q;
      one_column = λ ls out last. (counted ls out last).one;
      folds = λ ls out last l q d. (folded ls out last l).folds q d;
      pads = λ ls out last l d. (folded ls out last l).pads d;
      takes = λ ls out last. (counted ls out last).count;
      rising = λ ls out last. rising _ _ (indexed ls out last);
      in_order = λ ls out last. (were_given ls out last).coordinates;
      none_missing = λ ls out last q. given_all _ _ (were_given ls out last) q;
    }
