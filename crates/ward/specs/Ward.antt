-- The C calls of the shifted folds (document 01, "Beside these": words as four bytes, lowest first): what each answers and leaves, over
-- the words of its bytes. Those on points are in `BytePoints`. Assumes nothing.
use Rattle.std.specs.Prelude.{ℕ, ◌%◌, Bool, not, List, [], ◌∷◌, ◌++◌, eqb, length}
use Rattle.octets.specs.Octets.{words, octets}
use Rattle.multilinear.specs.declared.Side.{Side}
use Rattle.multilinear.specs.declared.Weight.TheVariants.{Shifted}
use Rattle.field.specs.declared.Element.{Element}
use Rattle.table.specs.Refusals.{Test, ◌gives◌, verdict, leaves}
use Rattle.split_tests.specs.SplitTests.{sized_fold_tests}
use Rattle.split_eq.specs.Split.{folded, both_tables}
use Rattle.byte_points.specs.BytePoints.{splits_element}

-- "a byte count that splits a word or an element is 1": a word; an element is `splits_element` of `BytePoints`
abbrev pub splits_word : List ℕ → Bool
splits_word bs = not (eqb (length bs % 4) 0)

-- "scale is four numbers"
abbrev pub scale_of : ℕ → ℕ → ℕ → ℕ → Element
scale_of s0 s1 s2 s3 = record { c = s0 ∷ s1 ∷ s2 ∷ s3 ∷ [] }

-- the shifted folds: 1
abbrev pub fold_splits : List ℕ → List ℕ → List ℕ → List ℕ → List Test
fold_splits table point work out =
    splits_word table gives 1
    ∷ splits_element point gives 1
    ∷ splits_element work gives 1
    ∷ splits_element out gives 1
    ∷ []

-- and 2, 3, 4, 5 as on words
abbrev pub fold_tests : List ℕ → List ℕ → Element → List ℕ → List ℕ → List Test
fold_tests table point scale work out =
    fold_splits table point work out ++ sized_fold_tests (words table) (words point) scale (words work) (words out)

unfoldable pub fold_answer : List ℕ → List ℕ → Element → List ℕ → List ℕ → ℕ
fold_answer table point scale work out = verdict (fold_tests table point scale work out)

unfoldable pub fold_work : List ℕ → List ℕ → Element → List ℕ → List ℕ → List ℕ
fold_work table point scale work out = leaves (fold_answer table point scale work out) (octets (both_tables (words point) scale)) work

unfoldable pub fold_out : Side → List ℕ → List ℕ → Element → List ℕ → List ℕ → List ℕ
fold_out side table point scale work out =
    leaves (fold_answer table point scale work out) (octets (folded side Shifted (words table) (words point) scale)) out
