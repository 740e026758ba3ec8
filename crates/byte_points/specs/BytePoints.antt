-- The C calls on points (document 01, "Beside these": words as four bytes, lowest first): what each answers and leaves, over the words
-- of its bytes. Assumes nothing.
use Rattle.std.specs.Prelude.{ℕ, ◌^◌, ◌%◌, Bool, not, List, [], ◌∷◌, ◌++◌, eqb, leb, length}
use Rattle.octets.specs.Octets.{words, octets}
use Rattle.algebra.specs.Words.{words_of, unreduced}
use Rattle.multilinear.specs.Equality.{eq_at}
use Rattle.multilinear.specs.Successors.{eval_next}
use Rattle.field.specs.Field.{p, field}
use Rattle.table.specs.Table.{entries, point_of}
use Rattle.table.specs.Refusals.{Test, ◌gives◌, verdict, leaves, too_many}
use Rattle.next.specs.Next.{part_words}

-- "a byte count that splits a word or an element is 1": an element
abbrev pub splits_element : List ℕ → Bool
splits_element bs = not (eqb (length bs % 16) 0)

-- 4: out has another count of elements
abbrev pub elements_differ : List ℕ → ℕ → Bool
elements_differ out n = not (eqb (entries (words out)) n)

-- the vertex: 1, 3, 4 (an out of one element), 5, 7. By sizes
abbrev pub vertex_sizes : List ℕ → List ℕ → List Test
vertex_sizes point out =
    splits_element point gives 1
    ∷ splits_element out gives 1
    ∷ too_many (words point) gives 3
    ∷ elements_differ out 1 gives 4
    ∷ []

-- by words
abbrev pub vertex_words : List ℕ → ℕ → List Test
vertex_words point y = unreduced p (words point) gives 5 ∷ leb (2 ^ entries (words point)) y gives 7 ∷ []

abbrev pub vertex_tests : List ℕ → ℕ → List ℕ → List Test
vertex_tests point y out = vertex_sizes point out ++ vertex_words point y

unfoldable pub vertex_answer : List ℕ → ℕ → List ℕ → ℕ
vertex_answer point y out = verdict (vertex_tests point y out)

unfoldable pub vertex_out : List ℕ → ℕ → List ℕ → List ℕ
vertex_out point y out = leaves (vertex_answer point y out) (octets (words_of (eq_at field (point_of (words point)) y))) out

-- `eval_next`: 1, 3, 4 (the points, and an out of three elements), 5. By sizes
abbrev pub next_sizes : List ℕ → List ℕ → List ℕ → List Test
next_sizes point other out =
    splits_element point gives 1
    ∷ splits_element other gives 1
    ∷ splits_element out gives 1
    ∷ too_many (words point) gives 3
    ∷ too_many (words other) gives 3
    ∷ not (eqb (entries (words point)) (entries (words other))) gives 4
    ∷ elements_differ out 3 gives 4
    ∷ []

-- by words
abbrev pub next_words : List ℕ → List ℕ → List Test
next_words point other = unreduced p (words point) gives 5 ∷ unreduced p (words other) gives 5 ∷ []

abbrev pub next_tests : List ℕ → List ℕ → List ℕ → List Test
next_tests point other out = next_sizes point other out ++ next_words point other

unfoldable pub next_answer : List ℕ → List ℕ → List ℕ → ℕ
next_answer point other out = verdict (next_tests point other out)

-- carry, done, omega
unfoldable pub next_out : List ℕ → List ℕ → List ℕ → List ℕ
next_out point other out =
    leaves (next_answer point other out) (octets (part_words (eval_next field (point_of (words point)) (point_of (words other))))) out
