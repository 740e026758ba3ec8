-- A call on bytes, by its tests of sizes and then by the answer of the call on words: what it answers, and what out is then. Assumes
-- nothing.
use mathlib.Core.Path.{◌≡◌, sym, ap, ◌∙◌}
use Prim.Native.Nat.{ℕ}
use mathlib.Core.List.{List, [], ◌++◌}
use lib.ListN.{length}
use Rattle.std.specs.Prelude.{Ok, Err}
use Rattle.octets.specs.Octets.{words, octets}
use Rattle.algebra.specs.Words.{words_of}
use Rattle.multilinear.specs.Equality.{eq_at}
use Rattle.multilinear.specs.Successors as successors
use Rattle.field.specs.Field.{field}
use Rattle.field.specs.declared.Element.{Element}
use Rattle.table.specs.Table.{point_of}
use Rattle.table.specs.Refusals.{number, outcome, Outcome, alone, verdict, leaves, given}
use Rattle.table.specs.declared.Refusal.{Refusal}
use Rattle.table.proofs.Outcomes.{refused_leaves, accepted_leaves}
use Rattle.table.proofs.Fronts.{front_refused}
use Rattle.table.proofs.Verdicts.{clear}
use Rattle.point.specs.Point as on-words
use Rattle.next.specs.declared.parts.Parts.{Parts}
use Rattle.next.specs.Next.{pair_tests, part_words, next_outcome, eval_next_answer}
use Rattle.byte_points.specs.BytePoints.{vertex_sizes, vertex_words, vertex_tests, vertex_answer, vertex_out, next_sizes, next_words, next_tests, next_answer, next_out}
use Rattle.byte_points.specs.Few.{Few}
use Rattle.byte_points.proofs.Sizes.{whole_words, few, sized}

-- a call of the number n leaves `new` in out
module _ (n : ℕ) (new out : List ℕ) where
  refused : (r : Refusal) → number r ≡ n → (n ≡ number r) × (leaves n (octets new) out ≡ out)
  refused r h = (sym h, refused_leaves n r h (octets new) out)

  -- the answer on words, whose tests have this number
  refused_on_words : (r : Refusal) → alone (number r) ≡ given n new → (n ≡ number r) × (leaves n (octets new) out ≡ out)
  refused_on_words r q = refused r (ap (λ (o : Outcome). o.number) q)

  valued : (us : List ℕ) → record { number = 0; words = us } ≡ given n new → (n ≡ 0) × (leaves n (octets new) out ≡ octets us)
  valued us q =
      let z : 0 ≡ n = ap (λ (o : Outcome). o.number) q in (
        sym z,
        accepted_leaves n z (octets new) out
            ∙ ap octets (sym (ap (λ (o : Outcome). o.words) q ∙ ap (λ m. leaves m new []) (sym z))),
      )

module _ (point : List ℕ) (y : ℕ) (out : List ℕ) where
  abbrev value : List ℕ
  value = words_of (eq_at field (point_of (words point)) y)

  -- the tests of sizes do not hold: the tests on words have the same number
  vertex_same : 0 ≡ verdict (vertex_sizes point out) → verdict (on-words.vertex_tests (words point) y) ≡ verdict (vertex_tests point y out)
  unfolding verdict
  vertex_same e = let h = clear (vertex_sizes point out) tt e in rw (whole_words point h.0, h.0, h.1.0, h.1.1.0, h.1.1.1.0)

  pub vertex_by_size : (r : Refusal) → number r ≡ verdict (vertex_sizes point out)
      → (vertex_answer point y out ≡ number r) × (vertex_out point y out ≡ out)
  unfolding vertex_answer vertex_out
  vertex_by_size r h =
      refused (verdict (vertex_tests point y out)) value out r (front_refused (vertex_sizes point out) (vertex_words point y) tt r h)

  pub vertex_refused : (r : Refusal) → 0 ≡ verdict (vertex_sizes point out) → outcome (Err r) ≡ on-words.vertex_answer (words point) y
      → (vertex_answer point y out ≡ number r) × (vertex_out point y out ≡ out)
  unfolding vertex_answer vertex_out on-words.vertex_answer
  vertex_refused r h q = refused_on_words (verdict (vertex_tests point y out)) value out r (rw (vertex_same h) at q)

  pub vertex_valued : (v : Element) → 0 ≡ verdict (vertex_sizes point out) → outcome (Ok v) ≡ on-words.vertex_answer (words point) y
      → (vertex_answer point y out ≡ 0) × (vertex_out point y out ≡ octets v.c)
  unfolding vertex_answer vertex_out on-words.vertex_answer
  vertex_valued v h q = valued (verdict (vertex_tests point y out)) value out v.c (rw (vertex_same h) at q)

  pub vertex_ready : 0 ≡ verdict (vertex_sizes point out) → Few point × (length out ≡ 16)
  vertex_ready e =
      let h = clear (vertex_sizes point out) tt e in
      (few point h.0 h.1.1.0, sized out h.1.0 1 h.1.1.1.0)

pub ruleset vertex = (vertex_by_size, vertex_refused, vertex_valued, vertex_ready)

module _ (point other out : List ℕ) where
  abbrev parts : List ℕ
  parts = part_words (successors.eval_next field (point_of (words point)) (point_of (words other)))

  next_same : 0 ≡ verdict (next_sizes point other out)
      → verdict (pair_tests (words point) (words other)) ≡ verdict (next_tests point other out)
  unfolding verdict
  next_same e =
      let h = clear (next_sizes point other out) tt e in
      let many = h.1.1.1 in
      rw (whole_words point h.0, whole_words other h.1.0, h.0, h.1.0, h.1.1.0, many.0, many.1.0, many.1.1.0, many.1.1.1.0)

  pub next_by_size : (r : Refusal) → number r ≡ verdict (next_sizes point other out)
      → (next_answer point other out ≡ number r) × (next_out point other out ≡ out)
  unfolding next_answer next_out
  next_by_size r h =
      refused (verdict (next_tests point other out)) parts out r
      (front_refused (next_sizes point other out) (next_words point other) tt r h)

  pub next_refused : (r : Refusal) → 0 ≡ verdict (next_sizes point other out)
      → next_outcome (Err r) ≡ eval_next_answer (words point) (words other)
      → (next_answer point other out ≡ number r) × (next_out point other out ≡ out)
  unfolding next_answer next_out eval_next_answer
  next_refused r h q = refused_on_words (verdict (next_tests point other out)) parts out r (rw (next_same h) at q)

  pub next_valued : (x : Parts) → 0 ≡ verdict (next_sizes point other out)
      → next_outcome (Ok x) ≡ eval_next_answer (words point) (words other)
      → (next_answer point other out ≡ 0) × (next_out point other out ≡ octets (x.carry.c ++ x.done.c ++ x.omega.c))
  unfolding next_answer next_out eval_next_answer
  next_valued x h q = valued (verdict (next_tests point other out)) parts out (x.carry.c ++ x.done.c ++ x.omega.c) (rw (next_same h) at q)

  pub next_ready : 0 ≡ verdict (next_sizes point other out) → (Few point × Few other) × (length out ≡ 48)
  next_ready e =
      let h = clear (next_sizes point other out) tt e in
      let many = h.1.1.1 in
      ((few point h.0 many.0, few other h.1.0 many.1.0), sized out h.1.1.0 3 many.1.1.1.0)

pub ruleset next = (next_by_size, next_refused, next_valued, next_ready)
