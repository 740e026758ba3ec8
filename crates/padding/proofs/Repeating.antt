-- The last row repeated: the places before a part of a row lack a row less than the others. Assumes nothing.
use mathlib.Core.Path.{◌≡◌, sym, ap, ap₂, ◌∙◌}
use Prim.Native.Nat.{ℕ, suc, ◌+◌, ◌-◌, ◌*◌, ◌/◌, ◌%◌, ◌≤◌, ◌<◌}
use native.Mathlib.Nat.{mul-le-mul_right, div-add-mod', mod-lt}
use native.Mathlib.Omega.{arith}
use mathlib.Core.List.{List}
use lib.ListN.{get_or}
use Rattle.multilinear.specs.declared.Side.TheVariants.{Prefix}
use Rattle.field.specs.Field.{field, base, from_words, Holds}
use Rattle.field.specs.declared.Element.{Element}
use Rattle.field.proofs.Laws.{read_as}
use Rattle.table.specs.Gained.{Gained}
use Rattle.table.proofs.Gaining.{gained_as, gained_table, blocks}
use Rattle.plan.specs.declared.Plan.{Plan}
use Rattle.plan.specs.Plan.{width, gained_by}
use Rattle.plan.proofs.Columns.{some_width}
use Rattle.padding.specs.Last.{missing_words, Pads}
use Rattle.padding.specs.Inner.{scaled_tail}
use Rattle.padding.proofs.Missing.{gain, gain_is}

-- words in rows of `inner`, of which `taken` came: those of a place that are before word `taken`
module _ (inner taken i : ℕ) (h : i < inner) where
  q : taken / inner * inner + taken % inner ≡ taken
  q = div-add-mod' taken inner

  r : taken % inner < inner
  r = mod-lt taken (omega (arith, h))

  part_before : i < taken % inner → (y : ℕ) → y < taken / inner + 1 → y * inner + i < taken
  part_before b y l =
      let m : y * inner ≤ taken / inner * inner = mul-le-mul_right {m = y} {n = taken / inner} inner (omega arith) in
      omega (arith, q, m)

  part_behind : (y : ℕ) → taken / inner + 1 ≤ y → taken ≤ y * inner + i
  part_behind y l =
      let m : (taken / inner + 1) * inner ≤ y * inner = mul-le-mul_right inner l in
      omega (arith, q, r, m)

  rest_before : (y : ℕ) → y < taken / inner → y * inner + i < taken
  rest_before y l = let m : suc y * inner ≤ taken / inner * inner = mul-le-mul_right inner l in omega (arith, q, m)

  rest_behind : taken % inner ≤ i → (y : ℕ) → taken / inner ≤ y → taken ≤ y * inner + i
  rest_behind b y l = let m : taken / inner * inner ≤ y * inner = mul-le-mul_right inner l in omega (arith, q, m)

-- the places before the part gain the rows after the one that was begun, and the others that one too
module _ {plan : Plan} {taken : ℕ} {last out : List ℕ} (a : Pads plan taken last out) (s : plan.side ≡ Prefix)
    (b : width plan ≤ taken) {v u : Element} (hv : Holds v (scaled_tail plan (taken / width plan + 1)))
    (hu : Holds u (scaled_tail plan (taken / width plan))) where
  abbrev part : ℕ
  part = taken % width plan

  fits : part < width plan
  fits = mod-lt taken (some_width a.sound)

  low : (y : ℕ) → y < part → field.mul (from_words v) (base (get_or last (0 + y) 0)) ≡ gain plan taken last y
  low y h =
      let z : 0 + y ≡ y = omega arith in
      let l : y < width plan = omega (arith, fits) in
      ap₂ (λ x n. field.mul x (base (get_or last n 0))) (read_as _ hv) z
      ∙ sym
      (gain_is plan taken last s b a.sound (taken / width plan + 1) y l (part_before (width plan) taken y l h)
      (part_behind (width plan) taken y l))

  high : (y : ℕ) → y < width plan - part
      → field.mul (from_words u) (base (get_or last (part + y) 0)) ≡ gain plan taken last (part + y)
  high y h =
      let l : part + y < width plan = omega (arith, fits) in
      ap (λ x. field.mul x (base (get_or last (part + y) 0))) (read_as _ hu)
      ∙ sym
      (gain_is plan taken last s b a.sound (taken / width plan) (part + y) l (rest_before (width plan) taken (part + y) l)
      (rest_behind (width plan) taken (part + y) l (omega arith)))

  joined : {w w' : List ℕ} → Gained 0 (part - 0) (λ y. field.mul (from_words v) (base (get_or last (0 + y) 0))) out w
      → Gained part (width plan - part) (λ y. field.mul (from_words u) (base (get_or last (part + y) 0))) w w'
      → w' ≡ gained_by plan taken (missing_words plan taken last) out
  joined {w} {w'} d e =
      let z : part - 0 ≡ part = omega arith in
      let o : 0 + part ≡ part = omega arith in
      let n : part + (width plan - part) ≡ width plan = omega (arith, fits) in
      let left : Gained 0 part (gain plan taken last) out w = gained_as _ (rw z at d) low in
      let all = blocks 0 part (width plan - part) _ (gain plan taken last) out w w' left (rw o e) high in
      gained_table (width plan) (gain plan taken last) out w' (rw n at all) a.room

-- with the code's number of places
module _ {plan : Plan} {taken : ℕ} {last out : List ℕ} (a : Pads plan taken last out) {inner : ℕ} (i : inner ≡ width plan) where
  pub repeated : plan.side ≡ Prefix → inner ≤ taken → {v u : Element} {w w' : List ℕ} → Holds v (scaled_tail plan (taken / inner + 1))
      → Gained 0 (taken % inner - 0) (λ y. field.mul (from_words v) (base (get_or last (0 + y) 0))) out w
      → Holds u (scaled_tail plan (taken / inner))
      → Gained (taken % inner) (inner - taken % inner) (λ y. field.mul (from_words u) (base (get_or last (taken % inner + y) 0))) w w'
      → w' ≡ gained_by plan taken (missing_words plan taken last) out
  repeated s b hv d hu e = joined a s (rw i at b) (rw i at hv) (rw i at hu) (rw i at d) (rw i at e)
