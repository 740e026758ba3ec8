-- The sum of the weights of the rows from one on, by the weight. Assumes nothing.
use mathlib.Core.Path.{◌≡◌, sym, ap, subst}
use Prim.Native.Nat.{ℕ, ◌-◌, ◌^◌, ◌≤◌, ◌<◌}
use native.Mathlib.Omega.{arith}
use mathlib.Core.Logic.{◌⊎◌, inl, inr}
use mathlib.Core.List.{List}
use lib.ListN.{length}
use Rattle.algebra.specs.Ring.{minus}
use Rattle.multilinear.specs.declared.Weight.{Weight}
use Rattle.multilinear.specs.declared.Weight.TheVariants.{Plain, Shifted, Next, Cyclic}
use Rattle.multilinear.specs.Equality.{eq_at}
use Rattle.multilinear.specs.Tails.{tail_at}
use Rattle.multilinear.proofs.Tails.{tail_laws}
use Rattle.field.specs.Field.{Ext, field, from_words, Holds}
use Rattle.field.specs.declared.Element.{Element}
use Rattle.field.proofs.Laws.{field_ring, read_as}
use Rattle.table.specs.Table.{elements}
use Rattle.table.proofs.Laws.{elements_length}

module _ (words : List ℕ) (k : ℕ) where
  abbrev zs : List Ext
  zs = elements words 0 k

  -- a row for each vertex of the coordinates
  pub all_rows : 2 ^ length zs ≡ 2 ^ k
  all_rows = ap (λ n. 2 ^ n) (elements_length words 0 k)

  module _ (weight : Weight) (row : ℕ) {r : Element} where
    -- no row is left
    pub none_left : 2 ^ k ≤ row → Holds r field.zero → Holds r (tail_at field weight zs row)
    none_left h z = subst (Holds r) (sym ((tail_laws field_ring).none weight zs row (rw all_rows h))) z

    pub plain : weight ≡ Plain → Holds r (tail_at field Plain zs row) → Holds r (tail_at field weight zs row)
    plain e h = rw e h

    -- from a row on that is not the first the cyclic weights are the shifted ones
    as_shifted : (weight ≡ Shifted) ⊎ (weight ≡ Cyclic) → 0 < row → Holds r (tail_at field Shifted zs row)
        → Holds r (tail_at field weight zs row)
    as_shifted (inl e) h d = rw e d
    as_shifted (inr e) h d = rw (e, (tail_laws field_ring).cyclic zs row h) d

    pub shifted : (weight ≡ Shifted) ⊎ (weight ≡ Cyclic) → 0 < row → row < 2 ^ k → {n last : ℕ} → n ≡ row - 1 → last ≡ 2 ^ k - 1 → {s t : Element}
        → Holds s (tail_at field Plain zs n) → Holds t (eq_at field zs last) → Holds r (minus field (from_words s) (from_words t))
        → Holds r (tail_at field weight zs row)
    shifted e some h q l hs ht d =
        let law = (tail_laws field_ring).shifted zs row (rw all_rows (omega arith)) in
        let m = ap (λ n. n - 1) all_rows in
        as_shifted e some (rw (law, m, sym l, sym q, sym (read_as _ hs), sym (read_as _ ht)) d)

    pub next : weight ≡ Next → row < 2 ^ k → {n : ℕ} → n ≡ row - 1 → Holds r (tail_at field Plain zs n)
        → Holds r (tail_at field weight zs row)
    next e h q d =
        let law = (tail_laws field_ring).next zs row (rw all_rows h) in
        rw (e, law, sym q) d
