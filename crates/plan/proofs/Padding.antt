-- The front of zeros, and a coordinate put behind those that were given. Assumes nothing.
use mathlib.Core.Path.{◌≡◌, sym, ap, ap₂, ◌∙◌}
use Prim.Native.Nat.{ℕ, ◌+◌, ◌-◌, ◌*◌, ◌≤◌, ◌<◌}
use native.Mathlib.Omega.{arith}
use mathlib.Core.List.{List, ◌++◌}
use lib.ListN.{length, take, drop, replicate, length-append, length-replicate, replicate-append-replicate}
use lib.Seq.{take_at, drop-append-add}
use Rattle.field.specs.declared.Element.{Element}
use Rattle.table.specs.Table.{put_at}
use Rattle.table.specs.Refusals.{most}
use Rattle.table.proofs.Parts.{put_parts}
use Rattle.table.proofs.Copying.{drop_zeros}
use Rattle.plan.specs.Plan.{padded}

pub take_zeros : (m n : ℕ) → m ≤ n → take {A = ℕ} m (replicate n 0) ≡ replicate m 0
take_zeros m n h =
    let q : m + (n - m) ≡ n = omega arith in
    ap (λ k. take m (replicate k 0)) (sym q) ∙ ap (take m) (sym (replicate-append-replicate m (n - m) 0))
    ∙ take_at (replicate m 0) (replicate (n - m) 0) m (length-replicate m 0)

-- element i put behind i elements
module _ (ws : List ℕ) (i : ℕ) (e : Element) (l : length ws ≡ 4 * i) (h : i < most) (four : length e.c ≡ 4) where
  abbrev zeros : List ℕ
  zeros = replicate (4 * most - length ws) 0

  room : 4 * i + 4 ≤ length (padded ws)
  room = omega (arith, length-append ws zeros, length-replicate {A = ℕ} (4 * most - length ws) 0)

  -- the zeros behind it
  behind : drop (4 * i + 4) (padded ws) ≡ replicate (4 * most - length (ws ++ e.c)) 0
  behind =
      let n : length (ws ++ e.c) ≡ 4 * i + 4 = length-append ws e.c ∙ omega arith in
      let q : 4 * most - length ws - 4 ≡ 4 * most - length (ws ++ e.c) = omega (arith, n) in
      ap (λ k. drop (k + 4) (padded ws)) (sym l) ∙ drop-append-add ws zeros 4 ∙ drop_zeros 4 (4 * most - length ws)
      ∙ ap (λ k. replicate k 0) q

  pub padded_put : put_at (padded ws) i e ≡ padded (ws ++ e.c)
  padded_put =
      put_parts (padded ws) i e room four ∙ ap₂ (λ x y. x ++ e.c ++ y) (take_at ws zeros (4 * i) l) behind
