-- What an accepted list of tests says of the operands. The call behind the tests ts has `tested : 0 ≡ verdict ts` from the test function's
-- answer, as `c.in_ok-test.ensures`.
--
--   what the code behind the tests asks for   let h = accepted _ tt tested in search says
--
-- `search` reads the facts `test ≡ false` off h, and makes whole records of them; a crate adds the laws of its own operands, as
-- `search (says, coordinates)`. Assumes nothing.
use mathlib.Core.Path.{◌≡◌, ap, ◌∙◌}
use mathlib.Core.Bool.{false, not}
use Prim.Native.Nat.{ℕ, ◌*◌, ◌^◌, ◌≤◌, ◌<◌}
use native.Mathlib.Omega.{arith}
use mathlib.Core.List.{List}
use lib.Dec.{eqb}
use lib.ListN.{length}
use borrow.Author.Tests.{ltb-false, leb-false}
use Rattle.table.specs.Table.{entries}
use Rattle.table.specs.Refusals.{Test, verdict, splits, miscounts, rows_differ, not_power, variables}
use Rattle.table.proofs.Powers.{power_of}
use Rattle.table.proofs.Tests.{whole, same}
use Rattle.table.proofs.Verdicts.{Numbered, Clear, clear}

-- no test of an accepted list holds
pub accepted : (ts : List Test) → Numbered ts → 0 ≡ verdict ts → Clear ts
accepted ts n h = clear ts n h

-- 1 and 4 do not hold: out has n elements, or a row for each vertex of k coordinates
pub counted : (out : List ℕ) (n : ℕ) → splits out ≡ false → miscounts out n ≡ false → length out ≡ 4 * n
counted out n a b = omega (arith, whole out a, same (entries out) n b)

pub room : (out : List ℕ) (k : ℕ) → splits out ≡ false → rows_differ out k ≡ false → length out ≡ 4 * 2 ^ k
room out k a b = counted out (2 ^ k) a b

-- words are n elements, or have them at the front
pub holds_all : (ws : List ℕ) (n : ℕ) → splits ws ≡ false → not (eqb (entries ws) n) ≡ false → 4 * n ≤ length ws
holds_all ws n a b = omega (arith, whole ws a, same (entries ws) n b)

-- 2 and 4 do not hold: a table of base words, and one of elements, has an entry for each vertex of k coordinates
pub base_rows : (count k : ℕ) → count < 2 ^ 64 → not_power count ≡ false → not (eqb (variables count) k) ≡ false → count ≡ 2 ^ k
base_rows count k b a c = power_of count b a ∙ ap (λ n. 2 ^ n) (same (variables count) k c)

pub ext_rows : (ws : List ℕ) (k : ℕ) → length ws < 2 ^ 64 → splits ws ≡ false → not_power (entries ws) ≡ false
    → not (eqb (variables (entries ws)) k) ≡ false → length ws ≡ 4 * 2 ^ k
ext_rows ws k b s a c = omega (arith, whole ws s, base_rows (entries ws) k (omega (arith, whole ws s)) a c)

pub ruleset says = (ltb-false, leb-false, room, holds_all, base_rows, ext_rows)
