-- The test of what is left of the table. Assumes nothing.
use mathlib.Core.Path.{◌≡◌, refl}
use mathlib.Core.Bool.{Bool, true, false}
use Prim.Native.Nat.{ℕ, ◌+◌, ◌-◌, ◌≤◌}
use native.Mathlib.Omega.{arith}
use lib.Dec.{ltb}
use borrow.Author.Tests.{ltb-true, ltb-false, lt-ltb, le-ltb}

-- what is left of the table is too little: a sum of sizes might wrap, and the difference does not
pub left_test : (rows full taken len : ℕ) → rows ≡ full → taken ≤ full → ltb (rows - taken) len ≡ ltb full (taken + len)
left_test rows full taken len e h = go (ltb full (taken + len)) refl
  where
    go : (b : Bool) → ltb full (taken + len) ≡ b → ltb (rows - taken) len ≡ b
    go true q = lt-ltb (rows - taken) len (omega (arith, ltb-true full (taken + len) q))
    go false q = le-ltb (rows - taken) len (omega (arith, ltb-false full (taken + len) q))
