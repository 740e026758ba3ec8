-- A table of 2^k words or elements passes the tests of its sizes. Assumes nothing.
use Rattle.std.proofs.Common.{◌≡◌, ap, ◌∙◌, ℕ, ◌*◌, ◌%◌, ◌^◌, ◌≤◌, false, not, List, length, eq-eqb, le-ltb, arith}
use Rattle.table.specs.Table.{entries}
use Rattle.table.specs.Refusals.{most, splits, rows_differ, not_power, variables, too_many_variables}
use Rattle.table.proofs.Powers.{power_bit, power_zeros}

-- a count of 2^k
module _ (k count : ℕ) (few : k ≤ most) (is : count ≡ 2 ^ k) where
  -- is a power of two
  pub one_power : not_power count ≡ false
  one_power = ap not_power is ∙ ap not (eq-eqb _ 1 (power_bit k))

  -- of k variables
  pub variables_are : variables count ≡ k
  variables_are = ap variables is ∙ power_zeros 64 k (omega arith)

  -- which are not too many
  pub few_variables : too_many_variables count ≡ false
  few_variables = le-ltb most (variables count) (omega (arith, variables_are))

-- the words of 2^k elements
module _ (k : ℕ) (ws : List ℕ) (l : length ws ≡ 4 * 2 ^ k) where
  -- are four to an element
  pub whole_elements : splits ws ≡ false
  whole_elements = ap not (eq-eqb (length ws % 4) 0 (omega arith))

  -- and a row for each vertex of k coordinates
  pub as_many_rows : rows_differ ws k ≡ false
  as_many_rows = let e : entries ws ≡ 2 ^ k = omega arith in ap not (eq-eqb (entries ws) (2 ^ k) e)
