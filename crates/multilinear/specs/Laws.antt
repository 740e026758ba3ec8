-- What a reader may hold the definitions to: statements over every commutative ring, proved in proofs/. Assumes nothing.
use Rattle.std.specs.Prelude.{◌≡◌, cond, ℕ, ◌+◌, ◌-◌, ◌*◌, ◌%◌, ◌^◌, ◌≤◌, ◌<◌, List, [], ◌∷◌, ◌++◌, reverse, eqb, length}
use Rattle.algebra.specs.Ring.{Ops, minus}
use Rattle.algebra.specs.Sum.{sum_to}
use Rattle.multilinear.specs.Equality.{reverse_bits, eq_at, eq_lsb_at, vertex_point}
use Rattle.multilinear.specs.Successors.{last_row, shifted_at, next_at, cyclic_at, eval_next}
use Rattle.multilinear.specs.Beside.{eval_eq, line}
use Rattle.multilinear.specs.Values.{value_at, next_value_at, cyclic_value_at}
use Rattle.multilinear.specs.declared.Side.{Side}
use Rattle.multilinear.specs.declared.Side.TheVariants.{Prefix}
use Rattle.multilinear.specs.declared.Weight.{Weight}
use Rattle.multilinear.specs.declared.Weight.TheVariants.{Plain, Shifted, Next, Cyclic}
use Rattle.multilinear.specs.Folds.{word_of, fold_at}
use Rattle.multilinear.specs.Tails.{tail_at}

pub record EqualityLaws {ℓ} {R : Type ℓ} (O : Ops R) : Type ℓ where
  -- eq sums to 1 over all rows
  pub total : (zs : List R) → sum_to O (2 ^ length zs) (eq_at O zs) ≡ O.one
  -- at the coordinates of a vertex eq is 1 at that row and 0 elsewhere
  pub vertex : (k v y : ℕ) → v < 2 ^ k → y < 2 ^ k → eq_at O (vertex_point O k v) y ≡ cond (eqb y v) O.one O.zero
  -- eq is affine in each coordinate
  pub affine : (before after : List R) (u v r : R) (y : ℕ)
      → eq_at O (before ++ line O u v r ∷ after) y ≡ line O (eq_at O (before ++ u ∷ after) y) (eq_at O (before ++ v ∷ after) y) r
  -- with coordinate 0 at the lowest bit eq is that of the reversed point, and the two tables are bit reversals of each other
  pub lowest_first : (zs : List R) (y : ℕ) → y < 2 ^ length zs → eq_lsb_at O zs y ≡ eq_at O (reverse zs) y
  pub reversal : (zs : List R) (y : ℕ) → y < 2 ^ length zs → eq_lsb_at O zs (reverse_bits (length zs) y) ≡ eq_at O zs y
  -- `eval_eq` is eq of the first point extended to the second
  pub extended : (ps qs : List R) → length ps ≡ length qs
      → sum_to O (2 ^ length ps) (λ y. O.mul (eq_at O ps y) (eq_at O qs y)) ≡ eval_eq O ps qs

pub record SuccessorLaws {ℓ} {R : Type ℓ} (O : Ops R) : Type ℓ where
  -- the first point's tables evaluated at the second
  pub shifted : (ss ts : List R) → length ss ≡ length ts
      → sum_to O (2 ^ length ss) (λ y. O.mul (eq_at O ts y) (shifted_at O ss y)) ≡ (eval_next O ss ts).done
  pub next : (ss ts : List R) → length ss ≡ length ts
      → sum_to O (2 ^ length ss) (λ y. O.mul (eq_at O ts y) (next_at O ss y)) ≡ O.add (eval_next O ss ts).done (eval_next O ss ts).omega
  pub cyclic : (ss ts : List R) → length ss ≡ length ts
      → sum_to O (2 ^ length ss) (λ y. O.mul (eq_at O ts y) (cyclic_at O ss y)) ≡ O.add (eval_next O ss ts).done (eval_next O ss ts).carry
  pub carry_is : (ss ts : List R) → length ss ≡ length ts
      → (eval_next O ss ts).carry ≡ O.mul (eq_at O ss (last_row O ss)) (eq_at O ts 0)
  pub omega_is : (ss ts : List R) → length ss ≡ length ts
      → (eval_next O ss ts).omega ≡ O.mul (eq_at O ss (last_row O ss)) (eq_at O ts (last_row O ts))
  -- the cyclic weights are the shifted ones with row 0 filled
  pub filled : (zs : List R) (y : ℕ) → cyclic_at O zs y ≡ cond (eqb y 0) (eq_at O zs (last_row O zs)) (shifted_at O zs y)
  -- each row's eq goes to the row that follows it, and the last row's to the first
  pub follows : (zs : List R) (y : ℕ) → y < 2 ^ length zs → cyclic_at O zs ((y + 1) % 2 ^ length zs) ≡ eq_at O zs y
  -- over one row the cyclic and the next weight are 1; over two rows the cyclic ones are eq turned round
  pub one_row : (cyclic_at O [] 0 ≡ O.one) × (next_at O [] 0 ≡ O.one)
  pub two_rows : (z : R) → (cyclic_at O (z ∷ []) 0 ≡ eq_at O (z ∷ []) 1) × (cyclic_at O (z ∷ []) 1 ≡ eq_at O (z ∷ []) 0)

pub record ValueLaws {ℓ} {R : Type ℓ} (O : Ops R) : Type ℓ where
  -- a table's value at a vertex is its entry
  pub entry : (k v : ℕ) (f : ℕ → R) → v < 2 ^ k → value_at O (vertex_point O k v) f ≡ f v
  -- fixing the first coordinate and then evaluating at the rest is evaluating at the whole point
  pub prefix : (z : R) (zs : List R) (f : ℕ → R) → value_at O zs (λ i. line O (f i) (f (2 ^ length zs + i)) z) ≡ value_at O (z ∷ zs) f
  -- and so is fixing the last
  pub suffix : (zs : List R) (z : R) (f : ℕ → R) → value_at O zs (λ i. line O (f (2 * i)) (f (2 * i + 1)) z) ≡ value_at O (zs ++ z ∷ []) f
  -- evaluation is linear in the table
  pub linear : (zs : List R) (a b : R) (f g : ℕ → R)
      → value_at O zs (λ y. O.add (O.mul a (f y)) (O.mul b (g y))) ≡ O.add (O.mul a (value_at O zs f)) (O.mul b (value_at O zs g))
  -- summing block by block, against the table of the first coordinates and that of the others, gives the same value
  pub split : (us vs : List R) (f : ℕ → R) → value_at O us (λ h. value_at O vs (λ l. f (h * 2 ^ length vs + l))) ≡ value_at O (us ++ vs) f
  -- the next value of one variable is entry 1
  pub next_of_one : (z : R) (f : ℕ → R) → next_value_at O (z ∷ []) f ≡ f 1
  -- the cyclic value is the value of the table whose rows are those that follow, the first after the last
  pub round : (zs : List R) (f : ℕ → R) → cyclic_value_at O zs f ≡ value_at O zs (λ y. f ((y + 1) % 2 ^ length zs))

pub record FoldLaws {ℓ} {R : Type ℓ} (O : Ops R) : Type ℓ where
  -- a fold by the next weights is the shifted one, plus scale·eq[N-1]·(word of row N-1)
  pub next : (side : Side) (inner : ℕ) (zs : List R) (scale : R) (f : ℕ → R) (i : ℕ)
      → fold_at O side Next inner zs scale f i
      ≡ O.add (fold_at O side Shifted inner zs scale f i)
      (O.mul (O.mul scale (eq_at O zs (last_row O zs))) (f (word_of side inner (2 ^ length zs) i (last_row O zs))))
  -- by the cyclic weights it is the shifted one, plus scale·eq[N-1]·(word of row 0)
  pub cyclic : (side : Side) (inner : ℕ) (zs : List R) (scale : R) (f : ℕ → R) (i : ℕ)
      → fold_at O side Cyclic inner zs scale f i
      ≡ O.add (fold_at O side Shifted inner zs scale f i)
      (O.mul (O.mul scale (eq_at O zs (last_row O zs))) (f (word_of side inner (2 ^ length zs) i 0)))
  -- and the plain sum over the rows of the words of the row that follows, the first after the last
  pub round : (side : Side) (inner : ℕ) (zs : List R) (scale : R) (f : ℕ → R) (i : ℕ)
      → fold_at O side Cyclic inner zs scale f i
      ≡ sum_to O (2 ^ length zs)
      (λ y. O.mul (O.mul scale (eq_at O zs y)) (f (word_of side inner (2 ^ length zs) i ((y + 1) % 2 ^ length zs))))
  -- a fold of all variables, on either side, is scale times the value
  pub whole : (side : Side) (zs : List R) (scale : R) (f : ℕ → R) → fold_at O side Plain 1 zs scale f 0 ≡ O.mul scale (value_at O zs f)
  -- c columns, column j of word w being word w·c + j: on the prefix side column j of place i is place i·c + j of a fold of inner·c places
  pub columns : (weight : Weight) (inner c : ℕ) (zs : List R) (scale : R) (f : ℕ → R) (i j : ℕ)
      → fold_at O Prefix weight inner zs scale (λ w. f (w * c + j)) i ≡ fold_at O Prefix weight (inner * c) zs scale f (i * c + j)

-- sums over the rows from row m on, by a product a coordinate
pub record TailLaws {ℓ} {R : Type ℓ} (O : Ops R) : Type ℓ where
  -- from a row of the lower half on: what is left of it, and all of the upper half, which is the coordinate times 1
  pub lower : (z : R) (zs : List R) (m : ℕ) → m < 2 ^ length zs
      → tail_at O Plain (z ∷ zs) m ≡ O.add (tail_at O Plain zs m) (O.mul z (minus O O.one (tail_at O Plain zs m)))
  -- from a row of the upper half on
  pub upper : (z : R) (zs : List R) (m : ℕ) → m < 2 ^ length zs
      → tail_at O Plain (z ∷ zs) (2 ^ length zs + m) ≡ O.mul z (tail_at O Plain zs m)
  -- the shifted weights are those of the row before, without eq[N-1], which no row has
  pub shifted : (zs : List R) (m : ℕ) → m ≤ 2 ^ length zs
      → tail_at O Shifted zs m ≡ minus O (tail_at O Plain zs (m - 1)) (eq_at O zs (last_row O zs))
  -- and the next weights have it, at row N-1
  pub next : (zs : List R) (m : ℕ) → m < 2 ^ length zs → tail_at O Next zs m ≡ tail_at O Plain zs (m - 1)
  -- from a row on that is not the first, the cyclic weights are the shifted ones; all of them sum to 1
  pub cyclic : (zs : List R) (m : ℕ) → 0 < m → tail_at O Cyclic zs m ≡ tail_at O Shifted zs m
  pub cyclic_all : (zs : List R) → tail_at O Cyclic zs 0 ≡ O.one
  -- no row is left
  pub none : (weight : Weight) (zs : List R) (m : ℕ) → 2 ^ length zs ≤ m → tail_at O weight zs m ≡ O.zero
  -- a place whose words are 0 before row m, and v from row m on, folds to scale·(the sum of these rows' weights)·v
  pub constant : (side : Side) (weight : Weight) (inner : ℕ) (zs : List R) (scale v : R) (f : ℕ → R) (i m : ℕ)
      → ((y : ℕ) → y < m → y < 2 ^ length zs → f (word_of side inner (2 ^ length zs) i y) ≡ O.zero)
      → ((y : ℕ) → m ≤ y → y < 2 ^ length zs → f (word_of side inner (2 ^ length zs) i y) ≡ v)
      → fold_at O side weight inner zs scale f i ≡ O.mul (O.mul scale (tail_at O weight zs m)) v
