-- The sums of numbers taken a quarter apart: parts of q numbers each, side by side, are all the numbers of the parts. Assumes nothing.
use mathlib.Core.Path.{◌≡◌, refl, sym, ap, ap₂}
use Prim.Native.Nat.{ℕ, zero, suc, ◌+◌, ◌*◌, ◌≤◌, ◌<◌}
use native.Mathlib.Nat.{add-zero, zero-add, zero-mul, suc-mul, mul-add, mul-one, mul_comm, mul-le-mul_right}
use native.Mathlib.Numerals.{add-one}
use native.Mathlib.Omega.{arith}
use mathlib.Core.List.{List}
use Rattle.dots.specs.declared.halves.Halves.{Halves}
use Rattle.dots.specs.Inner.{value, Within, Each, EachGrown, Room, at, run, apart, Apart, EachApart, Spanned, most_gains}
use Rattle.dots.proofs.Summing.{kept_none, kept_room}

run_none : (f : ℕ → ℕ) (a : ℕ) → run f a 0 ≡ 0
unfolding run
run_none f a = refl

-- numbers one after the other
run_append : (f : ℕ → ℕ) (a m n : ℕ) → run f a (m + n) ≡ run f a m + run f (a + m) n
unfolding run
run_append f a m zero = omega (arith, ap (run f a) (add-zero m))
run_append f a m (suc n) =
    let e : m + suc n ≡ suc (m + n) = omega arith in
    let i : f (a + (m + n)) ≡ f (a + m + n) = ap f (omega arith) in
    rw e (omega (arith, run_append f a m n, i))

module _ (f : ℕ → ℕ) (q a : ℕ) where
  -- the first j numbers of each of m parts of q
  unfoldable pub columns : ℕ → ℕ → ℕ
  columns zero j = 0
  columns (suc m) j = columns m j + run f (a + q * m) j

  columns_none : (m : ℕ) → columns m 0 ≡ 0
  unfolding columns run
  columns_none zero = refl
  columns_none (suc m) = omega (arith, columns_none m)

  columns_more : (m j : ℕ) → columns m (suc j) ≡ columns m j + apart f q (a + j) m
  unfolding columns run apart
  columns_more zero j = refl
  columns_more (suc m) j =
      let i : f (a + q * m + j) ≡ f (a + j + q * m) = ap f (omega (arith)) in
      omega (arith, columns_more m j, i)

  columns_all : (m : ℕ) → columns m q ≡ run f a (m * q)
  unfolding columns
  columns_all zero = rw (zero-mul q) (sym (run_none f a))
  columns_all (suc m) =
      let i : run f (a + q * m) q ≡ run f (a + m * q) q = ap (λ n. run f (a + n) q) (mul_comm q m) in
      rw (suc-mul m q) (omega (arith, columns_all m, run_append f a (m * q) q, i))

-- halves with what they gained
within_more : (n m : ℕ) (h : Halves) → n ≤ m → Within n h → Within m h
unfolding Within
within_more n m h l w = omega (arith, w)

-- the four sums are those of the first `start` numbers of each coordinate, and of the first j of each of m parts of q after them
pub record Begun (f : ℕ → ℕ → ℕ) (q start m j : ℕ) (sums : List Halves) : Type 0 where
  pub is : (k : ℕ) → k < 4 → value (at sums k) ≡ run (f k) 0 start + columns (f k) q start m j
  pub within : (k : ℕ) → k < 4 → Within (start + m * j) (at sums k)

module _ {f : ℕ → ℕ → ℕ} {q start : ℕ} (m : ℕ) where
  pub begin : {s : List Halves} → Spanned f start s → Begun f q start m 0 s
  begin {s} u =
      record {
        is = λ k l. omega (arith, (u.each k l).is, columns_none (f k) q start m);
        within = λ k l. within_more start (start + m * 0) _ (omega arith) (u.each k l).within;
      }

  module _ {j : ℕ} {s : List Halves} (u : Begun f q start m j s) where
    pub room : start + m * j ≤ most_gains → Room 4 s
    room l = record { each = λ k b. within_more (start + m * j) most_gains _ l (u.within k b) }

    pub turn : 0 < m → {xs : List ℕ} {r : List Halves} → EachApart f m q (start + j) xs → EachGrown 4 s xs r → Begun f q start m (j + 1) r
    turn z {xs} {r} e g =
        record {
          is = λ k b.
              let v = columns_more (f k) q start m j in
              rw (add-one j) (omega (arith, (g.each k b).more, u.is k b, v, e.each k b));
          within = λ k b.
              let l : start + m * j + 1 ≤ start + m * (j + 1) = omega (arith, mul-add m j 1, mul-one m) in
              within_more (start + m * j + 1) (start + m * (j + 1)) _ l ((g.each k b).within (start + m * j) (u.within k b));
        }

    pub ended : j ≡ q → Spanned f (start + m * q) s
    ended e =
        record {
          each = λ k b.
              record {
                is =
                    let v : columns (f k) q start m j ≡ run (f k) start (m * q) = rw e (columns_all (f k) q start m) in
                    let z : run (f k) (0 + start) (m * q) ≡ run (f k) start (m * q) = ap (λ n. run (f k) n (m * q)) (zero-add start) in
                    omega (arith, u.is k b, v, z, run_append (f k) 0 start (m * q));
                within = rw e at (u.within k b);
              };
        }

-- the sum of numbers apart from each other
module _ (f : ℕ → ℕ) (q i : ℕ) where
  pub apart_none : 0 ≡ apart f q i 0
  unfolding apart
  apart_none = refl

  pub apart_more : (m : ℕ) {s x : ℕ} → s ≡ apart f q i m → x ≡ f (i + q * m) → s + x ≡ apart f q i (m + 1)
  unfolding apart
  apart_more m e d = rw add-one (ap₂ ◌+◌ e d)

-- the numbers of turn j are there
pub apart_there : {q n : ℕ} (start m j : ℕ) → start + m * q ≤ n → j < q → Apart m q (start + j) n
apart_there {q} {n} start m j l b = record { each = below }
  where
    below : (t : ℕ) → t < m → start + j + q * t < n
    below t h =
        let k : (t + 1) * q ≤ m * q = mul-le-mul_right q (omega arith) in
        omega (arith, k, suc-mul t q, mul_comm q t, add-one t)

-- the four sums of all numbers have room
pub spanned_room : {f : ℕ → ℕ → ℕ} (n : ℕ) {s : List Halves} → n ≤ most_gains → Spanned f n s → Room 4 s
spanned_room {f} n l u = record { each = λ k b. kept_room (run (f k) 0) n (u.each k b) l }

-- no number yet
pub spanned_none : {f : ℕ → ℕ → ℕ} {s : List Halves} → Each 4 (λ k h. (value h ≡ 0) × Within 0 h) s → Spanned f 0 s
spanned_none {f} e = record { each = λ k b. kept_none (run (f k) 0) (run_none (f k) 0) (e.each k b) }

-- those of the first turns are no more than all
pub turns_few : (start m : ℕ) {j q n : ℕ} → start + m * q ≤ n → j ≤ q → start + m * j ≤ n
turns_few start m {j} {q} l b =
    let k : j * m ≤ q * m = mul-le-mul_right m b in
    omega (arith, k, l, mul_comm m j, mul_comm m q)
