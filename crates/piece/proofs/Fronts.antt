-- A list that becomes new part after part, each lent from where the last one ends. Assumes nothing.
use mathlib.Core.Path.{◌≡◌, refl, sym, ap, ◌∙◌}
use Prim.Native.Nat.{ℕ, ◌+◌, ◌-◌, ◌≤◌}
use native.Mathlib.Omega.{arith}
use mathlib.Core.List.{List, [], ◌++◌, append-nil, append_assoc}
use lib.ListN.{length, take, drop, length-append, drop_of_length-le}
use lib.Seq.{take_at, drop-append-add, drop-drop}
use borrow.Rule.Slice.PartMut.{mid_of, put_mid, Post-is, mid_len, same_len_mid}

-- the first a elements of out are new, and the others as they were
pub record Front (a : ℕ) (new was out : List ℕ) : Type 0 where
  pub len : length out ≡ length was
  pub size : length new ≡ a
  pub is : out ≡ new ++ drop a was

pub front_start : (was : List ℕ) → Front 0 [] was was
front_start was = record { len = refl; size = refl; is = refl }

module _ {a : ℕ} {new was out : List ℕ} (d : Front a new was out) where
  module _ (m : ℕ) (within : a + m ≤ length was) where
    -- the next m elements are lent
    pub front_lent : length (mid_of a (a + m - a) out) ≡ m
    front_lent = mid_len a (a + m) out (omega (arith, d.len)) ∙ (let q : a + m - a ≡ m = omega arith in q)

    -- and come back
    pub front_turn : (ys : List ℕ) → length ys ≡ m → Front (a + m) (new ++ ys) was (put_mid a (a + m - a) out ys)
    front_turn ys l =
        let t : take a out ≡ new = ap (take a) d.is ∙ take_at new (drop a was) a d.size in
        let r : drop (a + m) out ≡ drop (a + m) was =
        ap (drop (a + m)) d.is ∙ ap (λ b. drop (b + m) (new ++ drop a was)) (sym d.size) ∙ drop-append-add new (drop a was) m
        ∙ drop-drop m a was in
        record {
          len = same_len_mid a (a + m - a) out ys (l ∙ sym front_lent) ∙ d.len;
          size = omega (arith, length-append new ys, d.size);
          is = rw (Post-is a (a + m) out (omega arith), t, r) (sym (append_assoc new ys (drop (a + m) was)));
        }

  -- all are
  pub front_end : length was ≡ a → out ≡ new
  front_end l = d.is ∙ rw (drop_of_length-le was {i = a} (omega arith)) (append-nil new)
