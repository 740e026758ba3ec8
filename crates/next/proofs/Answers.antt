-- Number and words of the answer of `eval_next`: those of its elements, and they determine it. Assumes nothing.
use mathlib.Core.Path.{◌≡◌, refl, sym, ap, ap₂}
use mathlib.Core.HLevel.{is_prop→PathP}
use native.Mathlib.Nat.{ℕ_set}
use native.Mathlib.Omega.{arith}
use mathlib.Core.List.{List, [], ◌∷◌, ◌++◌}
use Prim.Native.Nat.{ℕ}
use lib.ListN.{length, get_or, drop}
use Rattle.std.proofs.Common.{length-append}
use Rattle.std.specs.Prelude.{Result, Ok, Err}
use Rattle.multilinear.specs.Successors.{NextParts}
use Rattle.field.specs.Field.{Ext, to_words}
use Rattle.table.specs.Refusals.{number, Outcome, given}
use Rattle.table.specs.declared.Refusal.{Refusal}
use Rattle.table.proofs.Answers.{number_one, number_some}
use Rattle.table.proofs.Outcomes.{refused_given, accepted_given}
use Rattle.field.specs.declared.Element.{Element}
use Rattle.next.specs.declared.parts.Parts.{Parts}
use Rattle.next.specs.Whole.{FourWords}
use Rattle.next.specs.Inner.{HoldParts}
use Rattle.next.specs.Next.{next_outcome, part_words}

pub refused_next : (n : ℕ) (r : Refusal) → number r ≡ n → (x : NextParts Ext) → next_outcome (Err r) ≡ given n (part_words x)
refused_next n r h x = refused_given n r h (part_words x)

pub accepted_next : (n : ℕ) → 0 ≡ n → (x : NextParts Ext) (e : Parts) → HoldParts e x → next_outcome (Ok e) ≡ given n (part_words x)
unfolding to_words
accepted_next n h x e d = rw (d.carry_is.words, d.done_is.words, d.omega_is.words) (accepted_given n h (part_words x))

pub ruleset next_outcomes = (refused_next, accepted_next)

-- lists of one length in front of others
fronts : (xs ys us vs : List ℕ) → length xs ≡ length ys → xs ++ us ≡ ys ++ vs → (xs ≡ ys) × (us ≡ vs)
fronts [] [] us vs h e = (refl, e)
fronts [] (y ∷ ys) us vs h e = absurd (omega (arith, h))
fronts (x ∷ xs) [] us vs h e = absurd (omega (arith, h))
fronts (x ∷ xs) (y ∷ ys) us vs h e =
    let q : length xs ≡ length ys = omega (arith, h) in
    let r = fronts xs ys us vs q (ap (drop 1) e) in
    (ap₂ (λ (a : ℕ) (l : List ℕ). a ∷ l) (ap (λ (l : List ℕ). get_or l 0 0) e) r.0, r.1)

abbrev one_of : List ℕ → Element
one_of ws = record { c = ws }

-- a `Parts` is its three elements: that they have four words has one proof
parts_one : (x y : Parts) → x.carry ≡ y.carry → x.done ≡ y.done → x.omega ≡ y.omega → x ≡ y
parts_one x y c d o =
    λ i. record {
      carry = c i;
      done = d i;
      omega = o i;
      whole = is_prop→PathP (λ j. FourWords (c j) × FourWords (d j) × FourWords (o j)) (λ j. hlevel ℕ_set) x.whole y.whole i;
    }

three : (x y : Parts) → x.carry.c ++ x.done.c ++ x.omega.c ≡ y.carry.c ++ y.done.c ++ y.omega.c → x ≡ y
three x y e =
    let one : length x.carry.c ≡ length y.carry.c = omega (arith, x.whole, y.whole) in
    let two : length x.done.c ≡ length y.done.c = omega (arith, x.whole, y.whole) in
    let l : length (x.carry.c ++ x.done.c) ≡ length (y.carry.c ++ y.done.c) = simp (length-append, one, two) in
    let a = fronts (x.carry.c ++ x.done.c) (y.carry.c ++ y.done.c) x.omega.c y.omega.c l e in
    let b = fronts x.carry.c y.carry.c x.done.c y.done.c one a.0 in
    parts_one x y (ap one_of b.0) (ap one_of b.1) (ap one_of a.1)

pub next_one : (a b : Result Parts Refusal) → next_outcome a ≡ next_outcome b → a ≡ b
next_one (Ok x) (Ok y) e =
    let w : x.carry.c ++ x.done.c ++ x.omega.c ≡ y.carry.c ++ y.done.c ++ y.omega.c = ap (λ (o : Outcome). o.words) e in
    ap Ok (three x y w)
next_one (Ok x) (Err s) e = absurd (number_some s (ap (λ (o : Outcome). o.number) e))
next_one (Err r) (Ok y) e = absurd (number_some r (sym (ap (λ (o : Outcome). o.number) e)))
next_one (Err r) (Err s) e = ap Err (number_one r s (ap (λ (o : Outcome). o.number) e))
