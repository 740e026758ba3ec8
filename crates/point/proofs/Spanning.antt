-- The loop of `span` at element j - 1: how it starts, steps and ends. Assumes nothing.
use Rattle.std.proofs.Common.{◌≡◌, refl, sym, ap, ◌∙◌, ℕ, ◌+◌, ◌-◌, ◌*◌, ◌≤◌, ◌<◌, List, arith}
use native.Mathlib.Decide.{dec_lt}
use native.Mathlib.Nat.{le-mul_of_pos_right, mul-le-mul_right, suc-mul}
use Rattle.field.specs.Field.{field, to_words, from_words, Reduced}
use Rattle.field.specs.declared.Element.{Element}
use Rattle.table.specs.Table.{get_at, element_at, entries}
use Rattle.multiplier.specs.Tables.{Reaches, Becomes}
use Rattle.point.specs.Inner.{Spans, Spanned}

module _ (n : ℕ) (block ws : List ℕ) (s : Spans n block ws) where
  abbrev len : ℕ
  len = entries block

  pub start : Spanned n n block ws ws
  start = record { within = omega arith; len = refl; is = λ h l a b c. absurd (omega arith); kept = λ h a. refl }

  module _ (j : ℕ) (w : List ℕ) (d : Spanned j n block ws w) (b : 0 < j) where
    abbrev e : ℕ
    e = j - 1

    -- a block lies before the next one, and past the elements before its own
    before : (h : ℕ) → e < h → e * len + len ≤ h * len
    before h a = omega (arith, mul-le-mul_right len a, suc-mul e len)

    past : (h : ℕ) → h < e → h < e * len
    past h a = omega (arith, le-mul_of_pos_right e s.some)

    room : e * len + len ≤ n * len
    room =
        let m : e + 1 ≤ n = omega (arith, d.within) in
        omega (arith, mul-le-mul_right len m, suc-mul e len)

    pub reaches : Reaches (e * len) block w
    reaches = record { fits = omega (arith, room, d.len, s.room); below = s.block_below }

    pub factor : Reduced (get_at w e)
    factor = rw (d.kept e (omega arith)) (s.below e (omega (arith, d.within)))

    pub turn : (r : Element) {w' : List ℕ} → r ≡ get_at w e
        → Becomes (e * len) len (λ y. field.mul (from_words r) (element_at block y)) w w' → Spanned e n block ws w'
    turn r {w'} q g =
        record {
          within = omega (arith, d.within);
          len = g.len ∙ d.len;
          is = λ h l a c m. go h l a c m (dec_lt e h);
          kept = λ h a. g.before h (past h a) ∙ d.kept h (omega arith);
        }
      where
        go : (h l : ℕ) → e ≤ h → h < n → l < len → Dec (e < h)
            → get_at w' (h * len + l) ≡ to_words (field.mul (element_at ws h) (element_at block l))
        go h l a c m (yes x) = g.after (h * len + l) (omega (arith, before h x)) ∙ d.is h l (omega arith) c m
        go h l a c m (no x) =
            let p : e ≡ h = omega arith in
            rw (sym p)
            (g.is l m ∙ ap (λ v. to_words (field.mul (from_words v) (element_at block l))) (q ∙ d.kept e (omega arith)))

pub finish : (n : ℕ) (block ws : List ℕ) (j : ℕ) (w : List ℕ) → Spanned j n block ws w → j ≤ 0 → Spanned 0 n block ws w
finish n block ws j w d b =
    let z : j ≡ 0 = omega arith in
    rw z at d
