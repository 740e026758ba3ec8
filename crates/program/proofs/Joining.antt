-- Blocks that are fed: joined, after a refusal, and up to a line feed. Assumes nothing.
use mathlib.Core.Path.{◌≡◌, refl, sym, ap, ◌∙◌}
use mathlib.Core.Bool.{Bool, true, false, cond}
use Prim.Native.Nat.{ℕ, zero, suc, ◌≤◌}
use native.Mathlib.Omega.{arith}
use mathlib.Core.List.{List, [], ◌∷◌, ◌++◌, append-nil, append_assoc}
use lib.Dec.{eqb}
use lib.ListN.{length, take, length-take}
use lib.Seq.{take_all}
use Rattle.program.specs.Printed.{line_feed}
use Rattle.frame.specs.Frame.{most_line}
use Rattle.program.specs.Blocks.{Feeding, line_ended, holding, byte_step, byte_text, fed, said}
use Rattle.program.specs.Inner.{until_feed}

pub fed_append : (f : Feeding) (xs ys : List ℕ) → fed f (xs ++ ys) ≡ fed (fed f xs) ys
unfolding fed
fed_append f [] ys = refl
fed_append f (x ∷ xs) ys = fed_append (byte_step f x) xs ys

pub said_append : (f : Feeding) (xs ys : List ℕ) → said f (xs ++ ys) ≡ said f xs ++ said (fed f xs) ys
unfolding fed said
said_append f [] ys = refl
said_append f (x ∷ xs) ys =
    ap (λ t. byte_text f x ++ t) (said_append (byte_step f x) xs ys) ∙ sym (append_assoc (byte_text f x) (said (byte_step f x) xs) _)

-- after a refusal nothing is read
stays : (f : Feeding) (b : ℕ) → f.stopped ≡ true → byte_step f b ≡ f
stays f b e = ap (λ t. cond t f (cond (eqb b line_feed) (line_ended f) (holding f (b ∷ [])))) e

pub stopped_fed : (f : Feeding) (bs : List ℕ) → f.stopped ≡ true → fed f bs ≡ f
unfolding fed
stopped_fed f [] e = refl
stopped_fed f (b ∷ bs) e = ap (λ x. fed x bs) (stays f b e) ∙ stopped_fed f bs e

pub stopped_said : (f : Feeding) (bs : List ℕ) → f.stopped ≡ true → said f bs ≡ []
unfolding said
stopped_said f [] e = refl
stopped_said f (b ∷ bs) e =
    let silent : byte_text f b ≡ [] = rw e in
    ap (λ t. t ++ said (byte_step f b) bs) silent ∙ ap (λ x. said x bs) (stays f b e) ∙ stopped_said f bs e

-- what is cut already is cut once
pub cut_once : (n : ℕ) (xs ys : List ℕ) → take n (take n xs ++ ys) ≡ take n (xs ++ ys)
cut_once zero xs ys = refl
cut_once (suc n) [] ys = refl
cut_once (suc n) (x ∷ xs) ys = ap (λ t. x ∷ t) (cut_once n xs ys)

-- bytes before a line feed are held, and print nothing
module _ (f : Feeding) where
  none_held : length f.held ≤ most_line → f ≡ holding f []
  none_held h =
      ap (λ hs. record { state = f.state; stopped = f.stopped; held = hs })
      (sym (ap (take most_line) (append-nil f.held) ∙ take_all most_line f.held h))

  module _ (goes : f.stopped ≡ false) (b : ℕ) (other : eqb b line_feed ≡ false) where
    byte_held : byte_step f b ≡ holding f (b ∷ [])
    byte_held = rw (goes, other)

    byte_silent : byte_text f b ≡ []
    byte_silent = rw (goes, other)

  twice_held : (b : ℕ) (bs : List ℕ) → holding (holding f (b ∷ [])) bs ≡ holding f (b ∷ bs)
  twice_held b bs =
      ap (λ hs. record { state = f.state; stopped = f.stopped; held = hs })
      (cut_once most_line (f.held ++ b ∷ []) bs ∙ ap (take most_line) (append_assoc f.held (b ∷ []) bs))

pub until_fed : (f : Feeding) (bs : List ℕ) → f.stopped ≡ false → length f.held ≤ most_line
    → fed f (until_feed bs) ≡ holding f (until_feed bs)
unfolding fed until_feed
until_fed f [] g h = none_held f h
until_fed f (b ∷ bs) g h = go (eqb b line_feed) refl (until_fed (holding f (b ∷ [])) bs g (omega (arith, length-take most_line (f.held ++ b ∷ []))))
  where
    go : (t : Bool) → eqb b line_feed ≡ t → fed (holding f (b ∷ [])) (until_feed bs) ≡ holding (holding f (b ∷ [])) (until_feed bs)
        → fed f (cond t [] (b ∷ until_feed bs)) ≡ holding f (cond t [] (b ∷ until_feed bs))
    go true e more = none_held f h
    go false e more = ap (λ x. fed x (until_feed bs)) (byte_held f g b e) ∙ more ∙ twice_held f b (until_feed bs)

pub until_said : (f : Feeding) (bs : List ℕ) → f.stopped ≡ false → said f (until_feed bs) ≡ []
unfolding said until_feed
until_said f [] g = refl
until_said f (b ∷ bs) g = go (eqb b line_feed) refl (until_said (holding f (b ∷ [])) bs g)
  where
    go : (t : Bool) → eqb b line_feed ≡ t → said (holding f (b ∷ [])) (until_feed bs) ≡ [] → said f (cond t [] (b ∷ until_feed bs)) ≡ []
    go true e more = refl
    go false e more = rw (byte_silent f g b e, byte_held f g b e) more
