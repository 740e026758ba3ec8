-- The loop that cuts a block into lines: what is left of the block is still to be fed. Assumes nothing.
use mathlib.Core.Path.{◌≡◌, refl, sym, ap, ap₂, ◌∙◌}
use mathlib.Core.Bool.{Bool, true, false, cond}
use Prim.Native.Nat.{ℕ, suc, ◌+◌, ◌-◌, ◌≤◌, ◌<◌}
use native.Mathlib.Numerals.{add-one}
use native.Mathlib.Omega.{arith}
use mathlib.Core.List.{List, [], ◌∷◌, ◌++◌, append-nil, append_assoc}
use lib.Dec.{eqb, ltb}
use lib.ListN.{length, get_or, take, drop, length-take, length-drop, take-append-drop}
use lib.Seq.{take_all, drop-cons}
use borrow.Author.Tests.{eqb-true, ltb-true, ltb-false}
use Rattle.std.specs.Prelude.{Some, None, position}
use Rattle.std.specs.List.{position_or_len}
use Rattle.std.proofs.lemmas.List.Recursion.{is_position_or_len}
use Rattle.frame.specs.Frame.{most_line}
use Rattle.program.specs.Printed.{line_feed}
use Rattle.program.specs.Blocks.{Feeding, Fed, line_ended, holding, byte_step, byte_text, fed, said}
use Rattle.program.specs.Inner.{until_feed, text_of, ended}
use Rattle.program.proofs.Joining.{fed_append, said_append, stopped_fed, stopped_said, until_fed, until_said}

abbrev is_feed : ℕ → Bool
is_feed b = eqb b line_feed

-- as many bytes as come before the line feed are those before it
until_front : (bs : List ℕ) → take (length (until_feed bs)) bs ≡ until_feed bs
unfolding until_feed
until_front [] = refl
until_front (b ∷ bs) = go (is_feed b) (until_front bs)
  where
    go : (t : Bool) → take (length (until_feed bs)) bs ≡ until_feed bs
        → take (length (cond t [] (b ∷ until_feed bs))) (b ∷ bs) ≡ cond t [] (b ∷ until_feed bs)
    go true e = refl
    go false e = ap (λ t. b ∷ t) e

-- and if any are left, it is the next
until_feed_lem : (bs : List ℕ) → length (until_feed bs) < length bs → get_or bs (length (until_feed bs)) 0 ≡ line_feed
unfolding until_feed
until_feed_lem [] h = let no : ⊥ = omega arith in absurd no
until_feed_lem (b ∷ bs) h = go (is_feed b) refl h (until_feed_lem bs)
  where
    go : (t : Bool) → is_feed b ≡ t → length (cond t [] (b ∷ until_feed bs)) < suc (length bs)
        → (length (until_feed bs) < length bs → get_or bs (length (until_feed bs)) 0 ≡ line_feed)
        → get_or (b ∷ bs) (length (cond t [] (b ∷ until_feed bs))) 0 ≡ line_feed
    go true e l more = eqb-true b line_feed e
    go false e l more = more (omega arith)

-- so many they are
count : (bs : List ℕ) → length (until_feed bs) ≡ position_or_len is_feed bs
unfolding until_feed
count = is_position_or_len (λ bs. length (until_feed bs)) is_feed refl (λ b bs. go (is_feed b) b (until_feed bs))
  where
    go : (t : Bool) (b : ℕ) (cs : List ℕ) → length (cond t [] (b ∷ cs)) ≡ cond t 0 (1 + length cs)
    go true b cs = refl
    go false b cs = let e : suc (length cs) ≡ 1 + length cs = omega arith in e

module _ (bs : List ℕ) where
  none_there : position is_feed bs ≡ None → until_feed bs ≡ bs
  none_there h = go (ltb (position_or_len is_feed bs) (length bs)) refl h
    where
      go : (t : Bool) → ltb (position_or_len is_feed bs) (length bs) ≡ t → cond t (Some (position_or_len is_feed bs)) None ≡ None
          → until_feed bs ≡ bs
      go true e q = absurd (let z : ◌≡◌ {A = ℕ} 0 1 = cc in omega arith)
      go false e q = sym (until_front bs) ∙ take_all _ bs (omega (arith, ltb-false _ _ e, count bs))

  module _ (n : ℕ) (h : position is_feed bs ≡ Some n) where
    pub there : (n ≡ length (until_feed bs)) × (n < length bs)
    there = go (ltb (position_or_len is_feed bs) (length bs)) refl h
      where
        go : (t : Bool) → ltb (position_or_len is_feed bs) (length bs) ≡ t → cond t (Some (position_or_len is_feed bs)) None ≡ Some n
            → (n ≡ length (until_feed bs)) × (n < length bs)
        go true e q = let m : position_or_len is_feed bs ≡ n = cc in (sym m ∙ sym (count bs), omega (arith, ltb-true _ _ e))
        go false e q = absurd (let z : ◌≡◌ {A = ℕ} 0 1 = cc in omega arith)

    before : take n bs ≡ until_feed bs
    before = ap (λ k. take k bs) there.0 ∙ until_front bs

    parts : bs ≡ until_feed bs ++ line_feed ∷ drop (n + 1) bs
    parts =
        let here : get_or bs n 0 ≡ line_feed = ap (λ k. get_or bs k 0) there.0 ∙ until_feed_lem bs (omega (arith, there.0, there.1)) in
        sym (take-append-drop n bs)
        ∙ ap₂ ◌++◌ before
        (drop-cons bs n 0 there.1 ∙ ap (λ b. b ∷ drop (suc n) bs) here ∙ ap (λ k. line_feed ∷ drop k bs) (sym (add-one n)))

-- the bytes behind the first n
pub behind : (n : ℕ) (bs : List ℕ) → take (length bs - n) (drop n bs) ≡ drop n bs
behind n bs = take_all (length bs - n) (drop n bs) (omega (arith, length-drop n bs))

-- the line that these bytes end
module _ (f : Feeding) (on : f.stopped ≡ false) (few : length f.held ≤ most_line) (bs : List ℕ) (n : ℕ)
    (h : position is_feed bs ≡ Some n) where
  abbrev line : Feeding
  line = holding f (take n bs)

  held_is : fed f (until_feed bs) ≡ line
  held_is = until_fed f bs on few ∙ ap (holding f) (sym (before bs n h))

  step_is : byte_step line line_feed ≡ line_ended line
  step_is = rw on

  text_is : byte_text line line_feed ≡ text_of line
  text_is = rw on

  line_fed : fed f bs ≡ fed (line_ended line) (drop (n + 1) bs)
  unfolding fed
  line_fed =
      ap (fed f) (parts bs n h) ∙ fed_append f (until_feed bs) (line_feed ∷ drop (n + 1) bs)
      ∙ ap (λ g. fed (byte_step g line_feed) (drop (n + 1) bs)) held_is ∙ ap (λ g. fed g (drop (n + 1) bs)) step_is

  line_said : said f bs ≡ text_of line ++ said (line_ended line) (drop (n + 1) bs)
  unfolding said
  line_said =
      ap (said f) (parts bs n h) ∙ said_append f (until_feed bs) (line_feed ∷ drop (n + 1) bs)
      ∙ ap₂ ◌++◌ (until_said f bs on) (ap (λ g. byte_text g line_feed ++ said (byte_step g line_feed) (drop (n + 1) bs)) held_is)
      ∙ ap₂ ◌++◌ text_is (ap (λ g. said g (drop (n + 1) bs)) step_is)

-- the rest of the block is still to be fed
pub record Cut (f : Feeding) (block : List ℕ) (s : Fed) (rest : List ℕ) : Type 0 where
  pub feeds : fed s.feeding rest ≡ fed f block
  pub says : s.text ++ said s.feeding rest ≡ said f block
  pub within : length rest ≤ length block

-- the block was fed
abbrev pub Done : Feeding → List ℕ → Fed → Type 0
Done f block s = s ≡ record { feeding = fed f block; text = said f block }

module _ {f : Feeding} {block : List ℕ} {s : Fed} {rest : List ℕ} (c : Cut f block s rest) where
  done : (g : Feeding) → fed s.feeding rest ≡ g → said s.feeding rest ≡ [] → Done f block (record { feeding = g; text = s.text })
  done g e q =
      ap₂ (λ (h : Feeding) (t : List ℕ). let x : Fed = record { feeding = h; text = t } in x) (sym e ∙ c.feeds)
      (sym (append-nil s.text) ∙ ap (λ t. s.text ++ t) (sym q) ∙ c.says)

  -- a refusal stops it
  pub stop : s.feeding.stopped ≡ true → Done f block s
  stop e = done s.feeding (stopped_fed s.feeding rest e) (stopped_said s.feeding rest e)

  module _ (on : s.feeding.stopped ≡ false) (few : length s.feeding.held ≤ most_line) where
    -- no line ends any more
    pub last : position is_feed rest ≡ None → Done f block (record { feeding = holding s.feeding rest; text = s.text })
    last h =
        let all = none_there rest h in
        done _ (ap (fed s.feeding) (sym all) ∙ until_fed s.feeding rest on few ∙ ap (holding s.feeding) all)
        (ap (said s.feeding) (sym all) ∙ until_said s.feeding rest on)

    -- or one does
    pub turn : (n : ℕ) → position is_feed rest ≡ Some n → {t : Fed}
        → t ≡ ended (record { feeding = holding s.feeding (take n rest); text = s.text })
        → {more : List ℕ} → more ≡ drop (n + 1) rest → Cut f block t more
    turn n h e q =
        rw (e, q)
        (record {
          feeds = sym (line_fed s.feeding on few rest n h) ∙ c.feeds;
          says = append_assoc s.text _ _ ∙ ap (λ t. s.text ++ t) (sym (line_said s.feeding on few rest n h)) ∙ c.says;
          within = omega (arith, c.within, length-drop (n + 1) rest);
        })

-- what is held of a line is no more than is decoded
pub held_few : (bytes : List ℕ) {held : List ℕ} → held ≡ take most_line bytes → length held ≤ most_line
held_few bytes e = omega (arith, ap length e, length-take most_line bytes)
