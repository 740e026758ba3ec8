-- Entries made of their pairs one after the other: how a loop over them starts, steps and ends. Assumes nothing.
use Rattle.std.proofs.Common.{◌≡◌, refl, sym, ap, ◌∙◌, ℕ, ◌+◌, ◌-◌, ◌*◌, ◌≤◌, ◌<◌, List, length, drop, arith}
use lib.Seq.{drop-drop}
use borrow.Author.Count.{below_more}
use Rattle.field.specs.Field.{Ext, to_words, from_words, Holds}
use Rattle.field.specs.declared.Element.{Element}
use Rattle.table.specs.Table.{get_at, put_at}
use Rattle.table.proofs.Laws.{length_put, drop_put, get_put_other, get_put_same}
use Rattle.table.proofs.Parts.{get_drop}
use Rattle.fixing.specs.Inner.{Made, Joinable, IsMade, Combined, paired, pair_of}
use Rattle.fixing.specs.Fixing.{Prefix}

module _ {pair_post : ℕ → ℕ × ℕ → Type 0} {make_post : Element → Element → Element → Type 0} where
  pub none : (from : ℕ) (ws : List ℕ) → Combined pair_post make_post from from ws ws
  none from ws = record { len = refl; before = λ y l. refl; done = λ y b l. absurd (omega arith); after = refl }

  module _ {from i : ℕ} {ws w : List ℕ} (d : Combined pair_post make_post from i ws w) where
    -- from entry i on all is as it was
    pub words_later : (m : ℕ) → i ≤ m → drop (4 * m) w ≡ drop (4 * m) ws
    words_later m l =
        let q : 4 * m ≡ 4 * i + 4 * (m - i) = omega arith in
        rw q (sym (drop-drop (4 * (m - i)) (4 * i) w) ∙ ap (drop (4 * (m - i))) d.after ∙ drop-drop (4 * (m - i)) (4 * i) ws)

    pub later : (y : ℕ) → i ≤ y → get_at w y ≡ get_at ws y
    later y l =
        let q : y ≡ i + (y - i) = omega arith in
        rw q (sym (get_drop i (y - i) w) ∙ ap (λ zs. get_at zs (y - i)) d.after ∙ get_drop i (y - i) ws)

    -- the pair of entry i is read as it was
    module _ {make_pre : Element → Element → Type 0} {j : ℕ × ℕ} (t : Joinable make_pre i j ws) where
      pub reads : make_pre (get_at w j.0) (get_at w j.1)
      reads = rw (later j.0 t.ahead.0, later j.1 t.ahead.1) t.may

      pub turn : from ≤ i → 4 * i + 3 < length ws → {e : Element} {w₁ : List ℕ} → pair_post i j
          → make_post (get_at w j.0) (get_at w j.1) e → length e.c ≡ 4 → w₁ ≡ put_at w i e
          → Combined pair_post make_post from (i + 1) ws w₁
      turn l m {e} asked made s q =
          let own : make_post (get_at ws j.0) (get_at ws j.1) e =
          rw (later j.0 t.ahead.0, later j.1 t.ahead.1) at made in
          rw q
          (record {
            len = length_put w i e ∙ d.len;
            before = λ y b. get_put_other w i e y (λ k. omega arith) ∙ d.before y b;
            done = below_more (λ y. from ≤ y → IsMade pair_post make_post y ws (get_at (put_at w i e) y)) i
                (λ y b k. rw (get_put_other w i e y (λ z. omega arith)) (d.done y b k))
                (λ k. rw (get_put_same w i e (omega (arith, d.len)) s) (j, asked, own));
            after = drop_put w i e (4 * (i + 1)) (omega arith) ∙ words_later (i + 1) (omega arith);
          })

  -- by what is made of each pair
  pub made_by : (g : ℕ → Ext) {from to : ℕ} {ws w : List ℕ}
      → ((y : ℕ) (j : ℕ × ℕ) (e : Element) → pair_post y j → make_post (get_at ws j.0) (get_at ws j.1) e → e ≡ to_words (g y))
      → Combined pair_post make_post from to ws w → Made g from to ws w
  made_by g {ws = ws} {w = w} is d =
      record {
        len = d.len;
        before = d.before;
        done = λ y b l. let (j, asked, made) = d.done y b l in is y j (get_at w y) asked made;
        after = d.after;
      }

  pub pairs_by : (h : ℕ) {from to : ℕ} {ws w : List ℕ} (f : Ext → Ext → Ext) → ((y : ℕ) (j : ℕ × ℕ) → pair_post y j → j ≡ pair_of Prefix h y)
      → ((a b e : Element) → make_post a b e → Holds e (f (from_words a) (from_words b)))
      → Combined pair_post make_post from to ws w → Made (paired f h ws) from to ws w
  pairs_by h {ws = ws} f pairs ones d =
      made_by (paired f h ws)
      (λ y j e p m.
      let made = ones (get_at ws j.0) (get_at ws j.1) e m in
      rw (pairs y j p) at made.words)
      d
