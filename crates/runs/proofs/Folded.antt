-- Out's used words are the fold of the words that the accepted `03` lines brought, and after `04` of the padded table. Assumes nothing.
use mathlib.Core.Path.{◌≡◌, refl, sym, ap, ap₂, ◌∙◌}
use mathlib.Core.Bool.{true, false}
use Prim.Native.Nat.{ℕ, ◌-◌, ◌*◌, ◌^◌, ◌≤◌, ◌<◌}
use native.Mathlib.Omega.{arith}
use mathlib.Core.List.{List, [], ◌++◌, append-nil}
use lib.ListN.{length, take, drop, replicate}
use lib.Pow.{pow_mono, pow_pos}
use lib.Seq.{take_at}
use Rattle.multilinear.specs.declared.Side.TheVariants.{Prefix}
use Rattle.field.specs.declared.Element.{Element}
use Rattle.table.proofs.Laws.{table_length}
use Rattle.plan.specs.declared.Plan.{Plan}
use Rattle.plan.specs.Plan.{width, fold_of, gained_by}
use Rattle.plan.proofs.OneColumn.{one_width}
use Rattle.plan.proofs.Padding.{take_zeros}
use Rattle.plan.proofs.Joining as plan
use Rattle.padding.specs.Padding.{padded_table}
use Rattle.padding.specs.Last.{kept_on, missing_words}
use Rattle.padding.proofs.Lasting.{LastOf, kept_on_length, last_none, last_kept}
use Rattle.padding.proofs.Padded.{padded_is}
use Rattle.frame.specs.declared.Opening.{Opening}
use Rattle.runs.specs.declared.Phase.TheVariants as phase
use Rattle.runs.specs.Phases.{is_done}
use Rattle.runs.specs.Reader.{most_places, used, started, opened, with_coordinate, gained}
use Rattle.runs.proofs.Accepted.{Opens}
use Rattle.runs.specs.State.{State}
use Rattle.runs.specs.Runs.{start, Rooms, words_by, is_opened, is_settled}
use Rattle.runs.proofs.Steps.{never, Keeps}
use Rattle.runs.proofs.Counted.{Counted, counted_start, counted_keeps}

-- before an `01` out is as it came
pub record Folded (s : State) (ws : List ℕ) : Type 0 where
  pub counted : Counted s ws
  pub room : is_opened s.reader.phase ≡ false → length s.out ≡ 4 * 2 ^ most_places
  pub last_room : length s.last ≡ 2 ^ most_places
  pub few : is_opened s.reader.phase ≡ true → s.reader.session.plan.n - s.reader.session.plan.k ≤ most_places
  pub lasts : s.reader.session.plan.side ≡ Prefix → LastOf (width s.reader.session.plan) ws s.last
  pub folds : is_opened s.reader.phase ≡ true → is_done s.reader.phase ≡ false
      → take (used s.reader) s.out ≡ fold_of s.reader.session.plan ws
  pub pads : is_done s.reader.phase ≡ true
      → take (used s.reader) s.out ≡ fold_of s.reader.session.plan (padded_table s.reader.session.plan ws)

pub folded_start : (out last : List ℕ) → Rooms out last → Folded (start out last) []
unfolding started
folded_start out last l =
    record {
      counted = counted_start out last;
      room = λ q. l.elements;
      last_room = l.words;
      few = λ q. never (sym q);
      lasts = λ q. last_none _ last;
      folds = λ q d. never (sym q);
      pads = λ d. never (sym d);
    }

-- at `01` out is zeroed
opened_folds : (f : Opening) (out : List ℕ) → Opens f → length out ≡ 4 * 2 ^ most_places
    → take (used (opened f)) (replicate (length out) 0) ≡ fold_of (opened f).session.plan []
opened_folds f out h l =
    take_zeros (used (opened f)) (length out) (omega (arith, one_width ((opened f).session.plan) refl, pow_mono h.few)) ∙ plan.none (opened f).session.plan

module _ (s : State) (ws : List ℕ) (d : Folded s ws) where
  abbrev was : Plan
  was = s.reader.session.plan

  -- a row has a word for each place, in one column
  row_there : 0 < width was
  row_there = omega (arith, one_width was d.counted.one, pow_pos (was.n - was.k))

  -- at `02` another coordinate is put, and nothing was folded yet
  put_folds : s.reader.phase ≡ phase.Points → (i : ℕ) (e : Element)
      → take (used s.reader) s.out ≡ fold_of (with_coordinate s.reader.session i e).plan ws
  put_folds q i e =
      let now : Plan = (with_coordinate s.reader.session i e).plan in
      let z : ws ≡ [] = d.counted.none (ap is_settled q) in
      d.folds (ap is_opened q) (ap is_done q) ∙ ap (fold_of was) z ∙ sym (plan.none was) ∙ plan.none now ∙ ap (fold_of now) (sym z)

  -- out's used part gains the words that follow
  gained_folds : (more : List ℕ) → is_opened s.reader.phase ≡ true → is_done s.reader.phase ≡ false
      → take (used s.reader) (gained s.reader more s.out) ≡ fold_of was (ws ++ more)
  gained_folds more q g =
      take_at _ (drop (used s.reader) s.out) (used s.reader) (table_length (width was) _)
      ∙ ap₂ (λ n l. gained_by was n more l) d.counted.count (d.folds q g)
      ∙ plan.joined was ws more

  -- at `04` these are the missing words
  closed_folds : is_opened s.reader.phase ≡ true → is_done s.reader.phase ≡ false
      → take (used s.reader) (gained s.reader (missing_words was s.reader.session.taken s.last) s.out)
      ≡ fold_of was (padded_table was ws)
  closed_folds q g =
      gained_folds (missing_words was s.reader.session.taken s.last) q g
      ∙ ap (λ n. fold_of was (ws ++ missing_words was n s.last)) d.counted.count
      ∙ ap (fold_of was) (padded_is was ws s.last row_there d.lasts)

  -- at `03` the last word of each place is kept
  fed_lasts : (more : List ℕ) → is_opened s.reader.phase ≡ true → was.side ≡ Prefix
      → LastOf (width was) (ws ++ more) (kept_on was.side (width was) s.reader.session.taken more s.last)
  fed_lasts more q e =
      rw (e, d.counted.count)
      (last_kept (width was) ws more s.last row_there (omega (arith, d.last_room, one_width was d.counted.one, pow_mono (d.few q))) (d.lasts e))

pub folded_keeps : Keeps words_by Folded
folded_keeps =
    record {
      opens = λ s f ws i e h.
          let z : ws ≡ [] = i.counted.none (ap is_settled e) in
          record {
            counted = counted_keeps.opens s f ws i.counted e h;
            room = λ q. never q;
            last_room = i.last_room;
            few = λ q. h.few;
            lasts = λ q. rw z (last_none _ s.last);
            folds = λ q d.
                opened_folds f s.out h (i.room (ap is_opened e)) ∙ ap (λ l. fold_of (opened f).session.plan (l ++ [])) (sym z);
            pads = λ d. never (sym d);
          };
      notes = λ s j x ws i e h l.
          rw append-nil
          (record {
            counted = rw append-nil at (counted_keeps.notes s j x ws i.counted e h l);
            room = i.room;
            last_room = i.last_room;
            few = i.few;
            lasts = i.lasts;
            folds = λ q d. put_folds s ws i e j x;
            pads = λ d. never (sym d ∙ ap is_done e);
          });
      takes = λ s more ws i h w.
          record {
            counted = counted_keeps.takes s more ws i.counted h w;
            room = λ q. never q;
            last_room = kept_on_length _ _ _ more s.last ∙ i.last_room;
            few = λ q. i.few h.opened;
            lasts = fed_lasts s ws i more h.opened;
            folds = λ q d. gained_folds s ws i more h.opened h.going;
            pads = λ d. never (sym d);
          };
      closes = λ s ws i h.
          rw append-nil
          (record {
            counted = rw append-nil at (counted_keeps.closes s ws i.counted h);
            room = λ q. never q;
            last_room = i.last_room;
            few = λ q. i.few h.opened;
            lasts = i.lasts;
            folds = λ q d. never d;
            pads = λ d. closed_folds s ws i h.opened h.going;
          });
    }
