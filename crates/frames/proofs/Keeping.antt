-- What every line finds holds before the first line, and an accepted line of each kind keeps it. Assumes nothing.
use mathlib.Core.Path.{◌≡◌, refl, ap, ◌∙◌}
use mathlib.Core.Bool.{false}
use Prim.Native.Nat.{ℕ, ◌+◌, ◌*◌, ◌^◌, ◌≤◌, ◌<◌}
use native.Mathlib.Omega.{arith}
use mathlib.Core.List.{List}
use lib.ListN.{length, take, drop, replicate, length-append, length-drop, length-replicate}
use Rattle.std.specs.Prelude.{Some}
use lib.Pow.{pow_mono}
use lib.Seq.{length-take-le}
use Rattle.algebra.specs.Words.{unreduced}
use Rattle.algebra.proofs.Words.{unreduced_append, unreduced_drop, unreduced_take, unreduced_zeros}
use Rattle.field.specs.Field.{p, p_pos}
use Rattle.table.specs.Refusals.{most}
use Rattle.table.proofs.Laws.{table_length}
use Rattle.table.proofs.Parts.{unreduced_put}
use Rattle.table.proofs.Tests.{unreduced_table}
use Rattle.plan.specs.Plan.{width, capacity, gained_by}
use Rattle.plan.specs.Sound as plan
use Rattle.plan.proofs.OneColumn.{one_fits, one_width}
use Rattle.padding.specs.Last.{missing_words, Keeps, Pads}
use Rattle.field.specs.declared.Element.{Element}
use Rattle.frame.specs.declared.Opening.{Opening}
use Rattle.frame.specs.declared.Frame.{Frame}
use Rattle.frame.specs.declared.Frame.TheVariants.{Open, Coordinate, Words, Close}
use Rattle.runs.specs.declared.Reader.{Reader}
use Rattle.runs.specs.Reader.{most_places, started, opened, noted, counted, done, taken, used, gained, line_answer, out_by, Ready, LastReady}
use Rattle.runs.proofs.Accepted.{Opens, Notes, Feeds}
use Rattle.runs.proofs.Steps.{accepted}

-- before the first line, with any out of reduced words
pub at_start : (out : List ℕ) → length out ≡ 4 * 2 ^ most_places → unreduced p out ≡ false → Ready started out
unfolding started unreduced
at_start out l h =
    record {
      sound = record {
        small = omega arith;
        fits = omega arith;
        some_columns = omega arith;
        few_columns = omega arith;
        scale_is = record { words_below = refl };
        coordinates_below = unreduced_zeros p p_pos (4 * most);
      };
      one_column = refl;
      few = omega arith;
      within = omega arith;
      room = l;
      out_below = h;
    }

-- the same with words that are all 0
zeros : (n : ℕ) {ws : List ℕ} → ws ≡ replicate n 0 → (length ws ≡ n) × (unreduced p ws ≡ false)
zeros n e = (ap length e ∙ length-replicate {A = ℕ} n 0, ap (unreduced p) e ∙ unreduced_zeros p p_pos n)

pub at_start_zeros : {out : List ℕ} → out ≡ replicate (4 * 2 ^ most_places) 0 → Ready started out
at_start_zeros e = let z = zeros (4 * 2 ^ most_places) e in at_start _ z.0 z.1

pub last_zeros : {last : List ℕ} → last ≡ replicate (2 ^ most_places) 0 → LastReady last
last_zeros e = let z = zeros (2 ^ most_places) e in record { room = z.0; below = z.1 }

-- the words of out that the session has
pub used_fits : {r : Reader} {out : List ℕ} → Ready r out → used r ≤ length out
used_fits {r} d = omega (arith, d.room, one_width r.session.plan d.one_column, pow_mono d.few)

module _ (r : Reader) (out : List ℕ) (d : Ready r out) where
  opened_keeps : (o : Opening) → Opens o → Ready (opened o) (replicate (length out) 0)
  opened_keeps o h =
      record {
        sound = record {
          small = h.small;
          fits = h.fits;
          some_columns = omega arith;
          few_columns = one_fits o.side;
          scale_is = h.scale_is;
          coordinates_below = unreduced_zeros p p_pos (4 * most);
        };
        one_column = refl;
        few = h.few;
        within = omega arith;
        room = length-replicate {A = ℕ} (length out) 0 ∙ d.room;
        out_below = unreduced_zeros p p_pos (length out);
      }

  noted_keeps : (index : ℕ) (coordinate : Element) → Notes r index coordinate → Ready (noted r index coordinate) out
  noted_keeps index coordinate h =
      let s = d.sound in
      record {
        sound = record {
          small = s.small;
          fits = s.fits;
          some_columns = s.some_columns;
          few_columns = s.few_columns;
          scale_is = s.scale_is;
          coordinates_below = unreduced_put r.session.plan.coordinates index h.coordinate_is s.coordinates_below;
        };
        one_column = d.one_column;
        few = d.few;
        within = d.within;
        room = d.room;
        out_below = d.out_below;
      }

  -- out gains words that follow those taken
  module _ (words : List ℕ) where
    abbrev new : List ℕ
    new = gained_by r.session.plan r.session.taken words (take (used r) out)

    pub gained_room : length (gained r words out) ≡ 4 * 2 ^ most_places
    gained_room =
        let n : length new ≡ used r = table_length (width r.session.plan) _ in
        length-append new (drop (used r) out) ∙ omega (arith, n, length-drop (used r) out, used_fits d, d.room)

    pub gained_below : unreduced p (gained r words out) ≡ false
    gained_below =
        unreduced_append p new (drop (used r) out) (unreduced_table (width r.session.plan) _)
        (unreduced_drop p p_pos (used r) out d.out_below)

  counted_keeps : (words : List ℕ) → Feeds r words → Ready (counted r words) (gained r words out)
  counted_keeps words h =
      record {
        sound = d.sound;
        one_column = d.one_column;
        few = d.few;
        within = h.within;
        room = gained_room words;
        out_below = gained_below words;
      }

  done_keeps : (words : List ℕ) → Ready (done r) (gained r words out)
  done_keeps words =
      record {
        sound = d.sound;
        one_column = d.one_column;
        few = d.few;
        within = d.within;
        room = gained_room words;
        out_below = gained_below words;
      }

  -- and last has a word of each place
  module _ {last : List ℕ} (l : LastReady last) where
    last_fits : width r.session.plan ≤ length last
    last_fits = omega (arith, l.room, one_width r.session.plan d.one_column, pow_mono d.few)

    -- what an `03` hands to the last words
    pub hands_keeps : Keeps r.session.plan last
    hands_keeps = record { sound = d.sound; last_room = last_fits }

    -- what a `04` hands to the padding
    pub hands_last : Pads r.session.plan r.session.taken last (take (used r) out)
    hands_last =
        record {
          sound = d.sound;
          within = d.within;
          last_room = last_fits;
          last_below = l.below;
          room = length-take-le (used r) out (used_fits d);
          out_below = unreduced_take p p_pos (used r) out d.out_below;
        }

-- what words hand to the piece
pub hands : {r : Reader} {out words : List ℕ} → Ready r out → {at : ℕ} → at + length words ≤ capacity r.session.plan
    → unreduced p words ≡ false → plan.Takes r.session.plan at words (take (used r) out)
hands {r} {out} d within below =
    record {
      sound = d.sound;
      within = within;
      piece_below = below;
      room = length-take-le (used r) out (used_fits d);
      out_below = unreduced_take p p_pos (used r) out d.out_below;
    }

-- an accepted line
module _ {r : Reader} {out : List ℕ} (d : Ready r out) where
  -- what an `02` hands to `note`
  pub hands_coordinate : (index : ℕ) (coordinate : Element) → line_answer r (Some (Coordinate index coordinate)) ≡ 0
      → (index ≡ r.came) × (index < most)
  hands_coordinate index coordinate a =
      let h = (accepted r (Some (Coordinate index coordinate)) a).1 in
      (h.next, omega (arith, h.below, d.sound.fits, d.sound.small))

  pub keeps : (f : Frame) (last : List ℕ) → line_answer r (Some f) ≡ 0 → Ready (taken r (Some f)) (out_by r (Some f) out last)
  keeps (Open o) last a = opened_keeps r out d o (accepted r (Some (Open o)) a).1
  keeps (Coordinate i e) last a = noted_keeps r out d i e (accepted r (Some (Coordinate i e)) a).1
  keeps (Words ws) last a = counted_keeps r out d ws (accepted r (Some (Words ws)) a).1
  keeps Close last a = done_keeps r out d (missing_words r.session.plan r.session.taken last)
