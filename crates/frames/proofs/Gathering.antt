-- Words that are added in two pieces, and those that are gathered. Assumes nothing.
use mathlib.Core.Path.{◌≡◌, refl, sym, ap, ap₂, ◌∙◌}
use mathlib.Core.Bool.{false}
use Prim.Native.Nat.{ℕ, suc, ◌+◌, ◌-◌, ◌*◌, ◌%◌, ◌<◌}
use native.Mathlib.Decide.{dec_lt}
use native.Mathlib.Omega.{arith}
use mathlib.Core.List.{List, [], ◌∷◌, ◌++◌}
use lib.ListN.{length, get_or, set, take, drop, length-append, get_or-append}
use lib.Seq.{get_or-append-add, take_at, drop_at, length-take-le}
use Rattle.std.specs.Prelude.{Some}
use Rattle.std.proofs.lemmas.List.{take-append-drop}
use Rattle.algebra.specs.Words.{unreduced}
use Rattle.algebra.proofs.Words.{unreduced_append, unreduced_take}
use Rattle.multilinear.specs.declared.Side.{Side}
use Rattle.multilinear.specs.declared.Side.TheVariants.{Prefix, Suffix}
use Rattle.field.specs.Field.{p, p_pos, field, base, to_words}
use Rattle.field.proofs.Laws.{field_ring, base_zero}
use Rattle.table.specs.Table.{element_at, placed}
use Rattle.table.proofs.Laws.{table_ext, table_at, table_whole, table_length}
use Rattle.table.proofs.Placed.{placed_before, placed_word, placed_after, placed_none}
use Rattle.table.proofs.Tests.{holds_at}
use Rattle.plan.specs.declared.Plan.{Plan}
use Rattle.plan.specs.Plan.{width, out_of, gained_by}
use Rattle.plan.proofs.Columns.{place_ext, place_none}
use Rattle.plan.proofs.Joining.{place_joined}
use Rattle.padding.specs.Last.{kept, kept_on}
use Rattle.padding.proofs.Lasting.{kept_on_length, kept_on_below}
use Rattle.frame.specs.declared.Frame.{Frame}
use Rattle.frame.specs.declared.Frame.TheVariants.{Words}
use Rattle.runs.specs.declared.Reader.{Reader}
use Rattle.runs.specs.Reader.{used, counted, taken, line_answer, out_by, last_by, Ready}
use Rattle.runs.specs.State.{State}
use Rattle.runs.proofs.Accepted.{Feeds}
use Rattle.runs.proofs.Steps.{never}
use Rattle.frames.specs.After.{after_accepted}
use Rattle.frames.specs.Inside.{before, with_gathered, Gathers}
use Rattle.frames.proofs.Keeping.{used_fits, gained_room, gained_below, keeps}

-- a then b, from word t on, are a ++ b
module _ (t : ℕ) (a b : List ℕ) where
  before_both : (s : ℕ) → s < t + length a → placed t (a ++ b) s ≡ placed t a s
  before_both s h = go (dec_lt s t)
    where
      go : Dec (s < t) → placed t (a ++ b) s ≡ placed t a s
      go (yes l) = placed_before t (a ++ b) s l ∙ sym (placed_before t a s l)
      go (no l) =
          let q : t + (s - t) ≡ s = omega arith in
          ap (placed t (a ++ b)) (sym q) ∙ placed_word t (a ++ b) (s - t) ∙ get_or-append a b 0 (s - t) (omega arith)
          ∙ sym (placed_word t a (s - t)) ∙ ap (placed t a) q

  follows_both : (i : ℕ) → placed t (a ++ b) (t + length a + i) ≡ get_or b i 0
  follows_both i =
      let q : t + length a + i ≡ t + (length a + i) = omega arith in
      ap (placed t (a ++ b)) q ∙ placed_word t (a ++ b) (length a + i) ∙ get_or-append-add a b i 0

  gained_both : (plan : Plan) (out : List ℕ) → gained_by plan (t + length a) b (gained_by plan t a out) ≡ gained_by plan t (a ++ b) out
  gained_both plan out =
      table_ext (width plan) _ _
      (λ m h. ap (λ x. field.add x (out_of plan (λ s. base (placed (t + length a) b s)) m)) (table_at (width plan) _ m h)
      ∙ field_ring.add_assoc _ _ _
      ∙ ap (field.add (element_at out m))
      (place_joined (t + length a) b (placed t a) (placed t (a ++ b)) before_both (placed_after t a) follows_both plan _ _))

-- no words add nothing
gained_nothing : (plan : Plan) (t : ℕ) (out : List ℕ) → length out ≡ 4 * width plan → unreduced p out ≡ false
    → gained_by plan t [] out ≡ out
gained_nothing plan t out l h =
    sym (table_whole (width plan) _ out l
    (λ m b. (holds_at out h m refl).words
    ∙ ap to_words
    (sym (ap (field.add (element_at out m))
    (place_ext plan _ _ (λ s. ap base (placed_none t [] refl s) ∙ base_zero) _ _ ∙ place_none plan _ _) ∙ field_ring.add_zero _))))

-- and so are the last words
kept_both : (inner t : ℕ) (a b last : List ℕ) → kept inner (t + length a) b (kept inner t a last) ≡ kept inner t (a ++ b) last
unfolding kept
kept_both inner t [] b last = let q : t + 0 ≡ t = omega arith in ap (λ n. kept inner n b last) q
kept_both inner t (w ∷ a) b last =
    let q : t + suc (length a) ≡ suc t + length a = omega arith in
    ap (λ n. kept inner n b (kept inner (suc t) a (set last (t % inner) w))) q ∙ kept_both inner (suc t) a b (set last (t % inner) w)

kept_on_both : (side : Side) (inner t : ℕ) (a b last : List ℕ)
    → kept_on side inner (t + length a) b (kept_on side inner t a last) ≡ kept_on side inner t (a ++ b) last
kept_on_both Prefix inner t a b last = kept_both inner t a b last
kept_on_both Suffix inner t a b last = refl

kept_on_nothing : (side : Side) (inner t : ℕ) (last : List ℕ) → kept_on side inner t [] last ≡ last
unfolding kept
kept_on_nothing Prefix inner t last = refl
kept_on_nothing Suffix inner t last = refl

-- out's part of the plan's places, and what is behind it
abbrev gained_in : Plan → ℕ → List ℕ → List ℕ → List ℕ
gained_in plan t words out = gained_by plan t words (take (4 * width plan) out) ++ drop (4 * width plan) out

gained_in_both : (plan : Plan) (t : ℕ) (a b out : List ℕ)
    → gained_in plan (t + length a) b (gained_in plan t a out) ≡ gained_in plan t (a ++ b) out
gained_in_both plan t a b out =
    let n = table_length (width plan) _ in
    let front = take_at (gained_by plan t a (take (4 * width plan) out)) (drop (4 * width plan) out) (4 * width plan) n in
    let back = drop_at (gained_by plan t a (take (4 * width plan) out)) (drop (4 * width plan) out) (4 * width plan) n in
    ap₂ (λ x y. gained_by plan (t + length a) b x ++ y) front back
    ∙ ap (λ x. x ++ drop (4 * width plan) out) (gained_both t a b plan (take (4 * width plan) out))

-- the state with no word gathered is that of its parts
pub settled : {r : Reader} {gathered out : List ℕ} (last : List ℕ) → Ready r out → gathered ≡ []
    → with_gathered r gathered out last ≡ record { reader = r; out = out; last = last }
settled {r} {gathered} {out} last d e =
    let plan = r.session.plan in
    let part = take (used r) out in
    let same : gained_by plan (r.session.taken - 0) [] part ++ drop (used r) out ≡ out =
    ap (λ x. x ++ drop (used r) out)
    (gained_nothing plan (r.session.taken - 0) part (length-take-le (used r) out (used_fits d)) (unreduced_take p p_pos (used r) out d.out_below))
    ∙ take-append-drop (used r) out in
    rw e
    (ap₂ (λ o l. let s : State = record { reader = r; out = o; last = l } in s) same
    (kept_on_nothing plan.side (width plan) (r.session.taken - 0) last))

module _ {r : Reader} {gathered out last : List ℕ} (h : Gathers r gathered out last) where
  abbrev state : State
  state = with_gathered r gathered out last

  -- and what holds of its parts holds of it
  earlier : Ready (before r gathered) out
  earlier =
      record {
        sound = h.ready.sound;
        one_column = h.ready.one_column;
        few = h.ready.few;
        within = omega (arith, h.ready.within);
        room = h.ready.room;
        out_below = h.ready.out_below;
      }

  pub ready_seen : Ready r state.out
  ready_seen =
      record {
        sound = h.ready.sound;
        one_column = h.ready.one_column;
        few = h.ready.few;
        within = h.ready.within;
        room = gained_room (before r gathered) out earlier gathered;
        out_below = gained_below (before r gathered) out earlier gathered;
      }

  -- they are added
  pub added_gathers : {none : List ℕ} → none ≡ [] → Gathers r none state.out state.last
  unfolding unreduced
  added_gathers e =
      let at = r.session.taken - length gathered in
      let side = r.session.plan.side in
      let inner = width r.session.plan in
      record {
        ready = ready_seen;
        last_ready =
            record {
              room = kept_on_length side inner at gathered last ∙ h.last_ready.room;
              below = kept_on_below side inner at gathered last h.below h.last_ready.below;
            };
        below = ap (unreduced p) e;
        counted = omega (arith, ap length e);
        none = λ q. e;
      }

  pub added_same : {none : List ℕ} → none ≡ [] → with_gathered r none state.out state.last ≡ state
  added_same e = settled state.last ready_seen e

  -- words more are gathered
  module _ {words : List ℕ} (f : Feeds r words) where
    pub more_gathers : Gathers (counted r words) (gathered ++ words) out last
    more_gathers =
        record {
          ready = record {
            sound = h.ready.sound;
            one_column = h.ready.one_column;
            few = h.ready.few;
            within = f.within;
            room = h.ready.room;
            out_below = h.ready.out_below;
          };
          last_ready = h.last_ready;
          below = unreduced_append p gathered words h.below f.below;
          counted = omega (arith, length-append gathered words, h.counted);
          none = λ q. never q;
        }

    pub more_same : with_gathered (counted r words) (gathered ++ words) out last ≡ after_accepted (Words words) state
    more_same =
        let plan = r.session.plan in
        let at = r.session.taken - length gathered in
        let from : r.session.taken + length words - length (gathered ++ words) ≡ at =
        omega (arith, length-append gathered words, h.counted) in
        let to : at + length gathered ≡ r.session.taken = omega (arith, h.counted) in
        ap₂ (λ o l. let s : State = record { reader = counted r words; out = o; last = l } in s)
        (ap (λ n. gained_in plan n (gathered ++ words) out) from
        ∙ sym (gained_in_both plan at gathered words out)
        ∙ ap (λ n. gained_in plan n words (gained_in plan at gathered out)) to)
        (ap (λ n. kept_on plan.side (width plan) n (gathered ++ words) last) from
        ∙ sym (kept_on_both plan.side (width plan) at gathered words last)
        ∙ ap (λ n. kept_on plan.side (width plan) n words (kept_on plan.side (width plan) at gathered last)) to)

-- an accepted line of another kind, where nothing is gathered
module _ (f : Frame) {r : Reader} {gathered out last : List ℕ} (h : Gathers r gathered out last) (e : gathered ≡ [])
    (a : line_answer r (Some f) ≡ 0) (same : last_by r (Some f) last ≡ last) where
  pub other_gathers : Gathers (taken r (Some f)) gathered (out_by r (Some f) out last) last
  other_gathers =
      record {
        ready = keeps h.ready f last a;
        last_ready = h.last_ready;
        below = h.below;
        counted = omega (arith, ap length e);
        none = λ q. e;
      }

  pub other_same : with_gathered (taken r (Some f)) gathered (out_by r (Some f) out last) last ≡ after_accepted f (with_gathered r gathered out last)
  other_same =
      settled last other_gathers.ready e
      ∙ ap (λ l. let s : State = record { reader = taken r (Some f); out = out_by r (Some f) out last; last = l } in s) (sym same)
      ∙ ap (after_accepted f) (sym (settled last h.ready e))
