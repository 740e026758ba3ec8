-- Where the sides are the same, and the side otherwise. Assumes nothing.
use Rattle.std.proofs.Common.{◌≡◌, false, refl, sym, ◌∙◌, arith, rules}
use denote.Enum.Bare.{sameb, same_true}
use Rattle.multilinear.specs.contracts.Side.{the_type}
use Rattle.multilinear.specs.declared.Side.{Side}
use Rattle.multilinear.specs.declared.Side.TheVariants.{Prefix, Suffix}
use Rattle.moved.proofs.Moving.{one_word, one_row}
use Rattle.moved.proofs.Piece.add.Goals as goal
use Rattle.moved.proofs.Piece.add.Goals.{then-self-eq0, else-self-eq0+then-eq, else-self-eq0+else-eq}

suffix : (side : Side) → false ≡ sameb the_type side Prefix → side ≡ Suffix
suffix Prefix e = search rules
suffix Suffix e = refl

pub returns-then-self-ne1 : goal.returns-then-self-ne1
returns-then-self-ne1 c =
    elim c.if-self-eq0.branch [
      | then-self-eq0 w ↦ one_row c.args.side c.args.self.now w.if-self-eq0.true c.by_rows.ensures
      | else-self-eq0+then-eq w ↦
          let e : c.args.side ≡ Prefix = same_true the_type (search rules) _ _ (sym w.eq.ensures ∙ w.if-eq.true) in
          rw e c.by_rows.ensures
      | else-self-eq0+else-eq w ↦ absurd (grind arith)
    ]

pub returns-else-self-ne1 : goal.returns-else-self-ne1
returns-else-self-ne1 c =
    elim c.if-self-eq0.branch [
      | then-self-eq0 w ↦ absurd (grind arith)
      | else-self-eq0+then-eq w ↦ one_word c.args.side c.args.self.now (grind arith) c.by_places.ensures
      | else-self-eq0+else-eq w ↦
          let e = suffix c.args.side (sym w.if-eq.false ∙ w.eq.ensures) in
          rw e c.by_places.ensures
    ]
