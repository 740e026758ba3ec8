-- Where the sides are the same, and the suffix side. Assumes nothing.
use Rattle.std.proofs.Common.{◌≡◌, sym, ◌∙◌, arith, rules}
use denote.Enum.Bare.{same_true}
use Rattle.multilinear.specs.contracts.Side.{the_type}
use Rattle.multilinear.specs.declared.Side.TheVariants.{Suffix}
use Rattle.moved.proofs.Moving.{one_word}
use Rattle.moved.proofs.Piece.add_by.Goals as goal
use Rattle.moved.proofs.Piece.add_by.Goals.{then-self-eq1, else-self-eq1}

pub returns-then-eq : goal.returns-then-eq
returns-then-eq g c =
    elim c.if-self-eq1.branch [
      | then-self-eq1 w ↦ one_word c.args.side c.args.self.now (grind arith) c.by_split.ensures
      | else-self-eq1 w ↦
          let e : c.args.side ≡ Suffix = same_true the_type (search rules) _ _ (sym w.eq.ensures ∙ sym w.value-is ∙ c.if-eq.true) in
          rw e c.by_split.ensures
    ]
