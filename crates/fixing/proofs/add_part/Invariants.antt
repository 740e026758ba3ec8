-- `fixing::add_part`'s loop: the entries before entry i are sums.
use Rattle.std.proofs.Common.{◌≡◌}
use Rattle.field.specs.Field.{field, from_words, Holds}
use Rattle.fixing.specs.Fixing.{Prefix}
use Rattle.fixing.specs.Inner.{Combined, pair_of}
use Rattle.fixing.proofs.add_part.Given as goal

abbrev pub invariant-loop-i : goal.invariant-loop-i
invariant-loop-i l =
    Combined (λ i j. j ≡ pair_of Prefix l.h i) (λ a b e. Holds e (field.add (from_words a) (from_words b)))
    l.from l.i l.fn.entries l.entries
