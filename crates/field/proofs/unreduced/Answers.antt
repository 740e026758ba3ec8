-- `field::unreduced` meets its contract: the largest word is not below the modulus if one is not. Assumes nothing.
use Rattle.std.proofs.Common.{rules, ◌≡◌, ℕ, ◌||◌, max, leb, refl, sym, subst, arith}
use Rattle.std.proofs.lemmas.Bool.Decides.{leb_tells}
use Rattle.std.proofs.lemmas.Fn.{fold_over, slice_gives, fronts}
use Rattle.algebra.specs.Words.{unreduced}
use Rattle.algebra.proofs.Words.{unreduced_push}
use Rattle.field.specs.Field.{p}
use Rattle.field.proofs.unreduced.Goals as goal

largest_of_two : (m a b : ℕ) → leb m (max a b) ≡ leb m a || leb m b
largest_of_two m a b = grind (arith, leb_tells m (max a b), leb_tells m a, leb_tells m b)

pub returns : goal.returns
unfolding unreduced
returns c =
    subst (λ ws. leb p c.fold-largest.result ≡ unreduced p ws) c.iter.ensures.rest
    (fold_over fronts (λ y. y.now) _ (λ ys most. leb p most ≡ unreduced p ys) _
    (λ ys a x b f j k.
    let larger : b ≡ max a x.now = search rules in
    (rw larger (rw unreduced_push (rw (sym j) (largest_of_two p a x.now))), search rules))
    _ _ _ _ (slice_gives c.iter.result) refl c.fold-largest.ensures.ran)
