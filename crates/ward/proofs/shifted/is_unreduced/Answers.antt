-- The largest word is not below the modulus if one is not. Assumes nothing.
use Rattle.std.proofs.Common.{rules, ◌≡◌, ◌/◌, ◌∙◌, max, leb, length, refl, ap, map, subst}
use Rattle.std.proofs.lemmas.Fn.{fold_over, slice_gives, fronts}
use Rattle.algebra.specs.Words.{unreduced}
use Rattle.field.specs.Field.{p}
use Rattle.ward.proofs.Testing.{word, by_four, one_more}
use Rattle.ward.proofs.shifted.is_unreduced.Goals as goal

pub returns : goal.returns
unfolding unreduced
returns c =
    let bytes = c.args.bytes.now in
    let read = ap (map word) (c.iter.ensures.rest ∙ c.as_chunks.ensures.front) ∙ by_four (length bytes / 4) bytes refl in
    subst (λ ws. leb p c.fold-largest.result ≡ unreduced p ws) read
    (fold_over fronts (λ y. y.now) _ (λ ys most. leb p most ≡ unreduced p (map word ys)) _
    (λ ys a x b f j k. let larger : b ≡ max a (word x.now) = search rules in (one_more ys x.now a j larger, search rules))
    _ _ _ _ (slice_gives c.iter.result) refl c.fold-largest.ensures.ran)
