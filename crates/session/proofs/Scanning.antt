-- A word that is not 0, as a search finds it, and the words that are searched. Assumes nothing.
use Rattle.std.proofs.Common.{◌≡◌, refl, ap, ℕ, ◌-◌, List, [], ◌∷◌, length, drop, arith, length-drop}
use lib.Seq.{take_all}
use borrow.Rule.Slice.PartMut.{mid_of}
use Rattle.std.specs.Prelude.{not, nat_eq, ◌||◌}
use Rattle.std.specs.List.{list_any}
use Rattle.ledger.specs.Session.{nonzero}

pub any_nonzero : (ws : List ℕ) → list_any (λ w. not (nat_eq w 0)) ws ≡ nonzero ws
unfolding nonzero
any_nonzero [] = refl
any_nonzero (w ∷ ws) = ap (λ b. not (nat_eq w 0) || b) (any_nonzero ws)

-- the words from word a on, of the words of a plan's coordinates
pub unused : (a : ℕ) (ws : List ℕ) → length ws ≡ 80 → nonzero (mid_of a (80 - a) ws) ≡ nonzero (drop a ws)
unused a ws e = ap nonzero (take_all (80 - a) (drop a ws) (omega (arith, length-drop a ws)))
