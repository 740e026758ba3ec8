-- A word more takes the place of the first zero behind the words. Assumes nothing.
use Rattle.std.proofs.Common.{◌≡◌, ℕ, ◌+◌, ◌-◌, ◌<◌, List, length, drop, set, replicate, ap, arith, length-take-le}
use Rattle.std.proofs.lemmas.List.{length-set, drop-set-lt}
use Rattle.frame.proofs.ZerosBehind.{fewer}
use Rattle.frame.proofs.Words.push.Goals as goal

one_less : (room : List ℕ) (n w : ℕ) → n < 16 → drop n room ≡ replicate (16 - n) 0 → drop (n + 1) (set room n w) ≡ replicate (16 - (n + 1)) 0
one_less room n w h e = rw (drop-set-lt (n + 1) room n w (omega arith)) (fewer 16 room n 1 e)

pub invariant_of-self : goal.invariant_of-self
invariant_of-self c =
    let w = c.self.inside in
    let h = c.self.invariant in
    let there : w.count < 16 = omega (arith, c.requires, ap length c.self.view_is, length-take-le w.count w.room h.few) in
    record {
      few = omega (arith, there, c.self.told, length-set w.room w.count c.args.word);
      zeros = one_less w.room w.count c.args.word there h.zeros;
    }
