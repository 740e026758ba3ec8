-- More words take the places of the first zeros behind the words. Assumes nothing.
use Rattle.std.proofs.Common.{◌≡◌, ◌+◌, ◌-◌, ◌≤◌, length, ap, arith, length-take-le}
use Rattle.std.proofs.lemmas.Slice.{drop-put_mid}
use borrow.Rule.Slice.PartMut.{same_len_mid}
use Rattle.frame.proofs.ZerosBehind.{fewer}
use Rattle.frame.proofs.Words.extend.Goals as goal

pub invariant_of-self : goal.invariant_of-self
invariant_of-self c =
    let w = c.self.inside in
    let h = c.self.invariant in
    let k = length c.args.words.now in
    let end = w.count + k in
    let there : end ≤ 16 = omega (arith, c.requires, ap length c.self.view_is, length-take-le w.count w.room h.few) in
    let part : end - w.count ≡ k = omega arith in
    let size : length c.copy_from_slice.new.self ≡ end - w.count = rw part (ap length c.copy_from_slice.ensures.after) in
    record {
      few = omega (arith, there, c.self.told, same_len_mid w.count (end - w.count) w.room _ c.copy_from_slice.ensures.len);
      zeros = rw (drop-put_mid w.count (end - w.count) w.room _ end (omega arith) h.few size) (fewer 16 w.room w.count k h.zeros);
    }
