-- The starred cases hold, by computing both sides. Assumes nothing.
use mathlib.Core.Path.{refl}
use lib.Count.{ones, ones_in, count_trailing_zeros}
use Rattle.algebra.specs.Residue.{reduce, residues}
use Rattle.algebra.specs.Quartic.{quartic, constant}
use Rattle.algebra.specs.Sum.{sum_to}
use Rattle.algebra.specs.Words.{words_of, numbers, unreduced}
use Rattle.multilinear.specs.Equality.{eq_at}
use Rattle.multilinear.specs.Successors.{eval_next}
use Rattle.multilinear.specs.Values.{value_at, next_value_at}
use Rattle.multilinear.specs.Folds.{fold_at}
use Rattle.field.specs.Field.{field, base, from_words}
use Rattle.table.specs.Table.{table_words, get_at, elements}
use Rattle.table.specs.Refusals.{verdict}
use Rattle.plan.specs.Plan.{place_of}
use Rattle.point.specs.Point.{table_answer, equality_out}
use Rattle.next.specs.Next.{eval_next_answer}
use Rattle.poly.specs.Poly.{new_answer, new_out, weights_out}
use Rattle.poly.specs.Values.{eval_base_answer, eval_ext_answer, eval_next_base_answer}
use Rattle.split_tests.specs.SplitTests.{fold_answer}
use Rattle.split_eq.specs.Split.{fold_out}
use Rattle.starred.specs.Starred.{Hold, starred}

pub starred_hold : Hold starred
unfolding words_of numbers from_words base constant field quartic residues reduce sum_to eq_at eval_next value_at next_value_at fold_at unreduced table_words get_at elements ones ones_in count_trailing_zeros verdict table_answer equality_out eval_next_answer new_answer new_out weights_out eval_base_answer eval_ext_answer eval_next_base_answer fold_answer fold_out place_of
starred_hold = (refl, (refl, (refl, (refl, (refl, (refl, (refl, (refl, (refl, (refl, (refl, (refl, (refl, (refl, (refl, tt)))))))))))))))
