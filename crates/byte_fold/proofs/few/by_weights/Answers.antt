-- By rows and by groups, as whole tables of words are. Assumes nothing.
use Rattle.std.proofs.Common.{◌∙◌, ◌+◌, ◌*◌, ap, arith, get_or}
use Rattle.octets.specs.Octets.{words, octets}
use Rattle.table.specs.Table.{entries, table_words}
use Rattle.kernel.proofs.Weighing.{raised_weights, lowered_again}
use Rattle.piece.proofs.FewRows.{counted, grouped, row_weights, rows_fold, groups_fold}
use Rattle.byte_fold.proofs.few.by_weights.Goals as goal

pub raised_apart-raised-requires : goal.raised_apart-raised-requires
raised_apart-raised-requires g c =
    (omega (arith, c.requires.few), row_weights c.weights_of-weights.ensures c.requires.few.1)

pub put_rows-requires : goal.put_rows-requires
put_rows-requires g c = (
  omega (arith, c.requires.few),
  (
    ((grouped c.requires.fills.0 c.requires.rows).0, omega (arith, counted c.requires.fills.0, c.requires.fills.1)),
    raised_weights c.requires.few.1 c.weights_of-weights.ensures.len c.raised_apart-raised.ensures,
  ),
)

pub put_groups-requires : goal.put_groups-requires
put_groups-requires g c = (
  omega (arith, c.requires.few),
  (
    ((grouped c.requires.fills.0 c.requires.rows).0, omega (arith, counted c.requires.fills.0, c.requires.fills.1)),
    raised_weights c.requires.few.1 c.weights_of-weights.ensures.len c.raised_apart-raised.ensures,
  ),
)

pub returns-in-Prefix : goal.returns-in-Prefix
returns-in-Prefix g c =
    c.put_rows.ensures
    ∙ ap octets
    (rows_fold c.requires.fills.0 c.requires.rows (omega (arith, c.requires.few)) c.weights_of-weights.ensures
    (rw (c.point.ensures.words, c.point.ensures.count) at c.block_of-block.ensures) c.in-Prefix.is
    (ap (table_words _)
    (λ j i. lowered_again _ _ _ (λ t. get_or c.args.table.now (t * entries (words c.args.out.now) + i) 0) c.raised_apart-raised.ensures j)))

pub returns-in-Suffix : goal.returns-in-Suffix
returns-in-Suffix g c =
    c.put_groups.ensures
    ∙ ap octets
    (groups_fold c.requires.fills.0 c.requires.rows (omega (arith, c.requires.few)) c.weights_of-weights.ensures
    (rw (c.point.ensures.words, c.point.ensures.count) at c.block_of-block.ensures) c.in-Suffix.is
    (ap (table_words _)
    (λ j i. lowered_again _ _ _ (λ t. get_or c.args.table.now (g.row.N * i + t) 0) c.raised_apart-raised.ensures j)))
