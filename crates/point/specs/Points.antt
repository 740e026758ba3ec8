-- A point's coordinates, as elements. Assumes nothing.
use Rattle.std.specs.Prelude.{List}
use Rattle.field.specs.Field.{Ext}
use Rattle.table.specs.Table.{elements}
use Rattle.point.specs.declared.Point.{Point}

-- the first `count` elements of the words
abbrev pub coordinates : Point → List Ext
coordinates point = elements point.words.now 0 point.count
