-- `byte_fold::Section::gather`, by the side, and by whether there is one section. Assumes nothing.
use Rattle.std.proofs.Common.{arith}
use Rattle.byte_fold.proofs.Gathering.{suffix_there, suffix_read, whole_there, whole_read, start_fits, strided, rows_read}
use Rattle.byte_fold.proofs.Section.gather.Goals as goal

pub decode-requires : goal.decode-requires
decode-requires c = suffix_there c.args.self.now c.requires c.rows.ensures

pub returns-in-Suffix : goal.returns-in-Suffix
returns-in-Suffix c = suffix_read c.args.self.now c.requires c.rows.ensures c.in-Suffix.is c.decode.ensures

-- one section
pub decode-requires-then-own-self : goal.decode-requires-then-own-self
decode-requires-then-own-self c = whole_there c.args.self.now c.requires c.in-Prefix.is c.places-own.ensures c.if-own-self.true

pub returns-then-own-self : goal.returns-then-own-self
returns-then-own-self c =
    whole_read c.args.self.now c.requires c.in-Prefix.is c.places-own.ensures c.if-own-self.true c.decode-then-own-self.ensures

-- rows of a section among others
pub overflow_mul-rows : goal.overflow_mul-rows
overflow_mul-rows c = omega (arith, start_fits c.args.self.now c.requires c.in-Prefix.is c.places-own.ensures)

pub overflow_add-rows : goal.overflow_add-rows
overflow_add-rows c = omega (arith, start_fits c.args.self.now c.requires c.in-Prefix.is c.places-own.ensures)

pub gather-requires : goal.gather-requires
gather-requires c = strided c.args.self.now c.requires c.in-Prefix.is c.places-own.ensures

pub returns-else-own-self : goal.returns-else-own-self
returns-else-own-self c = rows_read c.args.self.now c.requires c.in-Prefix.is c.places-own.ensures c.gather.ensures
