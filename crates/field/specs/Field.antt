-- The field of document 01, "The field": p = 2013265921, elements c0 + c1·X + c2·X² + c3·X³ with X⁴ = 11; the words of an `Element` as
-- an element of it, and back. Assumes nothing.
use Rattle.std.specs.Prelude.{◌≡◌, ℕ, ◌<◌, false, slice_index}
use Rattle.std.proofs.Common.{lit<}
use Rattle.algebra.specs.Ring.{Ops}
use Rattle.algebra.specs.Residue.{Residue, reduce, residues}
use Rattle.algebra.specs.Quartic.{Quartic, quartic, constant}
use Rattle.algebra.specs.Words.{words_of, numbers, unreduced}
use Rattle.field.specs.declared.Element.{Element}

abbrev pub p : ℕ
p = 2013265921

pub p_pos : 0 < p
p_pos = lit< tt

-- X⁴
abbrev pub factor : ℕ
factor = 11

-- the elements and their operations
abbrev pub Ext : Type 0
Ext = Quartic (Residue p)

unfoldable pub field : Ops Ext
field = quartic (residues p p_pos) (reduce p p_pos factor)

-- "A single number a below means (a, 0, 0, 0)"
unfoldable pub base : ℕ → Ext
base a = constant (residues p p_pos) (reduce p p_pos factor) (reduce p p_pos a)

-- an element's words, and the element of words
unfoldable pub to_words : Ext → Element
to_words x = record { c = words_of x }

abbrev pub at : Element → ℕ → ℕ
at e i = slice_index e.c i

unfoldable pub from_words : Element → Ext
from_words e = numbers p p_pos (at e 0) (at e 1) (at e 2) (at e 3)

-- each word is below p
pub record Reduced (e : Element) : Type 0 where
  pub words_below : unreduced p e.c ≡ false

-- e has the words of x; so they are below p
pub record Holds (e : Element) (x : Ext) : Type 0 where
  pub words : e ≡ to_words x
  pub below : Reduced e

-- R holds at each place of e's word there
pub record ByWord (R : ℕ → ℕ → Type 0) (e : Element) : Type 0 where
  pub each : R 0 (at e 0) × R 1 (at e 1) × R 2 (at e 2) × R 3 (at e 3)
