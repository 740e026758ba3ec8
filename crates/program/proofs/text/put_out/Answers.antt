-- There is an element for each place. Assumes nothing.
use Rattle.std.proofs.Common.{sym, ap, ◌∙◌}
use Rattle.runs.specs.Phases.{is_done}
use Rattle.program.proofs.Texts.{places_fit, done_fits}
use Rattle.program.proofs.text.put_out.Goals as goal

pub put_elements-requires-clause-there : goal.put_elements-requires-clause-there
put_elements-requires-clause-there c = rw (c.width-places.ensures, c.reader-reader.ensures, c.sums.ensures) (places_fit c.requires.ready)

pub put_elements-requires-clause-room : goal.put_elements-requires-clause-room
put_elements-requires-clause-room c =
    rw (c.width-places.ensures, c.reader-reader.ensures)
    (done_fits c.requires.ready
    (sym (c.is_done.ensures ∙ ap (λ r. is_done r.phase) c.reader-reader.ensures) ∙ c.if-not-is_done.false) _ c.requires.room)
