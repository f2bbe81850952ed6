use Rattle.link.proofs.Moves.{note_banner, note_first, note_framed, note_dropped, note_refusal}
use Rattle.link.proofs.steps.note.Goals as goal

pub returns-in-Banner : goal.returns-in-Banner
returns-in-Banner c = rw c.in-Banner.is (note_banner _ _ _ c.requires.0 _ _ c.put_banner.ensures)

pub returns-in-First : goal.returns-in-First
returns-in-First c = rw c.in-First.is (note_first _ _ _ c.requires.0)

pub returns-in-Frame : goal.returns-in-Frame
returns-in-Frame c = rw c.in-Frame.is (note_framed _ _ _ c.requires.0 _ _ c.note_frame.ensures.value c.note_frame.ensures.lines)

pub returns-in-Dropped : goal.returns-in-Dropped
returns-in-Dropped c = rw c.in-Dropped.is (note_dropped _ _ _ c.requires.0 _ _ c.note_frame-in-Dropped.ensures.value c.note_frame-in-Dropped.ensures.lines)

pub returns-in-Refused : goal.returns-in-Refused
returns-in-Refused c = rw c.in-Refused.is (note_refusal _ _ _)
