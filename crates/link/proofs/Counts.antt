-- Counts and lines of entries, one list behind another.
use mathlib.Core.Path.{◌≡◌, refl, sym, ap, ◌∙◌}
use mathlib.Core.Bool.{Bool, false}
use mathlib.Core.List.{List, [], ◌∷◌, ◌++◌, append_assoc}
use Prim.Native.Nat.{ℕ}
use Rattle.stream.specs.Stream.{Entry, entry, refused_in}
use Rattle.std.specs.Prelude.{Option, None, Some}
use Rattle.stream.specs.declared.Event.{Event}
use Rattle.receiver.specs.Calls.{entered}
use Rattle.receiver.proofs.Appended.{clean-here, clean-behind, passing-same, refused-append}
use Rattle.text.specs.Page.{Page}
use Rattle.text.proofs.Laws.{puts-append}
use Rattle.link.specs.declared.Walk.{Walk}
use Rattle.link.specs.Lines.{line_of, numbered, lines_of, entry_end_by, end_of}
use Rattle.link.specs.Walks.{last_of, frames_of, Noted, reported}

pub last-append : (p : ℕ) (es fs : List Entry) → last_of p (es ++ fs) ≡ last_of (last_of p es) fs
unfolding last_of
last-append p [] fs = refl
last-append p (e ∷ es) fs = last-append (entry_end_by p e.event e.at) es fs

pub frames-append : (k : ℕ) (es fs : List Entry) → frames_of k (es ++ fs) ≡ frames_of (frames_of k es) fs
unfolding frames_of
frames-append k [] fs = refl
frames-append k (e ∷ es) fs = frames-append (numbered k e.event) es fs

pub lines-append : (k : ℕ) (es fs : List Entry) → refused_in es ≡ false → lines_of k (es ++ fs) ≡ lines_of k es ++ lines_of (frames_of k es) fs
unfolding lines_of frames_of
lines-append k [] fs h = refl
lines-append k (e ∷ es) fs h =
    let n = numbered k e.event in
    rw (clean-here e.event (refused_in es) h, lines-append n es fs (clean-behind e.event (refused_in es) h)) (sym (append_assoc (line_of k e.event) (lines_of n es) (lines_of (frames_of n es) fs)))

-- the end, where no refusal comes first
pub end-append : (bad : Bool) (n p : ℕ) (es fs : List Entry) → refused_in es ≡ false → end_of bad n p (es ++ fs) ≡ end_of bad n (last_of p es) fs
unfolding end_of last_of
end-append bad n p [] fs h = refl
end-append bad n p (e ∷ es) fs h =
    rw (clean-here e.event (refused_in es) h) (end-append bad n (entry_end_by p e.event e.at) es fs (clean-behind e.event (refused_in es) h))

-- notes of one list behind those of another
pub noted-next : (w w₁ r : Walk) (es fs : List Entry) (text text₁ text' : Page) → Noted w es text w₁ text₁ → refused_in es ≡ false → Noted w₁ fs text₁ r text' → Noted w (es ++ fs) text r text'
noted-next w w₁ r es fs text text₁ text' a h b = record {
  entry-end = b.entry-end ∙ rw a.entry-end (sym (last-append w.entry_end es fs));
  frames = b.frames ∙ rw a.frames (sym (frames-append w.frames es fs));
  refused = b.refused ∙ sym (refused-append es fs h);
  end = λ e bad n p. end-append bad n p es fs h ∙ b.end e bad n (last_of p es);
  lines = b.lines ∙ rw (a.frames, a.lines, lines-append w.frames es fs h) (sym (puts-append (lines_of w.frames es) (lines_of (frames_of w.frames es) fs) text));
}

-- a report's entry, before those of later calls
pub entered-next : (r : Option Event) (at : ℕ) (s : List ℕ) (es : List Entry) → refused_in (reported r at s) ≡ false → entered r at s es ≡ reported r at s ++ es
entered-next None at s es h = refl
entered-next (Some e) at s es h = rw (clean-here e false h)

-- and behind those of all others
pub entered-last : (r : Option Event) (at : ℕ) (s : List ℕ) → entered r at s [] ≡ reported r at s
entered-last None at s = refl
entered-last (Some e) at s = ap (λ (es : List Entry). entry e at s ∷ es) (passing-same e [])
