-- One call of the receiver: what it takes, and what a walk makes of its report.
use mathlib.Core.Path.{◌≡◌, refl}
use mathlib.Core.Bool.{Bool, true, false, cond}
use mathlib.Core.List.{List}
use Prim.Native.Nat.{ℕ, ◌+◌, ◌≤◌, ◌<◌, zero-le}
use native.Mathlib.Omega.{arith}
use lib.Dec.{ltb}
use lib.ListN.{length}
use lib.Seq.{take-length}
use borrow.Author.Tests.{ltb-true, ltb-false}
use Rattle.refusal.specs.declared.Numbers.{Numbers}
use Rattle.banner.specs.declared.Features.{Features}
use Rattle.banner.specs.declared.Revision.{Revision}
use Rattle.preamble.specs.declared.Header.{Header}
use Rattle.stream.specs.declared.Event.{Event}
use Rattle.stream.specs.declared.Event.TheVariants as event
use Rattle.stream.specs.Events.{ends_frame}
use Rattle.receiver.specs.declared.State.{State}
use Rattle.std.specs.Prelude.{Option, None, Some, is_some}
use Rattle.receiver.specs.declared.Received.{Received}
use Rattle.receiver.specs.State.{agrees, is_refused}
use Rattle.refusal.specs.Refusals.{contradiction}
use Rattle.receiver.specs.Step.{Answered, Running, needed_by, short_store, refused_state}
use Rattle.receiver.specs.Every.{Refuses, Sound}
use Rattle.stream.specs.Stream.{refused_in}
use Rattle.receiver.specs.Calls.{piece_at}
use Rattle.receiver.proofs.Live.{refused_for_lem}
use Rattle.receiver.proofs.Every.{sound, refused-answer, refuses}
use Rattle.receiver.proofs.CallLoop.{taken-within}
use Rattle.text.specs.Page.{Page, puts}
use Rattle.link.specs.declared.Walk.{Walk}
use Rattle.link.specs.Lines.{banner_line, line_of, numbered, lines_of, end_of}
use Rattle.link.specs.Walks.{last_of, frames_of, NotedEvent, reported, framed}

-- ---- what a call takes

pub record Moves (piece : List ℕ) (o : Received) : Type 0 where
  pub within : o.taken ≤ length piece
  pub progress : (at : ℕ) (s : List ℕ) → refused_in (reported o.report at s) ≡ false → 0 < length piece → 0 < o.taken
  pub frames-within : (at k : ℕ) (s : List ℕ) → frames_of k (reported o.report at s) ≤ k + o.taken

numbered-few : (k : ℕ) (e : Event) → numbered k e ≤ k + 1
numbered-few k e = go (ends_frame e)
  where
    go : (b : Bool) → cond b (k + 1) k ≤ k + 1
    go true = omega arith
    go false = omega arith

reported-few : (r : Option Event) (at k : ℕ) (s : List ℕ) → frames_of k (reported r at s) ≤ k + 1
unfolding frames_of
reported-few None at k s = omega arith
reported-few (Some e) at k s = numbered-few k e

frames-more : (r : Option Event) (at k : ℕ) (s : List ℕ) → r ≡ None → frames_of k (reported r at s) ≡ k
unfolding frames_of
frames-more r at k s e = rw e

module _ (piece : List ℕ) (o : Received) (within : o.taken ≤ length piece) where
  moves-refused : (st : State) (n : Numbers) (s s' : List ℕ) → Refuses st n s o s' → Moves piece o
  unfolding frames_of
  moves-refused st n s s' r = record {
    within = within;
    progress = λ at u e h. absurd (let f : true ≡ false = rw r.report at e in let z : ◌≡◌ {A = ℕ} 0 1 = cc in omega arith);
    frames-within = λ at k u. rw r.report (omega arith);
  }

  moves-running : (st : State) (s s' : List ℕ) → Sound st s piece o s' → Running st s → Moves piece o
  moves-running st s s' x l = record {
    within = within;
    progress = λ at u e h. x.progress l h;
    frames-within = λ at k u. by_length at k u (ltb 0 (length piece)) refl;
  }
    where
      by_length : (at k : ℕ) (u : List ℕ) (b : Bool) → ltb 0 (length piece) ≡ b → frames_of k (reported o.report at u) ≤ k + o.taken
      by_length at k u true e = omega (arith, reported-few o.report at k u, x.progress l (ltb-true 0 (length piece) e))
      by_length at k u false e =
          let z : length piece ≡ 0 = omega (arith, ltb-false 0 (length piece) e) in
          omega (arith, frames-more o.report at k u (x.nothing l z).1)

pub moves : (st : State) (s piece : List ℕ) (o : Received) (s' : List ℕ) → Answered st s piece o s' → Moves piece o
moves st s piece o s' a = by_agree (agrees st) refl
  where
    whole : piece_at piece 0 (length piece) ≡ piece
    whole = take-length piece

    within : o.taken ≤ length piece
    within = omega (arith, taken-within piece s st 0 (length piece) o s' zero-le (rw whole a))

    x : Sound st s piece o s'
    x = sound st s piece o s' a

    by_store : agrees st ≡ true → is_refused st.position.stage ≡ false → (b : Bool) → ltb (length s) (needed_by st) ≡ b → Moves piece o
    by_store e l true t = moves-refused piece o within (refused_state st.known (short_store st)) (short_store st) s s' (x.short e l (ltb-true (length s) (needed_by st) t))
    by_store e l false t = moves-running piece o within st s s' x (record { agree = e; live = l; fits = ltb-false (length s) (needed_by st) t })

    by_stage : agrees st ≡ true → (b : Bool) → is_refused st.position.stage ≡ b → Moves piece o
    by_stage e true l = moves-refused piece o within st st.known.refusal s s' (refuses st st.known.refusal a (refused-answer st s piece (refused_for_lem st e l)))
    by_stage e false l = by_store e l (ltb (length s) (needed_by st)) refl

    by_agree : (b : Bool) → agrees st ≡ b → Moves piece o
    by_agree false e = moves-refused piece o within st contradiction s s' (x.contradicts e)
    by_agree true e = by_stage e (is_refused st.position.stage) refl

-- ---- what a walk makes of an event

abbrev after_banner : Walk → Walk
after_banner w = record { receiver = w.receiver; segments = w.segments; taken = w.taken; entry_end = w.taken; frames = w.frames; refused = w.refused }

abbrev after_refusal : Walk → ℕ → Walk
after_refusal w number = record { receiver = w.receiver; segments = w.segments; taken = w.taken; entry_end = w.entry_end; frames = w.frames; refused = Some number }

pub not_refused : {A : Type 0} {b : Bool} → b ≡ false → b ≡ true → A
not_refused e f = absurd (let z : ◌≡◌ {A = ℕ} 0 1 = cc in omega arith)

module _ (w : Walk) (text : Page) where
  pub note_first : (h : Header) → is_some w.refused ≡ false → NotedEvent w (event.First h) text w text
  unfolding last_of frames_of lines_of
  note_first h live = record { receiver = refl; taken = refl; noted = λ s. record { entry-end = refl; frames = refl; refused = live; end = λ e. not_refused live e; lines = refl } }

  pub note_refusal : (n : Numbers) → NotedEvent w (event.Refused n) text (after_refusal w n.number) text
  unfolding last_of frames_of lines_of end_of
  note_refusal n = record { receiver = refl; taken = refl; noted = λ s. record { entry-end = refl; frames = refl; refused = refl; end = λ e bad n p. refl; lines = refl } }

  module _ (text' : Page) (live : is_some w.refused ≡ false) where
    pub note_banner : (p : Features) (r : Revision) → text' ≡ puts (banner_line p r) text → NotedEvent w (event.Banner p r) text (after_banner w) text'
    unfolding last_of frames_of lines_of
    note_banner p r e = record { receiver = refl; taken = refl; noted = λ s. record { entry-end = refl; frames = refl; refused = live; end = λ e. not_refused live e; lines = e } }

    pub note_framed : (h : Header) (r : Walk) → r ≡ framed w → text' ≡ puts (line_of w.frames (event.Frame h)) text → NotedEvent w (event.Frame h) text r text'
    unfolding last_of frames_of lines_of
    note_framed h r q e = rw q (record { receiver = refl; taken = refl; noted = λ s. record { entry-end = refl; frames = refl; refused = live; end = λ e. not_refused live e; lines = e } })

    pub note_dropped : (h : Header) (r : Walk) → r ≡ framed w → text' ≡ puts (line_of w.frames (event.Dropped h)) text → NotedEvent w (event.Dropped h) text r text'
    unfolding last_of frames_of lines_of
    note_dropped h r q e = rw q (record { receiver = refl; taken = refl; noted = λ s. record { entry-end = refl; frames = refl; refused = live; end = λ e. not_refused live e; lines = e } })
