-- Calls that a walk makes one behind the other.
use mathlib.Core.Path.{◌≡◌, refl, sym, ap, subst, ◌∙◌}
use mathlib.Core.Bool.{true, false}
use mathlib.Core.List.{List, [], ◌∷◌}
use Prim.Native.Nat.{ℕ, ◌+◌, ◌-◌, ◌≤◌}
use native.Mathlib.Omega.{arith}
use lib.ListN.{length, take, drop, length-drop}
use lib.Seq.{take-take, drop-drop, length-take-le}
use Rattle.buffer.proofs.Parts.{drop-take}
use Rattle.stream.specs.declared.Event.{Event}
use Rattle.stream.specs.Stream.{Entry, refused_in}
use Rattle.std.specs.Prelude.{None, Some, is_some}
use Rattle.text.specs.Page.{Page}
use Rattle.receiver.specs.declared.Received.{Received}
use Rattle.receiver.specs.Step.{Answered}
use Rattle.receiver.specs.Calls.{Call, piece_at, reported_by}
use Rattle.link.specs.declared.Segments.{Segments}
use Rattle.link.specs.declared.Walk.{Walk}
use Rattle.link.specs.Lines.{lines_of}
use Rattle.link.specs.Walks.{last_of, frames_of, Noted, NotedEvent, reported, with_segments, Advanced, Walked}
use Rattle.link.proofs.Counts.{noted-next, entered-next, entered-last}
use Rattle.link.proofs.Moves.{moves, not_refused}

-- ---- one call

abbrev moved : Walk → Received → Walk
moved w o = record { receiver = o.state; segments = w.segments; taken = w.taken + o.taken; entry_end = w.entry_end; frames = w.frames; refused = w.refused }

module _ (w : Walk) (s piece : List ℕ) (text : Page) (o : Received) (s' : List ℕ) (a : Answered w.receiver s piece o s') where
  abbrev es : List Entry
  es = reported o.report (w.taken + o.taken) s'

  advanced : (r : Walk) (text' : Page) → r.receiver ≡ o.state → r.taken ≡ w.taken + o.taken → Noted w es text r text' → Advanced w s piece text r s' text'
  advanced r text' p q n =
      let m = moves w.receiver s piece o s' a in
      record {
        received = o;
        answered = a;
        state = p;
        taken = q;
        noted = n;
        within = omega (arith, m.within);
        progress = λ live h. omega (arith, m.progress (w.taken + o.taken) s' (sym n.refused ∙ live) h);
        frames-within = omega (arith, m.frames-within (w.taken + o.taken) w.frames s', n.frames);
      }

  pub advance_more : is_some w.refused ≡ false → o.report ≡ None → Advanced w s piece text (moved w o) s' text
  unfolding last_of frames_of lines_of
  advance_more live e = advanced (moved w o) text refl refl (rw e (record { entry-end = refl; frames = refl; refused = live; end = λ e. not_refused live e; lines = refl }))

  pub advance_event : (e : Event) (r : Walk) (text' : Page) → o.report ≡ Some e → NotedEvent (moved w o) e text r text' → Advanced w s piece text r s' text'
  advance_event e r text' q n =
      let m = n.noted s' in
      advanced r text' n.receiver n.taken (rw q (record { entry-end = m.entry-end; frames = m.frames; refused = m.refused; end = m.end; lines = m.lines }))

-- ---- calls one behind the other

-- the bytes behind the first k
behind : (k t : ℕ) (bytes stream : List ℕ) → k ≤ length bytes → take (length bytes) (drop t stream) ≡ bytes → take (length (drop k bytes)) (drop (t + k) stream) ≡ drop k bytes
behind k t bytes stream h e =
    let n : length bytes ≡ k + length (drop k bytes) = omega (arith, length-drop k bytes) in
    let f : drop k (take (k + length (drop k bytes)) (drop t stream)) ≡ drop k bytes = ap (drop k) (ap (λ (m : ℕ). take m (drop t stream)) (sym n) ∙ e) in
    ap (take (length (drop k bytes))) (sym (drop-drop k t stream)) ∙ sym (drop-take k (length (drop k bytes)) (drop t stream)) ∙ f

module _ (w : Walk) (s bytes : List ℕ) (text : Page) where
  pub walked_none : (segments : Segments) → length bytes ≡ 0 → is_some w.refused ≡ false → Walked w s bytes text (with_segments w segments) s text
  unfolding last_of frames_of lines_of
  walked_none segments h live = record {
    calls = [];
    chained = λ stream e. tt;
    state = refl;
    store = refl;
    taken = refl;
    noted = record { entry-end = refl; frames = refl; refused = live; end = λ e. not_refused live e; lines = refl };
    within = omega arith;
    whole = λ e. omega arith;
    frames-within = omega arith;
  }

  module _ (n : ℕ) (h : n ≤ length bytes) (r : Walk) (s₁ : List ℕ) (text₁ : Page) (a : Advanced w s (take n bytes) text r s₁ text₁) where
    abbrev c : Call
    c = record { size = n; received = a.received; store = s₁ }

    lent : (stream : List ℕ) → take (length bytes) (drop w.taken stream) ≡ bytes → Answered w.receiver s (piece_at stream w.taken n) a.received s₁
    lent stream e =
        let p : take n bytes ≡ piece_at stream w.taken n = ap (take n) (sym e) ∙ take-take n (length bytes) (drop w.taken stream) h in
        rw p at a.answered

    taken-few : r.taken ≤ w.taken + n
    taken-few = omega (arith, a.within, length-take-le n bytes h)

    pub walked-refused : is_some r.refused ≡ true → Walked w s bytes text r s₁ text₁
    walked-refused e = record {
      calls = c ∷ [];
      chained = λ stream q. (lent stream q, tt);
      state = a.state;
      store = refl;
      taken = a.taken;
      noted = rw (entered-last a.received.report (w.taken + a.received.taken) s₁) a.noted;
      within = omega (arith, taken-few);
      whole = λ f. absurd (let z : ◌≡◌ {A = ℕ} 0 1 = cc in omega arith);
      frames-within = a.frames-within;
    }

    pub walked_next : (k : ℕ) (r' : Walk) (s' : List ℕ) (text' : Page) → is_some r.refused ≡ false → k ≡ r.taken - w.taken → Walked r s₁ (drop k bytes) text₁ r' s' text' → Walked w s bytes text r' s' text'
    walked_next k r' s' text' live ek x =
        let t = w.taken + a.received.taken in
        let et : r.taken ≡ t = a.taken in
        let ek' : r.taken ≡ w.taken + k = omega arith in
        let l : k ≤ length bytes = omega (arith, taken-few) in
        let lk = length-drop k bytes in
        let clean : refused_in (reported a.received.report t s₁) ≡ false = sym a.noted.refused ∙ live in
        record {
          calls = c ∷ x.calls;
          chained = λ stream e.
              let f : take (length (drop k bytes)) (drop r.taken stream) ≡ drop k bytes = rw ek' (behind k w.taken bytes stream l e) in
              (lent stream e, rw (a.state, et) at (x.chained stream f));
          state = rw a.state at x.state;
          store = x.store;
          taken = rw et at x.taken;
          noted = rw (entered-next a.received.report t s₁ (reported_by t x.calls) clean) (noted-next w r r' (reported a.received.report t s₁) (reported_by t x.calls) text text₁ text' a.noted clean (subst (λ (fs : List Entry). Noted r fs text₁ r' text') (ap (λ (m : ℕ). reported_by m x.calls) et) x.noted));
          within = omega (arith, x.within);
          whole = λ e. omega (arith, x.whole e);
          frames-within = omega (arith, x.frames-within, a.frames-within);
        }

-- ---- the steps: from place at on, and then behind the k bytes that one call took of n

module _ (w : Walk) (s bytes : List ℕ) (text : Page) (at : ℕ) where
  pub step-none : (segments : Segments) (r : Walk) → length bytes ≤ at → is_some w.refused ≡ false → r ≡ with_segments w segments → Walked w s (drop at bytes) text r s text
  step-none segments r h live e = rw e (walked_none w s (drop at bytes) text segments (omega (arith, length-drop at bytes)) live)

  module _ (n : ℕ) (h : at + n ≤ length bytes) (r : Walk) (s₁ : List ℕ) (text₁ : Page) (a : Advanced w s (take ((at + n) - at) (drop at bytes)) text r s₁ text₁) where
    within : (at + n) - at ≤ length (drop at bytes)
    within = omega (arith, length-drop at bytes)

    pub step-refused : is_some r.refused ≡ true → Walked w s (drop at bytes) text r s₁ text₁
    step-refused e = walked-refused w s (drop at bytes) text ((at + n) - at) within r s₁ text₁ a e

    pub step-next : (r' : Walk) (s' : List ℕ) (text' : Page) → is_some r.refused ≡ false → Walked r s₁ (drop (at + (r.taken - w.taken)) bytes) text₁ r' s' text' → Walked w s (drop at bytes) text r' s' text'
    step-next r' s' text' live x =
        let k = r.taken - w.taken in
        walked_next w s (drop at bytes) text ((at + n) - at) within r s₁ text₁ a k r' s' text' live refl (rw (drop-drop k at bytes) x)
