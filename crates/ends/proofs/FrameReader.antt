-- Frames one behind the other, by any definition that reads one frame at a time: how many there may be does not matter as long as it is enough, and
-- behind a front at whose end a frame begins, the list goes on with the frames of what follows.
use Prim.Native.Nat.{ℕ, zero, suc, ◌+◌, ◌≤◌, ◌<◌}
use mathlib.Core.List.{List, [], ◌∷◌, ◌++◌, append_assoc, append-nil}
use mathlib.Core.Path.{◌≡◌, refl, sym, ap, ◌∙◌}
use mathlib.Core.Bool.{true}
use native.Mathlib.Omega.{arith}
use native.Mathlib.Nat.{add-zero}
use lib.ListN.{length, length-append, drop_of_length-le}
use Rattle.stream.specs.declared.Event.{Event}
use Rattle.stream.specs.Events.{ends_frame}
use Rattle.stream.specs.Stream.{Entry, entry, Trace, ended}
use Rattle.ends.specs.Handed.{FramesUpTo}

-- by how many frames there may be, what they are read with, their place, their bytes and the store
abbrev pub Reading : Type 0 → Type 0
Reading C = ℕ → C → ℕ → List ℕ → List ℕ → Trace

-- entries, and what follows them
abbrev pub behind : List Entry → Trace → Trace
behind es t = record { entries = es ++ t.entries; store = t.store }

-- X, from byte P on, is read as es, whatever follows it
pub record Reads {C : Type 0} (frames : Reading C) (c : C) (P : ℕ) (X s : List ℕ) (es : List Entry) (c' : C) (s' : List ℕ) : Type 0 where
  pub reads : (g k : ℕ) (Y : List ℕ) → length (X ++ Y) ≤ g → length Y ≤ k → frames g c P (X ++ Y) s ≡ behind es (frames k c' (P + length X) Y s')

-- a frame or a drop at the front of X, which ends at byte Q; X' stands behind it
pub record OneFrame {C : Type 0} (frames : Reading C) (later : C → List Entry → C) (c : C) (P : ℕ) (X s : List ℕ) (es : List Entry) (v : Event) (c' : C) (Q : ℕ) (X' s' : List ℕ) : Type 0 where
  pub gives : (f : ℕ) (Y : List ℕ) → frames (suc f) c P (X ++ Y) s ≡ behind (es ++ (entry v Q s' ∷ [])) (frames f c' Q (X' ++ Y) s')
  pub frame : ends_frame v ≡ true
  pub up : (n : ℕ) (fs : List Entry) → FramesUpTo n P ((es ++ (entry v Q s' ∷ [])) ++ fs) → FramesUpTo n Q fs
  pub place : Q + length X' ≡ P + length X
  pub less : length X' < length X
  pub kept : length s' ≡ length s
  pub state : (fs : List Entry) → later c ((es ++ (entry v Q s' ∷ [])) ++ fs) ≡ later c' fs

-- what the front of X comes to
pub data AtFront {C : Type 0} (frames : Reading C) (later : C → List Entry → C) (c : C) (P : ℕ) (X s : List ℕ) : Type 0 where
  stops : (t : Trace) → ((n : ℕ) → FramesUpTo n P t.entries → P ≡ n) → ((f : ℕ) → frames (suc f) c P X s ≡ t) → AtFront frames later c P X s
  one-frame : (es : List Entry) (v : Event) (c' : C) (Q : ℕ) (X' s' : List ℕ) → OneFrame frames later c P X s es v c' Q X' s' → AtFront frames later c P X s

-- later: what the frames behind some entries are read with
pub record FrameReader (C : Type 0) : Type 0 where
  pub frames : Reading C
  pub later : C → List Entry → C
  pub none : (f : ℕ) (c : C) (P : ℕ) (s : List ℕ) → frames f c P [] s ≡ ended s
  pub start : (c : C) → later c [] ≡ c
  pub next : (c : C) (P : ℕ) (X s : List ℕ) → AtFront frames later c P X s

module _ {C : Type 0} (R : FrameReader C) where
  pub alone : {c c' : C} {P Q : ℕ} {X X' s s' : List ℕ} {es : List Entry} {v : Event} → OneFrame R.frames R.later c P X s es v c' Q X' s' → (f : ℕ)
      → R.frames (suc f) c P X s ≡ behind (es ++ (entry v Q s' ∷ [])) (R.frames f c' Q X' s')
  alone {X = X} {X' = X'} g f = rw (append-nil X, append-nil X') at (g.gives f [])

  -- ---- how many frames there may be

  fuel-next : (f g : ℕ) (c : C) (P : ℕ) (X s : List ℕ) → ((c : C) (P : ℕ) (X s : List ℕ) → length X ≤ f → length X ≤ g → R.frames f c P X s ≡ R.frames g c P X s)
      → length X ≤ suc f → length X ≤ suc g → AtFront R.frames R.later c P X s → R.frames (suc f) c P X s ≡ R.frames (suc g) c P X s
  fuel-next f g c P X s ih hf hg (stops t u e) = e f ∙ sym (e g)
  fuel-next f g c P X s ih hf hg (one-frame es v c' Q X' s' n) =
      let l = n.less in
      alone n f ∙ ap (behind (es ++ (entry v Q s' ∷ []))) (ih c' Q X' s' (omega arith) (omega arith)) ∙ sym (alone n g)

  fuel-none : (f g : ℕ) (c : C) (P : ℕ) (X s : List ℕ) → length X ≤ 0 → R.frames f c P X s ≡ R.frames g c P X s
  fuel-none f g c P X s h = rw (drop_of_length-le X {i = 0} h) (R.none f c P s ∙ sym (R.none g c P s))

  pub fuel : (f g : ℕ) (c : C) (P : ℕ) (X s : List ℕ) → length X ≤ f → length X ≤ g → R.frames f c P X s ≡ R.frames g c P X s
  fuel zero g c P X s hf hg = fuel-none zero g c P X s hf
  fuel (suc f) zero c P X s hf hg = fuel-none (suc f) zero c P X s hg
  fuel (suc f) (suc g) c P X s hf hg = fuel-next f g c P X s (fuel f g) hf hg (R.next c P X s)

  -- ---- a front and what follows it

  pub reads_none : (c : C) (P : ℕ) (s : List ℕ) → Reads R.frames c P [] s [] c s
  reads_none c P s = record { reads = λ g k Y hg hk. rw (add-zero P) (fuel g k c P Y s hg hk) }

  -- one frame to byte Q, and X' behind it
  pub reads-step : {c c' c'' : C} {P Q : ℕ} {X X' s s' s'' : List ℕ} {fs : List Entry} (es : List Entry)
      → ((f : ℕ) (Y : List ℕ) → R.frames (suc f) c P (X ++ Y) s ≡ behind es (R.frames f c' Q (X' ++ Y) s'))
      → Q + length X' ≡ P + length X → length X' < length X → Reads R.frames c' Q X' s' fs c'' s'' → Reads R.frames c P X s (es ++ fs) c'' s''
  reads-step {c} {c'' = c''} {P = P} {X = X} {X' = X'} {s = s} {s'' = s''} {fs = fs} es gives place less r = record { reads = go }
    where
      go : (g k : ℕ) (Y : List ℕ) → length (X ++ Y) ≤ g → length Y ≤ k → R.frames g c P (X ++ Y) s ≡ behind (es ++ fs) (R.frames k c'' (P + length X) Y s'')
      go zero k Y hg hk = (let a = length-append X Y in absurd (omega arith))
      go (suc g) k Y hg hk =
          let a = length-append X Y in
          let a' = length-append X' Y in
          gives g Y ∙ rw (r.reads g k Y (omega arith) hk, place, append_assoc)

  -- from byte P on, where X ends where a frame does
  pub record Concatenates (f : ℕ) (c : C) (P : ℕ) (X s : List ℕ) : Type 0 where
    pub joins : Reads R.frames c P X s (R.frames f c P X s).entries (R.later c (R.frames f c P X s).entries) (R.frames f c P X s).store
    pub same : length (R.frames f c P X s).store ≡ length s

  concatenate-none : (f : ℕ) (c : C) (P : ℕ) (X s : List ℕ) → length X ≤ 0 → Concatenates f c P X s
  concatenate-none f c P X s h =
      rw (drop_of_length-le X {i = 0} h) (record { joins = rw (R.none f c P s, R.start c) (reads_none c P s); same = rw (R.none f c P s) refl })

  concatenate-next : (f : ℕ) (c : C) (P : ℕ) (X s : List ℕ)
      → ((c : C) (P : ℕ) (X s : List ℕ) → length X ≤ f → FramesUpTo (P + length X) P (R.frames f c P X s).entries → Concatenates f c P X s)
      → length X ≤ suc f → FramesUpTo (P + length X) P (R.frames (suc f) c P X s).entries → AtFront R.frames R.later c P X s → Concatenates (suc f) c P X s
  concatenate-next f c P X s ih enough up (stops t u e) = (let z = u (P + length X) (rw (e f) at up) in concatenate-none (suc f) c P X s (omega arith))
  concatenate-next f c P X s ih enough up (one-frame es v c' Q X' s' n) =
      let l = n.less in
      let e = alone n f in
      let i = ih c' Q X' s' (omega arith) (rw n.place (n.up (P + length X) (R.frames f c' Q X' s').entries (rw e at up))) in
      record {
        joins = rw (e, n.state (R.frames f c' Q X' s').entries) (reads-step (es ++ (entry v Q s' ∷ [])) n.gives n.place n.less i.joins);
        same = rw e (i.same ∙ n.kept);
      }

  pub concatenate : (f : ℕ) (c : C) (P : ℕ) (X s : List ℕ) → length X ≤ f → FramesUpTo (P + length X) P (R.frames f c P X s).entries → Concatenates f c P X s
  concatenate zero c P X s enough up = concatenate-none zero c P X s enough
  concatenate (suc f) c P X s enough up = concatenate-next f c P X s (concatenate f) enough up (R.next c P X s)
