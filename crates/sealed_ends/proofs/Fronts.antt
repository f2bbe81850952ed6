-- A front at whose end a sealed frame begins, and what follows it: by the definition, and by the calls.
use mathlib.Core.Path.{◌≡◌, refl, sym, ap, ap₂, ◌∙◌}
use mathlib.Core.Bool.{cond}
use mathlib.Core.List.{List, [], ◌∷◌, ◌++◌, append_assoc}
use Prim.Native.Nat.{ℕ, zero, suc, ◌+◌, ◌-◌, ◌≤◌, ◌<◌}
use native.Mathlib.Nat.{zero-add, le_refl}
use native.Mathlib.Omega.{arith}
use lib.ListN.{length, take, drop, length-append, length-drop, drop_of_length-le}
use lib.Seq.{drop_at, take-append-add}
use Rattle.banner.specs.declared.Features.{Features}
use Rattle.banner.specs.declared.Revision.{Revision}
use Rattle.banner.specs.Banner.{judge_own}
use Rattle.stream.specs.Events.{Role, banner_end, first_end, frame_end, stream_end, role_of, is_frame_end}
use Rattle.stream.specs.declared.Event.TheVariants.{Banner}
use Rattle.stream.specs.Stream.{Entry, entry, Trace, payload_of, peer_of, trace_of}
use Rattle.stream.specs.Stream as crc
use Rattle.stream.proofs.Laws as crc-laws
use Rattle.aes.specs.Aes.{State, key_expansion}
use Rattle.secure.specs.Reading.{frames, sealed_trace}
use Rattle.ends.specs.Handed.{FramesUpToAt, FramesUpTo, UpTo}
use Rattle.ends.proofs.FrameReader.{behind, AtFront, stops, one-frame, alone, Concatenates, concatenate}
use Rattle.ends.proofs.Concatenation as crc-frames
use Rattle.ends.proofs.Banners.{spoken, met-trace, up-met, follows_on}
use Rattle.connection.specs.Switched as switched
use Rattle.connection.specs.Switched.{Switch, spliced, trace_with, frames_in}
use Rattle.connection.specs.Step.{begun}
use Rattle.connection.specs.Calls.{Call, Chained, taken_by, list_of, switch_by, SwitchedDemand3}
use Rattle.connection.proofs.Scans.{LastEndsFrame}
use Rattle.connection.proofs.Splices.{spliced-there}
use Rattle.connection.proofs.Chain.{switched-demand3}
use Rattle.sealed_ends.specs.Fronts.{parts_in, Front, bytes_in, crc_in, sealed_in, switch_in, trace_in, spent_in, next_in, Begins}
use Rattle.sealed_ends.proofs.Concatenation.{sealed_reader}

-- ---- entries up to a frame

pub last_cons : (e : Entry) (es : List Entry) (t : ℕ) (s : List ℕ) → LastEndsFrame es t s → LastEndsFrame (e ∷ es) t s
last_cons e [] t s l = absurd l
last_cons e (f ∷ es) t s l = l

pub last-two : (es fs : List Entry) (t : ℕ) (s : List ℕ) → LastEndsFrame fs t s → LastEndsFrame (es ++ fs) t s
last-two [] fs t s l = l
last-two (e ∷ es) fs t s l = last_cons e (es ++ fs) t s (last-two es fs t s l)

-- without a frame the place stays
none_left : (N P : ℕ) (es : List Entry) → FramesUpTo N P es → frames_in es ≡ 0 → P ≡ N
none_left N P [] u z = u
none_left N P (e ∷ es) u z = go (role_of e.event) u z (λ Q. none_left N Q es)
  where
    go : (v : Role) → FramesUpToAt v P e.at (λ Q. FramesUpTo N Q es) → cond (is_frame_end v) (suc (frames_in es)) (frames_in es) ≡ 0
        → ((Q : ℕ) → FramesUpTo N Q es → frames_in es ≡ 0 → Q ≡ N) → P ≡ N
    go (banner_end p r) u z ih = absurd u
    go (first_end h) u z ih = ih P u z
    go (frame_end h) u z ih = absurd (omega arith)
    go (stream_end n) u z ih = absurd u

-- ---- crc frames: the last entry is that of the last frame, at the last byte

abbrev Last : ℕ → Type 0
Last f = (r : Revision) (P : ℕ) (X s : List ℕ) → length X ≤ f → FramesUpTo (P + length X) P (crc.frames f r P X s).entries
    → 0 < frames_in (crc.frames f r P X s).entries → LastEndsFrame (crc.frames f r P X s).entries (P + length X) (crc.frames f r P X s).store

last_none : (f : ℕ) (r : Revision) (P : ℕ) (X s : List ℕ) → length X ≤ 0 → 0 < frames_in (crc.frames f r P X s).entries → ⊥
last_none f r P X s h some = (let z : 0 < 0 = rw (drop_of_length-le X {i = 0} h, crc-laws.none f r P s) at some in omega arith)

last-next : (f : ℕ) → Last f → (r : Revision) (P : ℕ) (X s : List ℕ) → length X ≤ suc f → FramesUpTo (P + length X) P (crc.frames (suc f) r P X s).entries → 0 < frames_in (crc.frames (suc f) r P X s).entries
    → AtFront crc.frames (λ c es. c) r P X s → LastEndsFrame (crc.frames (suc f) r P X s).entries (P + length X) (crc.frames (suc f) r P X s).store
last-next f ih r P X s enough up some (stops t u e) = (let z = u (P + length X) (rw (e f) at up) in absurd (last_none (suc f) r P X s (omega arith) some))
last-next f ih r P X s enough up some (one-frame es v r' Q X' s' n) =
    let T : Trace = crc.frames f r' Q X' s' in
    let e = alone crc-frames.crc_reader n f in
    let l = n.less in
    let u : FramesUpTo (P + length X) Q T.entries = n.up (P + length X) T.entries (rw e at up) in
    rw (e, append_assoc es (entry v Q s' ∷ []) T.entries) (last-two es (entry v Q s' ∷ T.entries) (P + length X) T.store (later u (frames_in T.entries) refl))
  where
    later : FramesUpTo (P + length X) Q (crc.frames f r' Q X' s').entries → (k : ℕ) → frames_in (crc.frames f r' Q X' s').entries ≡ k
        → LastEndsFrame (entry v Q s' ∷ (crc.frames f r' Q X' s').entries) (P + length X) (crc.frames f r' Q X' s').store
    later u zero z =
        let q : Q ≡ P + length X = none_left (P + length X) Q (crc.frames f r' Q X' s').entries u z in
        let i = n.place in
        let y : X' ≡ [] = drop_of_length-le X' {i = 0} (omega arith) in
        rw (y, crc-laws.none f r' Q s') (n.frame, q, refl)
    later u (suc k) z =
        let l = n.less in
        last_cons _ (crc.frames f r' Q X' s').entries (P + length X) (crc.frames f r' Q X' s').store
        (rw n.place at (ih r' Q X' s' (omega arith) (rw n.place u) (omega arith)))

crc-last : (f : ℕ) → Last f
crc-last zero r P X s enough up some = absurd (last_none zero r P X s enough some)
crc-last (suc f) r P X s enough up some = last-next f (crc-last f) r P X s enough up some ((crc-frames.crc_reader).next r P X s)

front-last : (own : Features) (F s : List ℕ) (r : Revision) → UpTo r (length F) (trace_of own F s).entries → 0 < frames_in (trace_of own F s).entries
    → LastEndsFrame (trace_of own F s).entries (length F) (trace_of own F s).store
front-last own F s r up some =
    let m = up-met own F s r (length F) up in
    let n : ℕ = 10 + payload_of F in
    let e = met-trace own F s m in
    let u = rw e at up in
    let d : length (drop n F) ≡ length F - n = length-drop n F in
    let l : n + length (drop n F) ≡ length F = (let a = m.all in omega arith) in
    let T : Trace = crc.frames (length F) (spoken own F) n (drop n F) s in
    let i : LastEndsFrame T.entries (length F) T.store = rw l at (crc-last (length F) (spoken own F) n (drop n F) s (omega arith) (rw l u.1) (rw e at some)) in
    rw e (last_cons (entry (Banner (peer_of F) (spoken own F)) n s) T.entries (length F) T.store i)

-- ---- the definition behind a front

-- sealed frames Z behind crc frames X, of which the last ends with X
pub behind-frames : (own : Features) (X Z store key nonce s : List ℕ) (es later : List Entry) → LastEndsFrame es (length X) s → (trace_of own (X ++ Z) store).entries ≡ es ++ later
    → trace_with (switched.behind (frames_in es) key nonce) own (X ++ Z) store ≡ behind es (sealed_trace key nonce 0 (length X) Z s)
behind-frames own X Z store key nonce s es later l e =
    let next : ℕ → List ℕ → Trace = λ at t. sealed_trace key nonce 0 at (drop at (X ++ Z)) t in
    ap (λ (fs : List Entry). spliced (frames_in es) next fs (trace_of own (X ++ Z) store).store) e
    ∙ spliced-there next later (trace_of own (X ++ Z) store).store es (length X) s l
    ∙ ap (λ (x : List ℕ). behind es (sealed_trace key nonce 0 (length X) x s)) (drop_at X Z (length X) refl)

module _ (own : Features) (store : List ℕ) (revision : Revision) (F : Front) (b : Begins own store revision F) where
  abbrev es : List Entry
  es = (crc_in own store F).entries

  abbrev P : ℕ
  P = length F.crc

  abbrev s₁ : List ℕ
  s₁ = (crc_in own store F).store

  abbrev w : List State
  w = key_expansion F.key

  -- any bytes behind the switch
  behind-switch : (Z : List ℕ)
      → trace_with (switch_in own store F) own (F.crc ++ Z) store
      ≡ behind es (sealed_trace F.key F.nonce 0 P Z s₁)
  behind-switch Z =
      behind-frames own F.crc Z store F.key F.nonce s₁ es (crc.frames (length Z) revision P Z s₁).entries (front-last own F.crc store revision b.crc b.some)
      (ap (λ (t : Trace). t.entries) ((follows_on own F.crc Z store revision b.crc).follows (length Z) (le_refl (length Z))))

  size : P + length F.sealed ≡ length (bytes_in F)
  size = sym (length-append F.crc F.sealed)

  abbrev S : Trace
  S = frames (length F.sealed) w F.nonce 0 P F.sealed s₁

  joins : Concatenates (sealed_reader w) (length F.sealed) (F.nonce, 0) P F.sealed s₁
  unfolding sealed_trace
  joins = concatenate (sealed_reader w) (length F.sealed) (F.nonce, 0) P F.sealed s₁ (le_refl (length F.sealed)) (rw size b.sealed)

  -- any bytes behind the front
  pub follows : (X : List ℕ) (k : ℕ) → length X ≤ k
      → trace_with (switch_in own store F) own (bytes_in F ++ X) store
      ≡ behind (trace_in own store F).entries (frames k w (next_in own store F) (spent_in own store F) (length (bytes_in F)) X (sealed_in own store F).store)
  unfolding sealed_trace
  follows X k l =
      let Y : List ℕ = F.sealed in
      let m : ℕ = parts_in S.entries in
      rw (append_assoc F.crc Y X)
      (behind-switch (Y ++ X)
      ∙ ap (behind es) (joins.joins.reads (length (Y ++ X)) k X (le_refl (length (Y ++ X))) l)
      ∙ rw (zero-add m, size, behind-switch Y, append_assoc))

  pub same : length (sealed_in own store F).store ≡ length store
  unfolding sealed_trace
  same = joins.same ∙ (follows_on own F.crc [] store revision b.crc).same

-- ---- the reports of calls

-- calls that made a switch and took F have reported the list of the bytes taken
pub reported : (own : Features) (F B store : List ℕ) (cs : List Call) (sw : Switch) → Chained (F ++ B) (begun own) store 0 cs → switch_by 0 cs ≡ sw → length F ≤ taken_by 0 cs
    → list_of (judge_own own.supported own.required) cs ≡ (trace_with sw own (F ++ take (taken_by 0 cs - length F) B) store).entries
unfolding SwitchedDemand3
reported own F B store cs sw ch q l =
    let t = taken_by 0 cs in
    let e : t ≡ length F + (t - length F) = omega arith in
    (switched-demand3 own (F ++ B) store cs ch).reports
    ∙ ap₂ (λ (x : Switch) (y : List ℕ). (trace_with x own y store).entries) q (ap (λ (k : ℕ). take k (F ++ B)) e ∙ take-append-add F B (t - length F))
