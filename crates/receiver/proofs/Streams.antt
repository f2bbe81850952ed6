-- A scan over a whole stream gives what the definition tells.
use Prim.Native.Nat.{ℕ, zero, suc, ◌+◌, ◌-◌, ◌≤◌, ◌<◌}
use mathlib.Core.List.{List, [], ◌∷◌}
use mathlib.Core.Path.{◌≡◌, refl, sym, ap, ◌∙◌}
use mathlib.Core.Bool.{cond}
use native.Mathlib.Omega.{arith}
use native.Mathlib.Nat.{zero-add}
use lib.ListN.{length, take, drop, length-drop}
use lib.Seq.{sets, drop-drop, length-take-le}
use lib.Dec.{lit<, lit≤, ltb}
use borrow.Author.Tests.{lt-ltb, le-ltb, le-leb, lt-leb}
use Rattle.buffer.specs.Le.{number_at}
use Rattle.refusal.specs.Refusals.{Judged, fine, refused, no_refusal}
use Rattle.refusal.proofs.Booleans.{by_less, same-less}
use Rattle.banner.specs.declared.Features.{Features}
use Rattle.banner.specs.declared.Revision.{Revision}
use Rattle.banner.specs.Banner.{judge_magic, judge_length, judge_features, revision_of, features_of}
use Rattle.banner.proofs.Lengths.{long-enough}
use Rattle.preamble.specs.Judge.{header_of, judge_preamble}
use Rattle.preamble.proofs.Laws.{accepted-preamble, store-fits}
use Rattle.body.specs.Body.{body_length, wire_length}
use Rattle.stream.specs.declared.Event.TheVariants as event
use Rattle.stream.specs.Stream as stream
use Rattle.stream.specs.Stream.{Trace, ended, after, frames, stream_trace, banner_trace, payload_of}
use Rattle.receiver.specs.declared.Stage.TheVariants as stage
use Rattle.receiver.specs.declared.Known.{Known}
use Rattle.preamble.specs.Layout.{no_header}
use Rattle.receiver.specs.State.{blank}
use Rattle.receiver.specs.Step.{Stepped, at, only_own, refused_state, with_payload, with_peer, with_revision, with_header, silent, unless_refused, end_banner, begin_body, finish}
use Rattle.receiver.proofs.Machine.{scan-none}
use Rattle.receiver.proofs.Scan.{byte_step, scan}
use Rattle.buffer.proofs.Sets.{sets-whole, take-sets}
use Rattle.buffer.proofs.Numbers.{number-take, number-drop}
use Rattle.receiver.proofs.Gathers.{trace_by}
use Rattle.receiver.proofs.Stages.{run, staged, refused-ends}
use Rattle.receiver.proofs.Frames.{body_run}

-- a judgement, on both sides
judged : (j : Judged) (v : Known) (s : List ℕ) (x : Stepped) (Q : ℕ) (ys : List ℕ) (t : Trace) → (j ≡ fine → run x Q ys ≡ t)
    → run (unless_refused j v s x) Q ys ≡ stream.unless_refused j Q s t
judged fine v s x Q ys t f = f refl
judged (refused n) v s x Q ys t f = ap (after (event.Refused n) Q s) (refused-ends (refused_state v n) s Q ys refl)

-- ---- frames

abbrev Below : ℕ → Type 0
Below f = (v : Known) (P : ℕ) (rest s : List ℕ) → length rest ≤ f → trace_by (scan (at stage.Preamble 0 v) s P rest) ≡ frames f v.revision P rest s

frame-trace : (f : ℕ) → Below f → Below (suc f)
unfolding frames finish
frame-trace f ih v P rest s h =
    let front = take 32 rest in
    let h₀ = header_of (take 32 rest) in
    let n : ℕ = 32 + body_length v.revision (header_of (take 32 rest)) in
    let j = judge_preamble (take 32 rest) (length s) in
    staged (at stage.Preamble 0 v) s P 32 rest (lit< tt) refl (λ l. rw (lt-ltb (length rest) 32 l))
    (λ l.
    let k : length (drop (32 + body_length v.revision (header_of (take 32 rest))) rest) ≤ f = omega (arith, length-drop n rest) in
    rw (le-ltb (length rest) 32 l, sets-whole blank front (length-take-le 32 rest l))
    (judged j v s (begin_body (with_header v h₀) s) (P + 32) (drop 32 rest) _
    (λ e.
    body_run (with_header v h₀) P (drop 32 rest) s _ (store-fits (accepted-preamble front (length s) e).store)
    (rw (drop-drop (body_length v.revision h₀) 32 rest)
    (λ z t q. ih (with_header z no_header) (P + wire_length v.revision h₀) (drop n rest) t k ∙ ap (λ (r : Revision). frames f r (P + wire_length v.revision h₀) (drop n rest) t) q)))))

pub frames-trace : (f : ℕ) → Below f
unfolding frames
frames-trace zero v P [] s h = ap trace_by (scan-none byte_step (at stage.Preamble 0 v) s P)
frames-trace zero v P (b ∷ bs) s h = absurd (omega arith)
frames-trace (suc f) v P rest s h = frame-trace f (frames-trace f) v P rest s h

-- ---- the banner

abbrev banner_at : ℕ → Features → Features → ℕ → List ℕ → List ℕ → Trace
banner_at f own peer Q ys s =
    stream.unless_refused (judge_features own.supported own.required peer.supported peer.required) Q s
    (after (event.Banner peer (revision_of own.supported peer.supported)) Q s (frames f (revision_of own.supported peer.supported) Q ys s))

banner-run : (f : ℕ) (y : Known) (s : List ℕ) (Q : ℕ) (ys : List ℕ) → length ys ≤ f → run (end_banner y s) Q ys ≡ banner_at f y.own y.peer Q ys s
banner-run f y s Q ys h =
    let r = revision_of y.own.supported y.peer.supported in
    judged (judge_features y.own.supported y.own.required y.peer.supported y.peer.required) y s _ Q ys _
    (λ _. ap (after (event.Banner y.peer r) Q s) (frames-trace f (with_revision y r) Q ys s h))

-- from the payload's first byte on, of which ys are there
module _ (f : ℕ) (y : Known) (s ys : List ℕ) (hf : length ys ≤ f) (low : 16 ≤ y.payload) where
  abbrev W : Known
  W = with_peer y (features_of (take 16 ys))

  abbrev payload_trace : Trace
  payload_trace = cond (ltb (length ys) y.payload) (ended s) (banner_at f y.own W.peer (10 + y.payload) (drop y.payload ys) s)

  ld : length (drop 16 ys) ≡ length ys - 16
  ld = length-drop 16 ys

  -- the features are read, and no more or some more bytes follow
  exact : 16 ≤ length ys → y.payload ≤ 16 → run (end_banner W s) 26 (drop 16 ys) ≡ payload_trace
  exact l k =
      let e : y.payload ≡ 16 = omega arith in
      rw (le-ltb (length ys) y.payload (omega arith))
      (banner-run f W s 26 (drop 16 ys) (omega (arith, ld)) ∙ ap (λ (n : ℕ). banner_at f y.own W.peer (10 + n) (drop n ys) s) (sym e))

  skipped : 16 ≤ length ys → 16 < y.payload → run (silent (at stage.Skip 0 W) s) 26 (drop 16 ys) ≡ payload_trace
  unfolding finish
  skipped l k =
      let m : ℕ = y.payload - 16 in
      let p : 26 + (y.payload - 16) ≡ 10 + y.payload = omega arith in
      let g : 16 + (y.payload - 16) ≡ y.payload = omega arith in
      let d : length (drop y.payload ys) ≤ f = omega (arith, length-drop y.payload ys) in
      staged (at stage.Skip 0 W) s 26 m (drop 16 ys) (omega arith) (zero-add m) (λ t. rw (lt-ltb (length ys) y.payload (omega (arith, ld))))
      (λ t. rw (le-ltb (length ys) y.payload (omega (arith, ld)), p, drop-drop m 16 ys, g) (banner-run f W s (10 + y.payload) (drop y.payload ys) d))

  payload-trace : trace_by (scan (at stage.Payload 0 y) s 10 ys) ≡ payload_trace
  unfolding finish
  payload-trace =
      staged (at stage.Payload 0 y) s 10 16 ys (lit< tt) refl (λ l. rw (lt-ltb (length ys) y.payload (omega arith)))
      (λ l.
      rw (take-sets blank (take 16 ys) 16 (length-take-le 16 ys l) (lit≤ tt))
      (by_less 16 y.payload (λ k. rw (lt-leb y.payload 16 k) (skipped l k)) (λ k. rw (le-leb y.payload 16 k) (exact l k))))

-- ---- the whole stream

module _ (own : Features) (bytes s : List ℕ) where
  abbrev L : ℕ
  L = payload_of bytes

  abbrev K₀ : Known
  K₀ = only_own own no_refusal

  abbrev d₈ : List ℕ
  d₈ = drop 8 bytes

  ld₈ : length d₈ ≡ length bytes - 8
  ld₈ = length-drop 8 bytes

  read_length : 2 ≤ length d₈ → number_at 2 0 (sets blank 0 (take 2 d₈)) ≡ L
  read_length t =
      sym (number-take 2 0 2 (sets blank 0 (take 2 d₈)) (lit≤ tt))
      ∙ ap (number_at 2 0) (take-sets blank (take 2 d₈) 2 (length-take-le 2 d₈ t) (lit≤ tt))
      ∙ number-take 2 0 2 d₈ (lit≤ tt)
      ∙ number-drop 2 0 8 bytes

  accepted-length : 10 ≤ length bytes → judge_length L ≡ fine
      → run (silent (at stage.Payload 0 (with_payload K₀ L)) s) 10 (drop 2 d₈) ≡ cond (ltb (length bytes) (10 + L)) (ended s) (banner_trace own bytes s)
  accepted-length l e =
      let k : length (drop 10 bytes) ≡ length bytes - 10 = length-drop 10 bytes in
      let test = same-less (length (drop 10 bytes)) L (length bytes) (10 + L) (λ u. omega arith) (λ u. omega arith) in
      let r = payload-trace (length bytes) (with_payload K₀ L) s (drop 10 bytes) (omega arith) (long-enough L e) in
      rw (drop-drop 2 8 bytes) (rw (test, drop-drop L 10 bytes) at r)

  length-trace : 8 ≤ length bytes → trace_by (scan (at stage.Length 0 K₀) s 8 d₈)
      ≡ cond (ltb (length bytes) 10) (ended s) (stream.unless_refused (judge_length L) 10 s (cond (ltb (length bytes) (10 + L)) (ended s) (banner_trace own bytes s)))
  unfolding finish
  length-trace l =
      staged (at stage.Length 0 K₀) s 8 2 d₈ (lit< tt) refl (λ t. rw (lt-ltb (length bytes) 10 (omega (arith, ld₈))))
      (λ t.
      let h : 10 ≤ length bytes = omega (arith, ld₈) in
      rw (le-ltb (length bytes) 10 h, read_length t)
      (judged (judge_length L) K₀ s (silent (at stage.Payload 0 (with_payload K₀ L)) s) 10 (drop 2 d₈) _ (accepted-length h)))

  pub stream-trace : trace_by (scan (at stage.Magic 0 K₀) s 0 bytes) ≡ stream_trace own bytes s
  unfolding stream_trace finish
  stream-trace =
      staged (at stage.Magic 0 K₀) s 0 8 bytes (lit< tt) refl (λ l. rw (lt-ltb (length bytes) 8 l))
      (λ l.
      rw (le-ltb (length bytes) 8 l, take-sets blank (take 8 bytes) 8 (length-take-le 8 bytes l) (lit≤ tt))
      (judged (judge_magic (take 8 bytes)) K₀ s (silent (at stage.Length 0 K₀) s) 8 d₈ _ (λ _. length-trace l)))
