-- What is built and sealed comes back.
use mathlib.Core.Path.{◌≡◌, refl, sym, ap, ap₂, subst, ◌∙◌}
use mathlib.Core.Bool.{Bool, true, false, cond}
use mathlib.Core.List.{List, [], ◌∷◌, ◌++◌, append_assoc, append-nil}
use Prim.Native.Nat.{ℕ, suc, ◌+◌, ◌-◌, ◌≤◌, ◌<◌}
use native.Mathlib.Nat.{zero-add, add-zero, le_refl}
use native.Mathlib.Omega.{arith}
use lib.ListN.{length, take, drop, length-append}
use Rattle.buffer.proofs.Parts.{put-behind}
use Rattle.refusal.specs.Refusals.{Judged, fine}
use Rattle.refusal.proofs.Booleans.{by_test, at_cond}
use Rattle.banner.specs.declared.Features.{Features}
use Rattle.banner.specs.declared.Revision.{Revision}
use Rattle.banner.specs.Banner.{banner_bytes, judge_own, judge_features, revision_of}
use Rattle.body.specs.Body.{frame_bytes, wire_length}
use Rattle.builder.specs.Build.{banner_length}
use Rattle.stream.specs.declared.Event.TheVariants.{Banner}
use Rattle.stream.specs.Stream.{Entry, entry, Trace}
use Rattle.aes.specs.Aes.{key_expansion}
use Rattle.secure.specs.Layout.{all_nonces, part_count, needed}
use Rattle.secure.specs.Reading.{frames, sealed_trace}
use Rattle.secure.proofs.Lengths.{some}
use Rattle.sealed_builder.specs.declared.Sending.{Sending}
use Rattle.sealed_builder.specs.Build.{spent_of, fresh_sending, sent_more}
use Rattle.sealed_builder.specs.Nonces.{Build, sending_after}
use Rattle.sealed_builder.specs.Trip as sealed
use Rattle.sealed_builder.specs.Trip.{SentBack}
use Rattle.sealed_builder.proofs.NoNonceTwice.{spent-more}
use Rattle.sealed_builder.proofs.Trip.{sent_back}
use Rattle.ends.specs.Handed.{is_early}
use Rattle.ends.specs.Trip as crc-trip
use Rattle.ends.specs.Ends as crc-ends
use Rattle.ends.specs.Ends.{Fitting, all_entries, store_after_all}
use Rattle.ends.proofs.Builds as crc-builds
use Rattle.ends.proofs.Trips.{sent_is, sent-length, sent-entries}
use Rattle.ends.proofs.FrameReader as reader
use Rattle.ends.proofs.Concatenation as crc-frames
use Rattle.ends.proofs.Concatenation.{event_as, frame_as}
use Rattle.connection.specs.Switched.{Switch, behind, ends_frame, trace_with, frames_in}
use Rattle.connection.specs.Step.{switched_sending}
use Rattle.connection.specs.Calls.{taken_by}
use Rattle.connection.proofs.Scans.{LastEndsFrame}
use Rattle.sealed_ends.specs.Fronts.{bytes_in, sealed_in, switch_in, trace_in, spent_in}
use Rattle.sealed_ends.specs.Trip.{written_by, bytes_of, Accepts, event_of, store_after, SealedRoundTrip}
use Rattle.sealed_ends.specs.Ends.{Queued, buffer_by, queued_by, parts_by, FittingSealed, sealed_entries, store_after_sealed, SwitchedLink, buffer_at, queued_at, SwitchedLinked, sent_by, switched_at, store_at, SealedTwoEnds}
use Rattle.secure.proofs.Bounds.{segments-fit, least}
use Rattle.sealed_ends.proofs.Concatenation as readers
use Rattle.sealed_ends.proofs.Concatenation.{sealed_store_as, kept-length, NonceAndCount}
use Rattle.sealed_ends.proofs.Fronts.{last_cons, last-two, behind-frames, follows, same, reported}
use Rattle.sealed_ends.proofs.Builds.{appended, all_bytes, queued-up}

-- one build, and what follows it
build-trace : (f : ℕ) (s : Sending) (key : List ℕ) (b : Build) (n P : ℕ) (Y store : List ℕ) → s.key ≡ key → Accepts s b → n + part_count b.header ≤ all_nonces → needed b.header ≤ length store
    → frames (suc f) (key_expansion key) s.nonce n P (bytes_of b ++ Y) store
    ≡ reader.behind (entry (event_of b) (P + written_by b) (store_after b store) ∷ [])
    (frames f (key_expansion key) b.answer.sending.nonce (n + part_count b.header) (P + written_by b) Y (store_after b store))
unfolding SentBack
build-trace f s key b n P Y store e p l r =
    rw (← e)
    (sent_back s b (written_by b) n f P Y store p.promised p.wrote p.header l r
    ∙ as_entry b.abort (frames f (key_expansion s.key) b.answer.sending.nonce (n + part_count b.header) (P + written_by b) Y))
  where
    as_entry : (a : Bool) (next : List ℕ → Trace)
        → sealed.reported a b.header (P + written_by b) b.source store next
        ≡ reader.behind (entry (event_as a b.header) (P + written_by b) (sealed_store_as a b.header b.source store) ∷ []) (next (sealed_store_as a b.header b.source store))
    as_entry true next = refl
    as_entry false next = refl

-- ---- the round trip

pub round_trip : SealedRoundTrip
unfolding SealedRoundTrip sealed_trace
round_trip own store r F g s b p key nonce l room later cs ch q t =
    let X : List ℕ = bytes_of b in
    let A : List ℕ = bytes_in F ++ X in
    let Y : List ℕ = take (taken_by 0 cs - length A) later in
    let S : List ℕ = (sealed_in own store F).store in
    let n : ℕ = spent_in own store F in
    let P : ℕ = length (bytes_in F) in
    let a = appended s b p in
    let e : P + written_by b ≡ length A = (let m = length-append (bytes_in F) X in omega (arith, a.length-bytes)) in
    let j = length-append X Y in
    let fit : needed b.header ≤ length S = rw (same own store r F g) room in
    reported own A later store cs (switch_in own store F) ch q t
    ∙ ap (λ (x : List ℕ). (trace_with (switch_in own store F) own x store).entries) (append_assoc (bytes_in F) X Y)
    ∙ ap (λ (u : Trace). u.entries) (follows own store r F g (X ++ Y) (suc (length (X ++ Y))) (omega arith))
    ∙ ap (λ (es : List Entry). (trace_in own store F).entries ++ es)
    (rw (← nonce)
    (ap (λ (u : Trace). u.entries)
    (rw e at
    (build-trace (length (X ++ Y)) s F.key b n P Y S key p l fit
    ∙ ap (reader.behind (entry (event_of b) (P + written_by b) (store_after b S) ∷ []))
    (reader.fuel (readers.sealed_reader (key_expansion F.key)) (length (X ++ Y)) (length Y) (b.answer.sending.nonce, n + part_count b.header) (P + written_by b) Y (store_after b S) (omega arith) (le_refl (length Y)))))))

-- ---- many builds

-- the key stays, and the count of spent nonces goes on
key-stays : (s : Sending) (b : Build) → Accepts s b → b.answer.sending.key ≡ s.key
unfolding sent_more
key-stays s b p = ap (λ (x : Sending). x.key) (appended s b p).sending

spent-on : (s : Sending) (b : Build) → Accepts s b → spent_of b.answer.sending ≡ spent_of s + part_count b.header
spent-on s b p =
    let a = appended s b p in
    ap spent_of a.sending ∙ spent-more s (part_count b.header) (some b.header) a.request.left

builds-read : (s : Sending) (key buf : List ℕ) (queued P : ℕ) (bs : List Build) (store : List ℕ) → s.key ≡ key → Queued s buf queued bs → FittingSealed (length store) bs
    → reader.Reads (λ f (c : NonceAndCount). frames f (key_expansion key) c.0 c.1) (s.nonce, spent_of s) P (all_bytes bs) store (sealed_entries P store bs)
    ((sending_after s bs).nonce, spent_of s + parts_by bs) (store_after_sealed bs store)
builds-read s key buf queued P [] store k q fit = rw (add-zero (spent_of s)) (reader.reads_none (readers.sealed_reader (key_expansion key)) (s.nonce, spent_of s) P store)
builds-read s key buf queued P (b ∷ bs) store k q fit =
    let a = appended s b q.0 in
    let X : List ℕ = bytes_of b in
    let A : List ℕ = all_bytes bs in
    let s' : Sending = b.answer.sending in
    let i = length-append X A in
    let m = least b.header in
    let w = a.wire in
    let e = a.length-bytes in
    let kept = kept-length b.abort b.header b.source store (omega (arith, segments-fit b.header, a.request.whole)) fit.0 in
    let spent = spent-on s b q.0 in
    let count : spent_of s' + parts_by bs ≡ spent_of s + (part_count b.header + parts_by bs) = omega arith in
    let r = builds-read s' key b.after (queued + written_by b) (P + written_by b) bs (store_after b store) (key-stays s b q.0 ∙ k) q.3 (rw kept fit.1) in
    rw (← w)
    (reader.reads-step (readers.sealed_reader (key_expansion key)) (entry (event_of b) (P + written_by b) (store_after b store) ∷ [])
    (λ f Y. rw (append_assoc X A Y) (build-trace f s key b (spent_of s) P (A ++ Y) store k q.0 a.request.left fit.0))
    (omega arith) (omega arith) (rw (count, spent) at r))

-- ---- the crc builds of a link: their last entry, and how many there are

frame-ends-two : (es fs : List Entry) → frames_in (es ++ fs) ≡ frames_in es + frames_in fs
frame-ends-two [] fs = sym (zero-add (frames_in fs))
frame-ends-two (e ∷ es) fs = (let i = frame-ends-two es fs in by_test (ends_frame e.event) (λ c. rw c (omega arith)) (λ c. rw c i))

module _ (r : Revision) where
  -- where the last one ends
  abbrev place_by : ℕ → List crc-trip.Build → ℕ
  place_by P [] = P
  place_by P (b ∷ bs) = place_by (P + wire_length r b.header) bs

  one-frame-end : (P : ℕ) (s : List ℕ) (b : crc-trip.Build) → frames_in (crc-trip.entries_of r P s b) ≡ 1
  one-frame-end P s b =
      frame-ends-two (crc-trip.early_entry r P s b) (entry (crc-trip.event_of b) (P + wire_length r b.header) (crc-trip.store_after b s) ∷ [])
      ∙ ap₂ ◌+◌ (at_cond (λ es. frames_in es ≡ 0) (is_early r b.header) refl refl) (ap (λ (c : Bool). cond c 1 0) (frame_as b.abort b.header))

  all-frame-ends : (P : ℕ) (s : List ℕ) (bs : List crc-trip.Build) → frames_in (all_entries r P s bs) ≡ length bs
  all-frame-ends P s [] = refl
  all-frame-ends P s (b ∷ bs) =
      let i = all-frame-ends (P + wire_length r b.header) (crc-trip.store_after b s) bs in
      let o = one-frame-end P s b in
      frame-ends-two (crc-trip.entries_of r P s b) (all_entries r (P + wire_length r b.header) (crc-trip.store_after b s) bs) ∙ omega arith

  all-last : (P : ℕ) (s : List ℕ) (bs : List crc-trip.Build) → 0 < length bs → LastEndsFrame (all_entries r P s bs) (place_by P bs) (store_after_all bs s)
  all-last P s [] l = absurd (omega arith)
  all-last P s (b ∷ []) l =
      let x : List Entry = entry (crc-trip.event_of b) (P + wire_length r b.header) (crc-trip.store_after b s) ∷ [] in
      rw (append-nil (crc-trip.early_entry r P s b ++ x)) (last-two (crc-trip.early_entry r P s b) x _ _ (frame_as b.abort b.header, refl, refl))
  all-last P s (b ∷ c ∷ bs) l =
      last-two (crc-trip.entries_of r P s b) (all_entries r (P + wire_length r b.header) (crc-trip.store_after b s) (c ∷ bs)) _ _
      (all-last (P + wire_length r b.header) (crc-trip.store_after b s) (c ∷ bs) (omega arith))

  place_is : (P : ℕ) (buf : List ℕ) (queued : ℕ) (bs : List crc-trip.Build) → crc-ends.Queued r buf queued bs → place_by P bs ≡ P + length (crc-builds.all_bytes r bs)
  place_is P buf queued [] q = sym (add-zero P)
  place_is P buf queued (b ∷ bs) q =
      let a = crc-builds.appended r buf queued b q.0 in
      let X : List ℕ = frame_bytes r b.header b.abort b.source in
      let j = length-append X (crc-builds.all_bytes r bs) in
      place_is (P + wire_length r b.header) b.buffer (queued + b.written) bs q.1 ∙ omega (arith, a.length-bytes, a.wire)

  all-long : (buf : List ℕ) (queued : ℕ) (bs : List crc-trip.Build) (s : List ℕ) → crc-ends.Queued r buf queued bs → Fitting (length s) bs → length (store_after_all bs s) ≡ length s
  all-long buf queued [] s q fit = refl
  all-long buf queued (b ∷ bs) s q fit =
      let k = crc-frames.kept-length b.abort b.header b.source s (crc-builds.appended r buf queued b q.0).request.whole fit.0 in
      all-long b.buffer (queued + b.written) bs (crc-trip.store_after b s) q.1 (rw k fit.1) ∙ k

queued-grows : (q : ℕ) (bs : List crc-trip.Build) → q ≤ crc-ends.queued_by q bs
queued-grows q [] = le_refl q
queued-grows q (b ∷ bs) = (let i = queued-grows (q + b.written) bs in omega arith)

-- ---- the two ends

module _ (r : Revision) (l : SwitchedLink) (k : SwitchedLinked r l) where
  abbrev C : List ℕ
  C = crc-ends.sent_by l.crc

  -- the sealed bytes stand behind the others
  sent-split : sent_by l ≡ crc-ends.sent_by l.crc ++ all_bytes l.builds
  sent-split = go l.builds k.builds
    where
      grown : l.crc.queued ≤ queued_at l
      grown = (let g = queued-grows (l.crc.queued + l.crc.written) l.crc.builds in omega arith)

      go : (bs : List Build) → Queued l.switch.switched.sending (buffer_at l) (queued_at l) bs
          → take (queued_by (queued_at l) bs - l.crc.queued) (drop l.crc.queued (buffer_by (buffer_at l) bs)) ≡ crc-ends.sent_by l.crc ++ all_bytes bs
      go [] q = sym (append-nil (crc-ends.sent_by l.crc))
      go (b ∷ bs) q =
          let a = appended l.switch.switched.sending b q.0 in
          let room : queued_at l + written_by b ≤ length (buffer_at l) = rw (q.1, q.2) at a.room in
          let u = queued-up l.switch.switched.sending (buffer_at l) (queued_at l) (b ∷ bs) (omega arith) q in
          ap₂ (λ (i : ℕ) (x : List ℕ). take (i - l.crc.queued) (drop l.crc.queued x)) u.queue u.buffer
          ∙ put-behind (buffer_at l) l.crc.queued (queued_at l) (all_bytes (b ∷ bs)) grown u.room

  -- the sender's switch
  fresh : l.switch.switched.sending ≡ fresh_sending l.switch.key l.switch.sending
  fresh =
      let s = k.switch in
      s.sends ∙ ap (λ (j : Judged). switched_sending j l.switch.key l.switch.sending) (sym s.judgement ∙ k.made)

module _ (own : Features) (store : List ℕ) (l : SwitchedLink) (k : SwitchedLinked (revision_of own.supported l.crc.features.supported) l)
    (ours : judge_own own.supported own.required ≡ fine)
    (fit : judge_features own.supported own.required l.crc.features.supported l.crc.features.required ≡ fine)
    (fits : Fitting (length store) l.crc.builds) where
  abbrev r : Revision
  r = revision_of own.supported l.crc.features.supported

  abbrev clear : List ℕ
  clear = crc-ends.sent_by l.crc

  abbrev before : List Entry
  before = entry (Banner l.crc.features r) banner_length store ∷ all_entries r banner_length store l.crc.builds

  abbrev sw : Switch
  sw = behind (length l.crc.builds) l.switch.key l.switch.sending

  last-before : LastEndsFrame before (length clear) (store_at l store)
  last-before =
      let bs = l.crc.builds in
      let B : List ℕ = banner_bytes l.crc.features.supported l.crc.features.required in
      let place : place_by r banner_length bs ≡ length clear =
      place_is r banner_length l.crc.buffer (l.crc.queued + l.crc.written) bs k.crc.builds
      ∙ sym (ap length (sent_is r l.crc k.crc) ∙ length-append B (crc-builds.all_bytes r bs)) in
      last_cons (entry (Banner l.crc.features r) banner_length store) (all_entries r banner_length store bs) (length clear) (store_at l store)
      (subst (λ (n : ℕ). LastEndsFrame (all_entries r banner_length store bs) n (store_at l store)) place (all-last r banner_length store bs k.some))

  -- any bytes behind the switch
  switched-entries : (Z : List ℕ)
      → (trace_with sw own (clear ++ Z) store).entries ≡ before ++ (sealed_trace l.switch.key l.switch.sending 0 (length clear) Z (store_at l store)).entries
  switched-entries Z =
      ap (λ (t : Trace). t.entries)
      (rw (all-frame-ends r banner_length store l.crc.builds) at
      (behind-frames own clear Z store l.switch.key l.switch.sending (store_at l store) before _ last-before (sent-entries own store l.crc k.crc ours fit fits Z)))

  -- and where they are those of the builds
  sealed-entries : FittingSealed (length store) l.builds → (Y : List ℕ)
      → (sealed_trace l.switch.key l.switch.sending 0 (length clear) (all_bytes l.builds ++ Y) (store_at l store)).entries
      ≡ sealed_entries (switched_at l) (store_at l store) l.builds
      ++ (sealed_trace l.switch.key (sending_after l.switch.switched.sending l.builds).nonce (parts_by l.builds) (length (sent_by l)) Y
      (store_after_sealed l.builds (store_at l store))).entries
  unfolding sealed_trace fresh_sending
  sealed-entries long Y =
      let bs = l.builds in
      let s₀ : Sending = l.switch.switched.sending in
      let new = fresh r l k in
      let A : List ℕ = all_bytes bs in
      let S : List ℕ = store_at l store in
      let kept : length S ≡ length store = all-long r l.crc.buffer (l.crc.queued + l.crc.written) l.crc.builds store k.crc.builds fits in
      let spent : spent_of s₀ ≡ 0 = ap spent_of new in
      let place : length clear + length A ≡ length (sent_by l) = sym (ap length (sent-split r l k) ∙ length-append clear A) in
      let tail : List Entry = (frames (length Y) (key_expansion l.switch.key) (sending_after s₀ bs).nonce (parts_by bs) (length (sent_by l)) Y (store_after_sealed bs S)).entries in
      ap (λ (x : Sending). (frames (length (A ++ Y)) (key_expansion l.switch.key) x.nonce 0 (length clear) (A ++ Y) S).entries) (sym new)
      ∙ ap (λ (u : Trace). u.entries)
      (rw (spent, zero-add (parts_by bs), place) at
      ((builds-read s₀ l.switch.key (buffer_at l) (queued_at l) (length clear) bs S (ap (λ (x : Sending). x.key) new) k.builds (rw kept long)).reads
      (length (A ++ Y)) (length Y) Y (le_refl (length (A ++ Y))) (le_refl (length Y))))
      ∙ ap (λ (P : ℕ). sealed_entries P S bs ++ tail) (sent-length r l.crc k.crc)

pub two_ends : SealedTwoEnds
unfolding SealedTwoEnds
two_ends own store l k ours fit fits long later cs ch q t =
    let C : List ℕ = crc-ends.sent_by l.crc in
    let A : List ℕ = all_bytes l.builds in
    let Y : List ℕ = take (taken_by 0 cs - length (sent_by l)) later in
    let sw₁ : Switch = behind (length l.crc.builds) l.switch.key l.switch.sending in
    reported own (sent_by l) later store cs sw₁ ch q t
    ∙ ap (λ (x : List ℕ). (trace_with sw₁ own x store).entries) (ap (λ (x : List ℕ). x ++ Y) (sent-split (revision_of own.supported l.crc.features.supported) l k) ∙ append_assoc C A Y)
    ∙ switched-entries own store l k ours fit fits (A ++ Y)
    ∙ ap (λ (es : List Entry). before own store l k ours fit fits ++ es) (sealed-entries own store l k ours fit fits long Y)
