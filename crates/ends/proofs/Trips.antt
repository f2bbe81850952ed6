-- What is built comes back.
use Prim.Native.Nat.{ℕ, suc, ◌+◌, ◌-◌, ◌^◌, ◌≤◌, ◌<◌}
use mathlib.Core.List.{List, [], ◌∷◌, ◌++◌, append_assoc}
use mathlib.Core.Path.{◌≡◌, refl, sym, ap, ap₂, ◌∙◌}
use mathlib.Core.Bool.{◌&&◌}
use native.Mathlib.Omega.{arith}
use lib.ListN.{length, take, drop, length-append}
use lib.Dec.{lit≤, ltb, eqb}
use borrow.Author.Tests.{ltb-true}
use Rattle.buffer.specs.Le.{number_at}
use Rattle.buffer.proofs.Numbers.{le_of-le}
use Rattle.buffer.specs.Splice.{splice}
use Rattle.buffer.proofs.Parts.{length-splice, splice-next, written}
use Rattle.refusal.specs.declared.Refusal.TheVariants as refusal
use Rattle.refusal.specs.Refusals.{fine}
use Rattle.refusal.proofs.Judgements.{passed}
use Rattle.banner.specs.declared.Features.{Features}
use Rattle.banner.specs.declared.Revision.{Revision}
use Rattle.banner.specs.Bits.{missing}
use Rattle.banner.specs.Banner.{banner_bytes, judge_own, judge_features, revision_of}
use Rattle.body.specs.Body.{frame_bytes, wire_length}
use Rattle.stream.specs.declared.Event.TheVariants.{Banner}
use Rattle.stream.specs.Stream.{Entry, entry, Trace, after, payload_of, peer_of, frames, trace_of}
use Rattle.stream.proofs.Sums.{least}
use Rattle.stream.proofs.Laws.{more-payload, more-peer}
use Rattle.refusal.proofs.Booleans.{both_left, both_right}
use Rattle.receiver.specs.Calls.{taken_by}
use Rattle.builder.specs.Build.{banner_length}
use Rattle.ends.specs.Trip.{Build, bytes_of, store_after, entries_of, RoundTrip}
use Rattle.ends.specs.Ends.{Queued, buffer_by, queued_by, Link, Linked, sent_by, Fitting, all_entries, store_after_all, TwoEnds}
use Rattle.ends.proofs.FrameReader as reader
use Rattle.ends.proofs.Concatenation.{kept-length, crc_reader}
use Rattle.ends.proofs.Banners.{Met, met-trace, met-long, met-more, follows_on}
use Rattle.ends.proofs.Handover.{reported}
use Rattle.ends.proofs.ReadBack.{built-trace}
use Rattle.ends.proofs.Builds.{appended, all_bytes, queued-up, bannered}

-- ---- the round trip

pub round_trip : RoundTrip
unfolding RoundTrip
round_trip own front store r up buf queued b p room behind cs ch t =
    let l = appended r buf queued b p in
    let X : List ℕ = frame_bytes r b.header b.abort b.source in
    let e : bytes_of queued b ≡ X = ap (λ (l : List ℕ). take b.written (drop queued l)) l.buffer ∙ written buf queued X b.written l.length-bytes (let k = l.room in omega arith) in
    let F : List ℕ = front ++ bytes_of queued b in
    let Y : List ℕ = take (taken_by 0 cs - length F) behind in
    let a = follows_on own front (X ++ Y) store r up in
    let s : List ℕ = (trace_of own front store).store in
    let P = length front in
    let n : length F ≡ P + wire_length r b.header =
    (let m = length-append front (bytes_of queued b) in let m₂ : length (bytes_of queued b) ≡ length X = ap length e in let m₃ = l.length-bytes in let m₄ = l.wire in omega arith) in
    let q = length-append X Y in
    reported own F behind store cs ch t
    ∙ ap (λ (x : List ℕ). (trace_of own x store).entries) (append_assoc front (bytes_of queued b) Y ∙ ap (λ (x : List ℕ). front ++ (x ++ Y)) e)
    ∙ ap (λ (u : Trace). u.entries) (a.follows (suc (length (X ++ Y))) (omega arith))
    ∙ ap (λ (es : List Entry). (trace_of own front store).entries ++ es)
    (ap (λ (u : Trace). u.entries)
    (built-trace (length (X ++ Y)) r P b.header b.abort b.source Y s l.request p.header p.source (let m = a.same in omega arith)
    ∙ ap (reader.behind (entries_of r P s b)) (reader.fuel crc_reader (length (X ++ Y)) (length Y) r (P + wire_length r b.header) Y (store_after b s) (omega arith) (omega arith)))
    ∙ ap (λ (k : ℕ). entries_of r P s b ++ (frames (length Y) r k Y (store_after b s)).entries) (sym n))

-- ---- many builds

builds-read : (r : Revision) (P : ℕ) (buf : List ℕ) (queued : ℕ) (bs : List Build) (s : List ℕ) → Queued r buf queued bs → Fitting (length s) bs
    → reader.Reads frames r P (all_bytes r bs) s (all_entries r P s bs) r (store_after_all bs s)
builds-read r P buf queued [] s q fit = reader.reads_none crc_reader r P s
builds-read r P buf queued (b ∷ bs) s q fit =
    let l = appended r buf queued b q.0 in
    let X : List ℕ = frame_bytes r b.header b.abort b.source in
    let A : List ℕ = all_bytes r bs in
    let Q = P + wire_length r b.header in
    let a = length-append X A in
    let e = l.length-bytes in
    let w = l.wire in
    let m = least r b.header in
    let n = kept-length b.abort b.header b.source s l.request.whole fit.0 in
    reader.reads-step crc_reader (entries_of r P s b) (λ f Y. rw (append_assoc X A Y) (built-trace f r P b.header b.abort b.source (A ++ Y) s l.request q.0.header q.0.source fit.0))
    (omega arith) (omega arith) (builds-read r Q b.buffer (queued + b.written) bs (store_after b s) q.1 (rw n fit.1))

-- ---- our banner

-- features that are not refused fit 64 bits
small : (supported required : ℕ) → judge_own supported required ≡ fine → (supported < 2 ^ 64) × (required < 2 ^ 64)
small supported required e =
    let all = passed (ltb supported 2 && ltb required 2 && eqb (missing 64 required supported) 0) refusal.OwnFeatures e in
    let two = both_left (ltb supported 2 && ltb required 2) (eqb (missing 64 required supported) 0) all in
    let a = ltb-true supported 2 (both_left (ltb supported 2) (ltb required 2) two) in
    let b = ltb-true required 2 (both_right (ltb supported 2) (ltb required 2) two) in
    (omega arith, omega arith)

peer-back : (f : Features) → judge_own f.supported f.required ≡ fine → peer_of (banner_bytes f.supported f.required) ≡ f
unfolding number_at
peer-back f e = (let k = small f.supported f.required e in simp (le_of-le 8 f.supported k.0, le_of-le 8 f.required k.1))

payload-back : (f : Features) → payload_of (banner_bytes f.supported f.required) ≡ 16
unfolding number_at
payload-back f = refl

met : (own f : Features) → judge_own own.supported own.required ≡ fine → judge_own f.supported f.required ≡ fine
    → judge_features own.supported own.required f.supported f.required ≡ fine → Met own (banner_bytes f.supported f.required)
met own f ours e fit = record {
  ours = ours;
  eight = lit≤ tt;
  magic = refl;
  ten = lit≤ tt;
  payload = rw (payload-back f);
  all = rw (payload-back f) (lit≤ tt);
  features = ap (λ (q : Features). judge_features own.supported own.required q.supported q.required) (peer-back f e) ∙ fit;
}

-- the definition of a stream that begins with our banner
banner-trace : (own f : Features) (Y s : List ℕ) → judge_own own.supported own.required ≡ fine → judge_own f.supported f.required ≡ fine
    → judge_features own.supported own.required f.supported f.required ≡ fine
    → trace_of own (banner_bytes f.supported f.required ++ Y) s
    ≡ after (Banner f (revision_of own.supported f.supported)) banner_length s
    (frames (length (banner_bytes f.supported f.required ++ Y)) (revision_of own.supported f.supported) banner_length Y s)
banner-trace own f Y s ours e fit =
    let B : List ℕ = banner_bytes f.supported f.required in
    let m = met own f ours e fit in
    let p : peer_of (B ++ Y) ≡ f = more-peer B Y (met-long own B m) ∙ peer-back f e in
    let n : payload_of (B ++ Y) ≡ 16 = more-payload B Y m.ten ∙ payload-back f in
    met-trace own (B ++ Y) s (met-more own B Y m)
    ∙ ap₂ (λ (q : Features) (k : ℕ). after (Banner q (revision_of own.supported q.supported)) (10 + k) s (frames (length (B ++ Y)) (revision_of own.supported q.supported) (10 + k) (drop (10 + k) (B ++ Y)) s)) p n

-- ---- the two ends

module _ (r : Revision) (l : Link) (k : Linked r l) where
  abbrev B : List ℕ
  B = banner_bytes l.features.supported l.features.required

  abbrev Y : List ℕ
  Y = all_bytes r l.builds

  abbrev count : ℕ
  count = queued_by (l.queued + l.written) l.builds - l.queued

  -- the buffer that they leave
  record Sent : Type 0 where
    buffer : buffer_by l.buffer l.builds ≡ splice l.space l.queued (B ++ Y)
    size : length (B ++ Y) ≡ count
    room : l.queued ≤ length l.space

  all-sent : Sent
  all-sent =
      let b = bannered l.features.supported l.features.required l.space l.queued l.written l.buffer k.banner in
      let c = b.count in
      let o = b.room in
      let lb : length l.buffer ≡ length l.space = ap length b.buffer ∙ length-splice l.space l.queued B (omega arith) in
      let q = queued-up r l.buffer (l.queued + l.written) l.builds (omega arith) k.builds in
      let a = length-append B Y in
      record {
        buffer = q.buffer
            ∙ ap₂ (λ (t : List ℕ) (m : ℕ). splice t (l.queued + m) Y) b.buffer c
            ∙ splice-next l.space l.queued B Y (omega arith);
        size = (let z = q.queue in omega arith);
        room = omega arith;
      }

  pub sent_is : sent_by l ≡ banner_bytes l.features.supported l.features.required ++ all_bytes r l.builds
  sent_is =
      let s = all-sent in
      ap (λ (t : List ℕ). take count (drop l.queued t)) s.buffer ∙ written l.space l.queued (B ++ Y) count s.size s.room

  pub sent-length : length (sent_by l) ≡ queued_by (l.queued + l.written) l.builds - l.queued
  sent-length = ap length sent_is ∙ all-sent.size

-- the definition's entries of what was sent, with Y behind it
pub sent-entries : (own : Features) (store : List ℕ) (l : Link) → Linked (revision_of own.supported l.features.supported) l
    → judge_own own.supported own.required ≡ fine
    → judge_features own.supported own.required l.features.supported l.features.required ≡ fine
    → Fitting (length store) l.builds → (Y : List ℕ)
    → (trace_of own (sent_by l ++ Y) store).entries
    ≡ entry (Banner l.features (revision_of own.supported l.features.supported)) banner_length store
    ∷ (all_entries (revision_of own.supported l.features.supported) banner_length store l.builds
    ++ (frames (length Y) (revision_of own.supported l.features.supported) (length (sent_by l)) Y (store_after_all l.builds store)).entries)
sent-entries own store l k ours fit fits Y =
    let f = l.features in
    let r = revision_of own.supported f.supported in
    let B : List ℕ = banner_bytes f.supported f.required in
    let A : List ℕ = all_bytes r l.builds in
    let b = bannered f.supported f.required l.space l.queued l.written l.buffer k.banner in
    let e = sent_is r l k in
    let a = length-append A Y in
    let a₂ = length-append B (A ++ Y) in
    let place : banner_length + length A ≡ length (sent_by l) = sym (ap length e ∙ length-append B A) in
    ap (λ (x : List ℕ). (trace_of own x store).entries) (ap (λ (x : List ℕ). x ++ Y) e ∙ append_assoc B A Y)
    ∙ ap (λ (u : Trace). u.entries) (banner-trace own f (A ++ Y) store ours b.ours fit)
    ∙ ap (λ (es : List Entry). entry (Banner f r) banner_length store ∷ es)
    (ap (λ (u : Trace). u.entries)
    ((builds-read r banner_length l.buffer (l.queued + l.written) l.builds store k.builds fits).reads (length (B ++ (A ++ Y))) (length Y) Y (omega arith) (omega arith))
    ∙ ap (λ (x : ℕ). all_entries r banner_length store l.builds ++ (frames (length Y) r x Y (store_after_all l.builds store)).entries) place)

pub two_ends : TwoEnds
unfolding TwoEnds
two_ends own store l k ours fit fits behind cs ch t =
    reported own (sent_by l) behind store cs ch t ∙ sent-entries own store l k ours fit fits (take (taken_by 0 cs - length (sent_by l)) behind)
