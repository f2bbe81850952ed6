-- Acknowledgements that are sealed with any key and nonce: what is opened is read, and nothing else is.
use mathlib.Core.Path.{◌≡◌, refl, sym, ap, ap₂, subst, ◌∙◌}
use mathlib.Core.List.{List, [], ◌++◌, map}
use Prim.Native.Nat.{ℕ, ◌+◌, ◌<◌}
use native.Mathlib.Omega.{arith}
use native.Mathlib.Nat.{le_refl}
use lib.ListN.{length, take, drop, length-append, length-take}
use lib.Seq.{take_all, drop-length}
use Rattle.buffer.specs.Le.{number_at}
use Rattle.crc32c.specs.Crc.{crc_of, steps, step}
use Rattle.banner.specs.Bits.{missing, lowest_bit, bit_count}
use Rattle.banner.specs.Banner.{banner_bytes, judge_features}
use Rattle.preamble.specs.Judge.{shape_fault, limit_fault, header_of, judge_fields, judge_preamble}
use Rattle.body.specs.End.{ending}
use Rattle.stream.specs.Stream as stream
use Rattle.stream.specs.Stream.{Entry, Trace, unless_refused, stream_trace, trace_of}
use Rattle.aes.specs.Aes.{key_expansion}
use Rattle.aes.proofs.Counters.{gctr-length}
use Rattle.gcm.specs.Gcm.{Opened, plain, fail, tag_of, opened_by}
use Rattle.gcm.proofs.Placing.{sealed-length}
use Rattle.gcm.proofs.RoundTrip.{lists}
use Rattle.gcm.proofs.Opened.{not_opened}
use Rattle.secure.specs.Layout.{next_nonce, needed}
use Rattle.secure.specs.Reading.{judge_first, by_opening, second_trace, frames, sealed_trace}
use Rattle.secure.proofs.Opening.{read_first, short}
use Rattle.connection.specs.Switched.{behind, spliced, frames_in}
use Rattle.connection.specs.Calls.{SwitchedDemand3}
use Rattle.connection.proofs.Scans.{LastEndsFrame}
use Rattle.connection.proofs.Splices.{spliced-there}
use Rattle.fields.specs.Layout.{step_of}
use Rattle.bodies.specs.Table.{layout_in}
use Rattle.bodies.specs.Read.{settled, read_body}
use Rattle.session.specs.Laws.{ack}
use Rattle.session.specs.Calls.{held_from, agrees, judge_state, judge_accept, judge_ack, accept_of, ack_of}
use Rattle.delivery.specs.Requests.{request_by_frame}
use Rattle.delivery.specs.Worked.{ours, store, message, entry_request, held_by, ack_text, masked, sealed_ack, behind_message, sealed_entries, SealedAck}
use Rattle.connection.proofs.Prefixes.{up_to, behind-first, crc-first}
use Rattle.delivery.proofs.NoRequests.{NoRequests, releases-nothing}
use Rattle.delivery.proofs.OneRequest.{all-played}

-- ---- parts

-- what a first part that is all there is leads to, by what it opens to
abbrev part : List ℕ → List ℕ → ℕ → List ℕ → Opened → Trace
part key nonce P s o =
    by_opening o (P + 96) s
    (λ text. unless_refused (judge_first text (length s)) (P + 96) s
    (second_trace (key_expansion key) (header_of text) (next_nonce nonce) 1 (P + 96) [] (take (header_of text).s1.len (drop 32 text)) s (frames 95 (key_expansion key))))

one-part : (key nonce : List ℕ) (P : ℕ) (s bytes : List ℕ) (o : Opened) → length bytes ≡ 96 → opened_by (key_expansion key) nonce bytes ≡ o
    → sealed_trace key nonce 0 P bytes s ≡ part key nonce P s o
unfolding sealed_trace
one-part key nonce P s bytes o l e =
    let all : take 96 bytes ≡ bytes = take_all 96 bytes (rw l (le_refl 96)) in
    let none : drop 96 bytes ≡ [] = subst (λ (n : ℕ). drop n bytes ≡ []) l (drop-length bytes) in
    ap (λ (f : ℕ). frames f (key_expansion key) nonce 0 P bytes s) l
    ∙ read_first (key_expansion key) nonce 0 P bytes o 95 s (ap (opened_by (key_expansion key) nonce) all ∙ e)
    ∙ rw (l, none)

-- ---- behind the message

abbrev sofar : Trace
sofar = trace_of ours (banner_bytes 1 0 ++ message) store

last : LastEndsFrame sofar.entries 106 sofar.store
unfolding number_at crc_of steps step missing lowest_bit bit_count judge_features shape_fault limit_fault header_of judge_fields judge_preamble ending stream.frames stream_trace trace_of
last = (refl, refl, refl)

one-frame : frames_in sofar.entries ≡ 1
unfolding number_at crc_of steps step missing lowest_bit bit_count judge_features shape_fault limit_fault header_of judge_fields judge_preamble ending stream.frames stream_trace trace_of
one-frame = refl

pub sealed-entries : (key nonce bytes : List ℕ) → sealed_entries key nonce bytes ≡ sofar.entries ++ (sealed_trace key nonce 0 106 bytes sofar.store).entries
sealed-entries key nonce bytes =
    let all = trace_of ours (behind_message bytes) store in
    let next : (ℕ → List ℕ → Trace) = λ at s. sealed_trace key nonce 0 at (drop at (behind_message bytes)) s in
    let later = drop (length (up_to 106 all.entries)) all.entries in
    let e : all.entries ≡ sofar.entries ++ later =
    behind-first 106 all.entries ∙ ap (λ (es : List Entry). es ++ later) (sym (crc-first ours (behind_message bytes) store 106)) in
    ap₂ (λ (n : ℕ) (es : List Entry). (spliced n next es all.store).entries) (sym one-frame) e
    ∙ ap (λ (y : Trace). y.entries) (spliced-there next later all.store sofar.entries 106 sofar.store last)

module _ (key nonce : List ℕ) where
  -- its entries, by what its first part opens to
  opened-entries : (bytes : List ℕ) (o : Opened) → length bytes ≡ 96 → opened_by (key_expansion key) nonce bytes ≡ o
      → sealed_entries key nonce bytes ≡ sofar.entries ++ (part key nonce 106 sofar.store o).entries
  opened-entries bytes o l e =
      sealed-entries key nonce bytes ∙ ap (λ (y : Trace). sofar.entries ++ y.entries) (one-part key nonce 106 sofar.store bytes o l e)

  acked : sealed_entries key nonce (sealed_ack key nonce) ≡ sofar.entries ++ (part key nonce 106 sofar.store (plain ack_text)).entries
  acked = opened-entries (sealed_ack key nonce) (plain ack_text) (sealed-length (key_expansion key) nonce ack_text) (lists (key_expansion key) nonce ack_text)

  tag-refused : (tag : List ℕ) → length tag ≡ 16 → (tag ≡ tag_of (key_expansion key) nonce (masked key nonce) → ⊥)
      → sealed_entries key nonce (masked key nonce ++ tag) ≡ sofar.entries ++ (part key nonce 106 sofar.store fail).entries
  tag-refused tag l differs =
      opened-entries (masked key nonce ++ tag) fail
      (length-append (masked key nonce) tag ∙ ap₂ ◌+◌ (gctr-length (key_expansion key) nonce 0 ack_text) l)
      (not_opened (key_expansion key) nonce ack_text tag l differs)

  no-requests-front : NoRequests (sofar.entries ++ [])
  unfolding number_at crc_of steps step missing lowest_bit bit_count judge_features shape_fault limit_fault header_of judge_fields judge_preamble ending stream.frames stream_trace trace_of request_by_frame
  no-requests-front = (refl, (refl, tt))

  no-requests-part : (n : ℕ) → n < 96 → NoRequests (sealed_entries key nonce (take n (sealed_ack key nonce)))
  no-requests-part n h =
      let l : length (take n (sealed_ack key nonce)) < 96 = (let e = length-take n (sealed_ack key nonce) in omega (arith, e)) in
      rw (sealed-entries key nonce (take n (sealed_ack key nonce)), short key nonce 106 sofar.store (take n (sealed_ack key nonce)) l) no-requests-front

  pub sealed-ack : SwitchedDemand3 → SealedAck key nonce
  unfolding number_at crc_of steps step missing lowest_bit bit_count judge_features shape_fault limit_fault header_of judge_fields judge_preamble ending stream.frames stream_trace trace_of needed judge_first frames step_of layout_in settled read_body request_by_frame agrees judge_state judge_accept judge_ack accept_of ack_of held_from
  sealed-ack demand = record {
    requests = ap (map entry_request) acked;
    releases = ap held_by acked;
    damaged = λ tag l differs. (ap (map entry_request) (tag-refused tag l differs), ap held_by (tag-refused tag l differs));
    splits = λ n h.
        releases-nothing demand (λ sw. sw ≡ behind 1 key nonce) (behind_message (take n (sealed_ack key nonce)))
        (λ sw e. rw e (no-requests-part n h));
    completes =
        all-played demand (behind 1 key nonce) (behind_message (sealed_ack key nonce)) 202 (ack 1) (sofar.entries ++ (part key nonce 106 sofar.store (plain ack_text)).entries)
        acked refl refl;
  }
