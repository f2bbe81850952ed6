-- Bytes add up.
use Prim.Native.Nat.{ℕ, zero, suc, ◌+◌, ◌≤◌, ◌<◌}
use mathlib.Core.Path.{◌≡◌, refl}
use mathlib.Core.List.{List}
use mathlib.Core.Bool.{Bool, true, false}
use native.Mathlib.Omega.{arith}
use lib.ListN.{length, take, drop}
use lib.Dec.{ltb}
use Rattle.buffer.specs.Splice.{replace_front}
use Rattle.refusal.specs.Refusals.{Judged, fine, refused}
use Rattle.refusal.proofs.Booleans.{at_cond}
use Rattle.banner.specs.declared.Features.{Features}
use Rattle.banner.specs.declared.Revision.{Revision}
use Rattle.banner.specs.Banner.{judge_own, judge_features, judge_magic, judge_length, revision_of}
use Rattle.preamble.specs.declared.Header.{Header}
use Rattle.preamble.specs.Layout.{total}
use Rattle.preamble.specs.Judge.{header_of, judge_preamble}
use Rattle.body.specs.Body.{body_length, first_sum_length, wire_length}
use Rattle.body.specs.End.{Ended, whole, dropped, refused_for, segment_bytes, ending}
use Rattle.stream.specs.Stream.{Trace, unless_refused, first_sum_end, first_wrong, first_reported, reported_first, at_end, body_trace, frames, banner_trace, payload_of, peer_of, stream_trace, by_own, trace_of}
use Rattle.stream.specs.Adds.{Adds, AddsUp, AllAddUp}

pub least : (revision : Revision) (h : Header) → 32 ≤ wire_length revision h
least revision h = omega arith

abbrev AddsTrace : Revision → ℕ → Trace → Type 0
AddsTrace revision P t = Adds revision P t.entries

judged : (revision : Revision) (P at : ℕ) (j : Judged) (s : List ℕ) (t : Trace) → P < at → AddsTrace revision P t → AddsTrace revision P (unless_refused j at s t)
judged revision P at fine s t l a = a
judged revision P at (refused n) s t l a = l

module _ (revision : Revision) (h : Header) (P : ℕ) (b s : List ℕ) (next : List ℕ → Trace) (a : (t : List ℕ) → AddsTrace revision (P + wire_length revision h) (next t)) where
  end-adds : (x : Ended) (p : List ℕ) → AddsTrace revision P (at_end x h (P + wire_length revision h) s p next)
  end-adds whole p = (refl, a _)
  end-adds dropped p = (refl, a _)
  end-adds (refused_for n) p = (let w = least revision h in omega arith)

  first-adds : (f : Bool) (at : ℕ) (x : List ℕ) (t : Trace) → at ≡ first_sum_end P h → AddsTrace revision P t → AddsTrace revision P (reported_first f h at x t)
  first-adds true at x t e u = (e, u)
  first-adds false at x t e u = u

  body-adds : AddsTrace revision P (body_trace revision h P b s next)
  body-adds =
      at_cond (AddsTrace revision P) (first_wrong revision h b) (omega arith)
      (first-adds (first_reported revision h b) (first_sum_end P h) (replace_front (take h.s1.len b) s) _ refl
      (at_cond (AddsTrace revision P) (ltb (length b) (body_length revision h)) tt
      (end-adds (ending revision h (drop (total h + first_sum_length revision h) b) (segment_bytes revision h b)) (segment_bytes revision h b))))

frames-add : (f : ℕ) (revision : Revision) (P : ℕ) (rest s : List ℕ) → AddsTrace revision P (frames f revision P rest s)
unfolding frames
frames-add zero revision P rest s = tt
frames-add (suc f) revision P rest s =
    at_cond (AddsTrace revision P) (ltb (length rest) 32) tt
    (judged revision P (P + 32) (judge_preamble (take 32 rest) (length s)) s _ (omega arith)
    (body-adds revision (header_of (take 32 rest)) P (drop 32 rest) s _ (λ t. frames-add f revision _ _ t)))

-- ---- the banner

abbrev Up : Trace → Type 0
Up t = AddsUp t.entries

up-judged : (j : Judged) (at : ℕ) (s : List ℕ) (t : Trace) → Up t → Up (unless_refused j at s t)
up-judged fine at s t u = u
up-judged (refused n) at s t u = tt

banner-up : (own : Features) (stream s : List ℕ) → Up (banner_trace own stream s)
banner-up own stream s =
    let p = peer_of stream in
    up-judged (judge_features own.supported own.required p.supported p.required) (10 + payload_of stream) s _
    (frames-add (length stream) (revision_of own.supported p.supported) (10 + payload_of stream) (drop (10 + payload_of stream) stream) s)

stream-up : (own : Features) (stream s : List ℕ) → Up (stream_trace own stream s)
unfolding stream_trace
stream-up own stream s =
    at_cond Up (ltb (length stream) 8) tt
    (up-judged (judge_magic (take 8 stream)) 8 s _
    (at_cond Up (ltb (length stream) 10) tt
    (up-judged (judge_length (payload_of stream)) 10 s _
    (at_cond Up (ltb (length stream) (10 + payload_of stream)) tt (banner-up own stream s)))))

own-up : (j : Judged) (t : Trace) (s : List ℕ) → Up t → Up (by_own j t s)
own-up fine t s u = u
own-up (refused n) t s u = tt

pub all_add_up : AllAddUp
unfolding AllAddUp trace_of
all_add_up own stream s = own-up (judge_own own.supported own.required) (stream_trace own stream s) s (stream-up own stream s)
