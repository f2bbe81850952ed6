use mathlib.Core.Path.{◌≡◌, refl, sym, ap, ◌∙◌}
use mathlib.Core.List.{List, [], ◌∷◌, ◌++◌, map}
use mathlib.Core.Bool.{true≢false}
use Prim.Native.Nat.{ℕ}
use native.Mathlib.Omega.{arith}
use lib.ListN.{length, take, drop, set}
use Rattle.buffer.specs.Le.{number_at}
use Rattle.crc32c.specs.Crc.{crc_of, steps, step}
use Rattle.banner.specs.Bits.{missing, lowest_bit, bit_count}
use Rattle.banner.specs.Banner.{banner_bytes, judge_features}
use Rattle.preamble.specs.Judge.{shape_fault, limit_fault, header_of, judge_fields, judge_preamble}
use Rattle.body.specs.End.{ending}
use Rattle.fields.specs.Layout.{step_of}
use Rattle.bodies.specs.Table.{layout_in}
use Rattle.bodies.specs.Read.{settled, read_body}
use Rattle.stream.specs.Stream.{Trace, frames, stream_trace, trace_of}
use Rattle.stream.specs.Rows.{Holds}
use Rattle.secure.specs.Reading.{sealed_trace}
use Rattle.secure.proofs.Opening.{short}
use Rattle.connection.specs.Switched.{Switch, none, behind, trace_with}
use Rattle.connection.specs.Calls.{SwitchedDemand3}
use Rattle.session.specs.declared.Session.{Session}
use Rattle.session.specs.declared.Answer.{Answer}
use Rattle.std.specs.Prelude.{Result}
use Rattle.refusal.specs.declared.Numbers.{Numbers}
use Rattle.session.specs.Worked.{Resend}
use Rattle.session.specs.Calls.{held_from, held_of, fresh_session, agrees, judge_state, judge_accept, judge_ack, accept_of, ack_of, reconnect_of, reset_of, found, held_at}
use Rattle.session.specs.Laws as session
use Rattle.session.specs.Laws.{call_of, held_answers}
use Rattle.delivery.specs.Requests.{request_by_frame}
use Rattle.delivery.specs.Calls.{session_after, Connects, Cause, sends, hands, receives, calls_due}
use Rattle.delivery.specs.Worked.{ours, store, ack1, split, acked, Any, fault_rows, second, held_rows, result_rows, broken_rows, answer_rows, reading, resumed, Resumes, frame_rows, tag_rows, reset_rows, segment_rows, reset0, reset2, two_whole, two_aborted, tag10, Reasons, Worked}
use Rattle.connection.proofs.Prefixes.{up_to}
use Rattle.delivery.proofs.Reasons.{after_calls}
use Rattle.delivery.proofs.OneRequest.{all-played}
use Rattle.delivery.proofs.NoReason.{uncovered, no-requests-holds}
use Rattle.delivery.proofs.NoRequests.{NoRequests, NoRequestsBehind, no-requests-spliced, releases-nothing}
use Rattle.delivery.proofs.Acks.{sealed-ack}
use Rattle.delivery.proofs.worked_deliveries.Goals as goal

fault-rows_hold : Holds fault_rows
unfolding fault_rows number_at crc_of steps step missing lowest_bit bit_count judge_features shape_fault limit_fault header_of judge_fields judge_preamble ending frames stream_trace trace_of step_of layout_in settled read_body request_by_frame
fault-rows_hold = refl

frame-rows_hold : Holds frame_rows
unfolding frame_rows number_at crc_of steps step missing lowest_bit bit_count judge_features shape_fault limit_fault header_of judge_fields judge_preamble ending frames stream_trace trace_of step_of layout_in settled read_body request_by_frame
frame-rows_hold = refl

tag-rows_hold : Holds tag_rows
unfolding tag_rows number_at step_of layout_in settled read_body request_by_frame
tag-rows_hold = refl

split-no-requests : NoRequests (trace_of ours split store).entries
unfolding number_at crc_of steps step missing lowest_bit bit_count judge_features shape_fault limit_fault header_of judge_fields judge_preamble ending frames stream_trace trace_of request_by_frame
split-no-requests = (refl, (refl, tt))

split-behind : (key nonce : List ℕ) → NoRequestsBehind (λ at s. sealed_trace key nonce 0 at (drop at split) s) (trace_of ours split store).entries
unfolding number_at crc_of steps step missing lowest_bit bit_count judge_features shape_fault limit_fault header_of judge_fields judge_preamble ending frames stream_trace trace_of request_by_frame
split-behind key nonce = (
  refl,
  (λ e. absurd (true≢false (sym e))),
  (refl, (λ e. ap (λ (y : Trace). y.entries) (short key nonce 106 _ (take 43 ack1) (omega arith))), tt),
)

split_any : (sw : Switch) → Any sw → NoRequests (trace_with sw ours split store).entries
split_any none x = split-no-requests
split_any (behind n key nonce) x =
    no-requests-spliced n (λ at s. sealed_trace key nonce 0 at (drop at split) s) (trace_of ours split store).entries (trace_of ours split store).store (split-behind key nonce)

held-rows_hold : Holds held_rows
unfolding held_rows number_at crc_of steps step missing lowest_bit bit_count judge_features shape_fault limit_fault header_of judge_fields judge_preamble ending frames stream_trace trace_of step_of layout_in settled read_body request_by_frame agrees judge_state judge_accept judge_ack accept_of ack_of held_from
held-rows_hold = refl

result-rows_hold : Holds result_rows
unfolding result_rows agrees judge_state judge_accept judge_ack accept_of ack_of reconnect_of reset_of held_from found held_at held_answers
result-rows_hold = refl

broken-rows_hold : Holds broken_rows
unfolding broken_rows agrees judge_state judge_ack ack_of reconnect_of reset_of
broken-rows_hold = refl

answer-rows_hold : Holds answer_rows
unfolding answer_rows agrees judge_state judge_accept judge_ack accept_of ack_of held_from
answer-rows_hold = refl

reset-rows_hold : Holds reset_rows
unfolding reset_rows number_at step_of layout_in settled read_body request_by_frame
reset-rows_hold = refl

segment-rows_hold : Holds segment_rows
unfolding segment_rows number_at step_of layout_in settled read_body request_by_frame
segment-rows_hold = refl

-- ---- the whole acknowledgement, and a connection that is resumed

acked-once : calls_due (map receives (up_to (length acked) (trace_of ours acked store).entries)) ≡ session.ack 1 ∷ []
unfolding number_at crc_of steps step missing lowest_bit bit_count judge_features shape_fault limit_fault header_of judge_fields judge_preamble ending frames stream_trace trace_of step_of layout_in settled read_body request_by_frame
acked-once = refl

acked-none : up_to 0 (trace_of ours acked store).entries ≡ []
unfolding number_at crc_of steps step missing lowest_bit bit_count judge_features shape_fault limit_fault header_of judge_fields judge_preamble ending frames stream_trace trace_of step_of layout_in settled read_body request_by_frame
acked-none = refl

resumed-once : calls_due (map receives (up_to (length resumed) (trace_of ours resumed store).entries)) ≡ session.reconnect 1 ∷ []
unfolding number_at crc_of steps step missing lowest_bit bit_count judge_features shape_fault limit_fault header_of judge_fields judge_preamble ending frames stream_trace trace_of step_of layout_in settled read_body request_by_frame
resumed-once = refl

resumed-none : up_to 0 (trace_of ours resumed store).entries ≡ []
unfolding number_at crc_of steps step missing lowest_bit bit_count judge_features shape_fault limit_fault header_of judge_fields judge_preamble ending frames stream_trace trace_of step_of layout_in settled read_body request_by_frame
resumed-none = refl

-- two messages were sent
abbrev two : Session
two = after_calls fresh_session (session.accept 7 ∷ session.accept 8 ∷ [])

held_two : held_of (call_of two (session.reconnect 1)).session ≡ second ∷ []
unfolding agrees judge_state judge_accept judge_ack accept_of reconnect_of held_from
held_two = refl

answer-two : (call_of two (session.reconnect 1)).answer ≡ Resend 1
unfolding agrees judge_state judge_accept judge_ack accept_of reconnect_of held_from
answer-two = refl

resumes : SwitchedDemand3 → Resumes
resumes demand k l cs ds c sent switch own all =
    let a = reading split k cs in
    let b = reading resumed l ds in
    let s : Session = session_after fresh_session cs in
    let later : Connects s (b ∷ []) = c.2 in
    let q : s ≡ two =
    releases-nothing demand Any split split_any fresh_session k cs c.0 c.1 tt
    ∙ ap (after_calls fresh_session) sent in
    let r =
    all-played demand none resumed (length resumed) (session.reconnect 1) (trace_of ours resumed store).entries refl resumed-none resumed-once s l ds later.0 later.1 switch own all in (
      ap held_of (r.0 ∙ ap (λ (x : Session). (call_of x (session.reconnect 1)).session) q) ∙ held_two,
      r.1 ∙ ap (λ (x : Session). (call_of x (session.reconnect 1)).answer ∷ []) q ∙ ap (λ (x : Result Answer Numbers). x ∷ []) answer-two,
    )

-- ---- what is no reason

abbrev entries_behind : List ℕ → List Cause
entries_behind frames = map receives (trace_of ours (banner_bytes 1 0 ++ frames) store).entries

reasons : Reasons
unfolding number_at crc_of steps step missing lowest_bit bit_count judge_features shape_fault limit_fault header_of judge_fields judge_preamble ending frames stream_trace trace_of step_of layout_in settled read_body request_by_frame
reasons = record {
  unfinished = λ sw m. uncovered m (map receives (trace_with sw ours split store).entries) (no-requests-holds m (trace_with sw ours split store).entries (split_any sw tt));
  other = uncovered 2 (map receives (trace_of ours acked store).entries) (refl, (refl, (refl, tt)));
  lower = uncovered 3 (sends 9 ∷ hands 2 ∷ []) (refl, (refl, tt));
  not_full = λ m. uncovered m (entries_behind reset0) (refl, (refl, tt));
  neither_full = λ m. uncovered m (entries_behind reset2) (refl, (refl, tt));
  segments = λ m. uncovered m (entries_behind two_whole) (refl, (refl, (refl, tt)));
  aborted = λ m. uncovered m (entries_behind two_aborted) (refl, (refl, (refl, tt)));
  other_tag = λ m. uncovered m (entries_behind tag10) (refl, (refl, tt));
  damaged = λ m. uncovered m (entries_behind (set ack1 32 3)) (refl, (refl, tt));
}

table : SwitchedDemand3 → Worked
unfolding Worked
table demand = (
  refl,
  fault-rows_hold,
  releases-nothing demand Any split split_any,
  all-played demand none acked (length acked) (session.ack 1) (trace_of ours acked store).entries refl acked-none acked-once,
  resumes demand,
  held-rows_hold,
  result-rows_hold,
  broken-rows_hold,
  answer-rows_hold,
  frame-rows_hold,
  tag-rows_hold,
  reset-rows_hold,
  segment-rows_hold,
  reasons,
  (λ key nonce. sealed-ack key nonce demand),
)

pub returns : goal.returns
returns c = table c.every_cutting.ensures
