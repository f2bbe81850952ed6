-- What an accepted build leaves: its bytes behind the queued ones; and builds one behind the other.
use Prim.Native.Nat.{ℕ, ◌+◌, ◌≤◌}
use mathlib.Core.List.{List, [], ◌∷◌, ◌++◌}
use mathlib.Core.Path.{◌≡◌, refl, sym, ap, ◌∙◌}
use mathlib.Core.Bool.{Bool, true, false, true≢false}
use native.Mathlib.Omega.{arith}
use lib.ListN.{length}
use Rattle.buffer.specs.Splice.{splice}
use Rattle.buffer.proofs.Parts.{Queue, queue-none, queue-more}
use Rattle.refusal.specs.Refusals.{Judged, fine, refused}
use Rattle.refusal.proofs.Judgements.{all-fine}
use Rattle.banner.specs.declared.Revision.{Revision}
use Rattle.banner.specs.Banner.{banner_bytes, judge_own}
use Rattle.body.specs.Body.{frame_bytes, wire_length}
use Rattle.body.proofs.Laws.{length-frame}
use Rattle.std.specs.Prelude.{Ok}
use Rattle.refusal.specs.Writes.{WriteOutcome, wrote, refused_for, Done, done, count_in}
use Rattle.builder.specs.Build.{judge_room, judge_frame, judge_banner, banner_length, outcome, frame_done, banner_done, BuiltBanner}
use Rattle.builder.proofs.Accepted.{Accepted, accepted, banner-fits}
use Rattle.ends.specs.Trip.{Build, Accepts}
use Rattle.ends.specs.Ends.{Queued, buffer_by, queued_by}

-- ---- an outcome with bytes written was not refused

is_wrote : WriteOutcome → Bool
is_wrote (wrote n) = true
is_wrote (refused_for n) = false

-- xs are the n bytes to be written behind the queued ones of buf
record Wrote (j : Judged) (n : ℕ) (buf : List ℕ) (queued : ℕ) (xs : List ℕ) (w : ℕ) (after : List ℕ) : Type 0 where
  judged : j ≡ fine
  count : w ≡ n
  buffer : after ≡ splice buf queued xs

was_written : (j : Judged) (n : ℕ) (buf : List ℕ) (queued : ℕ) (xs : List ℕ) (w : ℕ) (after : List ℕ) → done (wrote w) after ≡ outcome j n buf queued xs → Wrote j n buf queued xs w after
unfolding is_wrote
was_written fine n buf queued xs w after e =
    record { judged = refl; count = ap (λ (d : Done). count_in d.outcome) e; buffer = ap (λ (d : Done). d.buffer) e }
was_written (refused r) n buf queued xs w after e = absurd (true≢false (ap (λ (d : Done). is_wrote d.outcome) e))

-- a frame's build
pub record Appended (r : Revision) (buf : List ℕ) (queued : ℕ) (b : Build) : Type 0 where
  pub request : Accepted r b.header b.abort (length b.source) (length buf) queued
  pub length-bytes : length (frame_bytes r b.header b.abort b.source) ≡ b.written
  pub wire : b.written ≡ wire_length r b.header
  pub buffer : b.buffer ≡ splice buf queued (frame_bytes r b.header b.abort b.source)
  pub room : queued + b.written ≤ length buf

pub appended : (r : Revision) (buf : List ℕ) (queued : ℕ) (b : Build) → Accepts r buf queued b → Appended r buf queued b
unfolding frame_done
appended r buf queued b p =
    let h = b.header in
    let w = was_written (judge_frame r h b.abort (length b.source) (length buf) queued) (wire_length r h) buf queued (frame_bytes r h b.abort b.source) b.written b.buffer p.promised.promise in
    let a = accepted r h b.abort (length b.source) (length buf) queued w.judged in
    record {
      request = a;
      length-bytes = length-frame r h b.abort b.source a.whole ∙ sym w.count;
      wire = w.count;
      buffer = w.buffer;
      room = (let e = w.count in let k = a.fits in omega arith);
    }

-- ---- builds one behind the other

abbrev pub all_bytes : Revision → List Build → List ℕ
all_bytes r [] = []
all_bytes r (b ∷ bs) = frame_bytes r b.header b.abort b.source ++ all_bytes r bs

pub queued-up : (r : Revision) (buf : List ℕ) (queued : ℕ) (bs : List Build) → queued ≤ length buf → Queued r buf queued bs → Queue buf queued (all_bytes r bs) (buffer_by buf bs) (queued_by queued bs)
queued-up r buf queued [] h q = queue-none buf queued h
queued-up r buf queued (b ∷ bs) h q =
    let l = appended r buf queued b q.0 in
    queue-more (frame_bytes r b.header b.abort b.source) l.buffer l.length-bytes l.room (λ k. queued-up r b.buffer (queued + b.written) bs k q.1)

-- ---- the banner's build

pub record Bannered (supported required : ℕ) (buf : List ℕ) (queued n : ℕ) (after : List ℕ) : Type 0 where
  pub ours : judge_own supported required ≡ fine
  pub count : n ≡ banner_length
  pub buffer : after ≡ splice buf queued (banner_bytes supported required)
  pub room : queued + banner_length ≤ length buf

pub bannered : (supported required : ℕ) (buf : List ℕ) (queued n : ℕ) (after : List ℕ) → BuiltBanner supported required buf queued (Ok n) after → Bannered supported required buf queued n after
unfolding banner_done judge_banner
bannered supported required buf queued n after b =
    let w = was_written (judge_banner supported required (length buf) queued) banner_length buf queued (banner_bytes supported required) n after b.promise in
    record {
      ours = (all-fine (judge_own supported required ∷ judge_room banner_length (length buf) queued ∷ []) w.judged).0;
      count = w.count;
      buffer = w.buffer;
      room = banner-fits supported required (length buf) queued w.judged;
    }
