-- Demand 3: the receiver is a machine, and what every list of calls on a machine comes to (Lists) is what the definition over whole streams says.
use Prim.Native.Nat.{ℕ, zero-le}
use mathlib.Core.List.{List, []}
use mathlib.Core.Path.{◌≡◌, sym, ap, ◌∙◌}
use mathlib.Core.Bool.{true, false}
use native.Mathlib.Omega.{arith}
use native.Mathlib.Nat.{sub-zero}
use lib.ListN.{take}
use Rattle.refusal.specs.declared.Numbers.{Numbers}
use Rattle.refusal.specs.Refusals.{Judged, fine, refused, no_refusal}
use Rattle.banner.specs.declared.Features.{Features}
use Rattle.banner.specs.Banner.{judge_own}
use Rattle.stream.specs.Stream.{Entry, Trace, trace_of}
use Rattle.stream.proofs.Laws.{trace-refused}
use Rattle.stream.specs.Adds.{AllAddUp}
use Rattle.stream.proofs.Sums.{all_add_up}
use Rattle.receiver.specs.declared.Stage.TheVariants as stage
use Rattle.receiver.specs.declared.State.{State}
use Rattle.receiver.specs.declared.Received.{Received}
use Rattle.receiver.specs.State.{is_refused, agrees}
use Rattle.receiver.specs.Step.{at, only_own, started, started_by, answer, Answered, Running}
use Rattle.receiver.specs.Every.{unfinished, EveryCall}
use Rattle.receiver.specs.Calls.{Call, Chained, taken_by, store_by, reported_by, AsDefined, Demand3}
use Rattle.refusal.proofs.Booleans.{wrong}
use Rattle.refusal.proofs.Judgements.{by_judgement_lem}
use Rattle.receiver.proofs.Machine.{Machine}
use Rattle.receiver.proofs.Lists.{Comes, Standing, running, has_refused, stays, every_list, uncut, same_end}
use Rattle.receiver.proofs.Scan.{byte_step, scan, machine_answer, machine_feed}
use Rattle.receiver.proofs.Gathers.{trace_by}
use Rattle.receiver.proofs.Stages as stages
use Rattle.receiver.proofs.Streams.{stream-trace}
use Rattle.receiver.proofs.Live.{RefusedFor, byte_after, start-running, start-refused}
use Rattle.receiver.proofs.Every.{feeding, refused-answer, sound}
use Rattle.receiver.proofs.Adds.{add-up}

-- ---- the receiver as a machine

-- an answer as the promise tells it
answer-given : {st : State} {s piece : List ℕ} {r : Received} {s' : List ℕ} → Answered st s piece r s'
    → record { received = r; store = s' } ≡ answer st s piece
answer-given a = rw (a.received, a.store)

abbrev receiver : Machine
receiver = record {
  State = State;
  on_byte = byte_step;
  Running = Running;
  RefusedFor = RefusedFor;
  Call = Call;
  size = λ c. c.size;
  answer = λ c. machine_answer (record { received = c.received; store = c.store });
  Answered = λ st s piece c. Answered st s piece c.received c.store;
  keeps = byte_after;
  silent = λ n st s P bs g. (let z = stages.refused-ends st s P bs g.stage in (ap (λ (t : Trace). t.entries) z, ap (λ (t : Trace). t.store) z));
  feeds = λ st s piece c l a. ap machine_answer (answer-given a ∙ feeding st s piece l) ∙ machine_feed st s piece;
  repeats = λ n st s piece c g a. ap machine_answer (answer-given a ∙ refused-answer st s piece g);
}

standing-agrees : {st : State} {s : List ℕ} {es : List Entry} → Standing receiver st s es → agrees st ≡ true
standing-agrees (running l clean) = l.agree
standing-agrees (has_refused n g) = g.agree

-- ---- a start that is not refused

started_by_lem : (own : Features) {j : Judged} → judge_own own.supported own.required ≡ j → started own ≡ started_by j own
unfolding started
started_by_lem own e = rw e

module _ (own : Features) (store : List ℕ) (ok : judge_own own.supported own.required ≡ fine) where
  abbrev start : State
  start = at stage.Magic 0 (only_own own no_refusal)

  runs : (stream : List ℕ) (cs : List Call) → Chained stream (started own) store 0 cs
      → Comes receiver stream start store 0 0 start store cs (reported_by 0 cs)
  runs stream cs ch = every_list receiver stream start store 0 cs zero-le (start-running own store ok) (rw (started_by_lem own ok) at ch)

  traced : (bytes : List ℕ) → trace_by (scan start store 0 bytes) ≡ trace_of own bytes store
  unfolding trace_of
  traced bytes = stream-trace own bytes store ∙ rw ok

  -- the reports and the store of a list of calls are the definition's
  defines : (stream : List ℕ) (cs : List Call) → Comes receiver stream start store 0 0 start store cs (reported_by 0 cs)
      → record { entries = reported_by 0 cs; store = store_by store cs } ≡ trace_of own (take (taken_by 0 cs) stream) store
  defines stream cs r = ap trace_by (sym (rw (sub-zero (taken_by 0 cs)) at r.reached.scanned)) ∙ traced (take (taken_by 0 cs) stream)

  defined-live : (stream : List ℕ) (cs : List Call) → Chained stream (started own) store 0 cs → AsDefined own stream store cs
  unfolding AllAddUp
  defined-live stream cs ch =
      let s₀ = started_by_lem own ok in
      let r = runs stream cs ch in
      let d = defines stream cs r in
      let w = traced stream in
      record {
        within = r.reached.within;
        each = rw ok (rw (ap (λ (t : Trace). t.entries) w) at r.each);
        reports = rw ok (ap (λ (t : Trace). t.entries) d);
        final = ap (λ (t : Trace). t.store) d;
        whole = λ e.
            let u = uncut receiver stream start store 0 cs r (rw ok at e) in
            (rw ok (u.0 ∙ ap (λ (t : Trace). t.entries) w), u.1 ∙ ap (λ (t : Trace). t.store) w);
        same = λ stream' cs' ch' e.
            let z = same_end receiver cs cs' r (runs stream' cs' ch') (rw (sub-zero (taken_by 0 cs), sub-zero (taken_by 0 cs')) e) in
            (rw s₀ z.0, z.1);
        adds = rw (ok, ap (λ (t : Trace). t.entries) d) (all_add_up own (take (taken_by 0 cs) stream) store);
        agreeing = rw s₀ (standing-agrees r.standing);
      }

-- ---- a start that is refused

refused-start : (own : Features) (n : Numbers) → judge_own own.supported own.required ≡ refused n → RefusedFor n (started own)
refused-start own n e = rw (started_by_lem own e) (start-refused own n e)

defined-refused : (own : Features) (stream store : List ℕ) (cs : List Call) (n : Numbers)
    → judge_own own.supported own.required ≡ refused n → Chained stream (started own) store 0 cs → AsDefined own stream store cs
defined-refused own stream store cs n not16 ch =
    let g = refused-start own n not16 in
    let r = stays receiver n stream 0 (started own) store cs g ch in
    let z = trace-refused own (take (taken_by 0 cs) stream) store n not16 in
    record {
      within = rw r.taken zero-le;
      each = rw not16 r.repeats;
      reports = rw not16 (sym (ap (λ (t : Trace). t.entries) z));
      final = r.store ∙ sym (ap (λ (t : Trace). t.store) z);
      whole = λ e. wrong (rw not16 at e);
      same = λ stream' cs' ch' e.
          let r' = stays receiver n stream' 0 (started own) store cs' g ch' in
          (r'.state ∙ sym r.state, r'.store ∙ sym r.store);
      adds = rw not16 tt;
      agreeing = ap agrees r.state ∙ g.agree;
    }

-- the state of a start agrees with itself
pub start-agrees : (own : Features) → agrees (started own) ≡ true
start-agrees own =
    by_judgement_lem (judge_own own.supported own.required) (λ e. rw (started_by_lem own e) (start-running own [] e).agree) (λ n e. (refused-start own n e).agree)

-- and no byte is unfinished
start-nothing : (own : Features) → is_refused (started own).position.stage ≡ false → ◌≡◌ {A = ℕ} 0 (unfinished (started own))
start-nothing own l =
    by_judgement_lem (judge_own own.supported own.required) (λ e. rw (started_by_lem own e)) (λ n e. rw (started_by_lem own e))

-- DEMAND 3
pub demand3 : Demand3
unfolding Demand3
demand3 own stream store cs ch =
    by_judgement_lem (judge_own own.supported own.required) (λ e. defined-live own store e stream cs ch) (λ n e. defined-refused own stream store cs n e ch)

-- WHAT HOLDS OF EVERY CALL
pub every_call : EveryCall
unfolding EveryCall
every_call =
    (start-agrees, sound, λ own cs h. (let a = add-up 0 (started own) cs (record { agree = start-agrees own; counts = start-nothing own }) h in omega arith))
