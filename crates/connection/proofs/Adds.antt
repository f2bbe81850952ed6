-- Bytes add up, before a switch and behind it: what was unfinished and what is taken is what is reported and what is unfinished then.
use Prim.Native.Nat.{ℕ, ◌+◌, ◌-◌}
use mathlib.Core.List.{List, [], ◌∷◌, ◌++◌}
use mathlib.Core.Path.{◌≡◌, refl, sym, ap, subst, ◌∙◌}
use mathlib.Core.Bool.{Bool, true, false, cond}
use native.Mathlib.Omega.{arith}
use native.Mathlib.Nat.{add-zero, zero-add, add_assoc}
use lib.ListN.{length, take, drop}
use lib.Dec.{ltb}
use borrow.Author.Tests.{ltb-false}
use Rattle.refusal.specs.declared.Numbers.{Numbers}
use Rattle.refusal.specs.Refusals.{Judged, fine, refused}
use Rattle.refusal.proofs.Booleans.{by_test, at_test, by_less, wrong}
use Rattle.refusal.proofs.Judgements.{by_judgement_lem}
use Rattle.banner.specs.declared.Features.{Features}
use Rattle.banner.specs.Banner.{judge_own}
use Rattle.preamble.specs.declared.Header.{Header}
use Rattle.preamble.specs.Judge.{header_of}
use Rattle.body.specs.End.{Ended, whole, dropped, refused_for}
use Rattle.stream.specs.declared.Event.TheVariants as event
use Rattle.stream.proofs.Events.{by_event}
use Rattle.receiver.specs.declared.Stage.{Stage}
use Rattle.receiver.specs.declared.Known.{Known}
use Rattle.receiver.specs.declared.State as crc-state
use Rattle.receiver.specs.Report.{Report}
use Rattle.std.specs.Prelude.{Some, None}
use Rattle.receiver.specs.State as crc-states
use Rattle.receiver.specs.State.{rank}
use Rattle.receiver.proofs.Ranks.{stage_at}
use Rattle.receiver.specs.Step as crc
use Rattle.stream.specs.Events.{passing}
use Rattle.receiver.specs.Every as crc-every
use Rattle.receiver.proofs.Every as crc-calls
use Rattle.receiver.proofs.Adds as crc-adds
use Rattle.secure.specs.Layout.{no_second_part, no_last_part, inline_length, last_lengths, first_length, second_part_length, last_part_length, sealed_length}
use Rattle.secure.specs.Reading.{judge_padding, judge_first, unpadded, last_ended, zeroed}
use Rattle.sealed_receiver.specs.declared.Stage as sealed-stage
use Rattle.sealed_receiver.specs.declared.Stage.TheVariants as stage
use Rattle.sealed_receiver.specs.declared.Known as sealed-known
use Rattle.sealed_receiver.specs.declared.State as sealed-state
use Rattle.sealed_receiver.specs.State as sealed-states
use Rattle.sealed_receiver.specs.Step as sealed
use Rattle.sealed_receiver.proofs.Live as sealed-live
use Rattle.sealed_receiver.proofs.Every as sealed-calls
use Rattle.connection.specs.declared.Mode.{Mode}
use Rattle.connection.specs.declared.Mode.TheVariants as mode
use Rattle.connection.specs.declared.State.{State}
use Rattle.connection.specs.declared.Received.{Received}
use Rattle.connection.specs.Step.{ready_after, ready_rule, agrees, begun, Answer, by_crc, by_secure, Answered, judge_switch, switched_state, SwitchedWith}
use Rattle.connection.specs.Calls.{Try}
use Rattle.connection.specs.Every.{refused_in_use, needed_in_use, Running, EveryCall, AnyCall, taking, switching, Handed, all_taken, length_by, all_reported, came_before, unfinished, unfinished_after, unfinished_by}
use Rattle.connection.proofs.Machines.{crc-answer, secure_answer_lem}
use Rattle.connection.proofs.SplitAtSwitch.{ready_so, fine-ready}
use Rattle.connection.proofs.Every.{state_of, rule_of, in-use-of, secure_unready, RefusedFor, refused_crc, refused_secure, refused_of, lasts, short_so, well, sound, sound-switch, begun-agrees}

-- n bytes of the stream since the last report, by the report and the state that it leaves
abbrev Counts : Report → ℕ → State → Type 0
Counts None n st = n ≡ unfinished st
Counts (Some e) n st = passing e (n ≡ length_by st.mode (Some e) st.crc.known + unfinished st) (λ m. Unit {0})

-- ---- crc frames

module _ (c : crc-state.State) (s piece : List ℕ) (l : crc.Running c s) where
  abbrev fed : crc.Answer
  fed = crc.feed c s piece

  crc-counts : (ready : Bool) (x : sealed-state.State) (p : Report) → fed.received.report ≡ p
      → Counts p (crc-every.unfinished c + fed.received.taken) (state_of mode.Crc ready fed.received.state x)
  crc-counts ready x None q = rw q at (crc-adds.feed-counts c s piece l)
  crc-counts ready x (Some e) q = rw q at (crc-adds.feed-counts c s piece l)

-- ---- sealed frames

module _ (ready : Bool) (c : crc-state.State) where
  abbrev within : sealed-state.State → State
  within x = state_of mode.Secure ready c x

  abbrev CountsStep : ℕ → sealed.Stepped → Type 0
  CountsStep n x = Counts x.report n (within x.state)

  judged-counts : (j : Judged) (s : List ℕ) (n : ℕ) (x : sealed.Stepped) → CountsStep n x → CountsStep n (sealed.unless_refused j s x)
  judged-counts fine s n x f = f
  judged-counts (refused m) s n x f = tt

  frame-counts : (e : Ended) (v : sealed-known.Known) (p s : List ℕ) (n : ℕ) → n ≡ sealed_length v.header → CountsStep n (sealed.end_frame e v p s)
  frame-counts whole v p s n e = e ∙ sym (add-zero (sealed_length v.header))
  frame-counts dropped v p s n e = e ∙ sym (add-zero (sealed_length v.header))
  frame-counts (refused_for m) v p s n e = tt

  module _ (v : sealed-known.Known) (s : List ℕ) (n : ℕ) where
    abbrev h : Header
    h = v.header

    last-counts : n ≡ first_length + second_part_length h → CountsStep n (sealed.begin_last v s)
    unfolding sealed_length
    last-counts e =
        at_test (λ b. CountsStep n (cond b (sealed.end_frame whole v (take h.s1.len s) s) (sealed.silent (sealed.at stage.Last v) s))) (no_last_part h)
        (λ q. let z : last_part_length h ≡ 0 = rw q in frame-counts whole v (take h.s1.len s) s n (omega (arith, e, z)))
        (λ q. e ∙ sym (add-zero (first_length + second_part_length h)))

    rest-counts : n ≡ first_length → CountsStep n (sealed.begin_second_part v s)
    rest-counts e =
        at_test (λ b. CountsStep n (cond b (sealed.begin_last v s) (sealed.silent (sealed.at stage.Second v) s))) (no_second_part h)
        (λ q. let z : second_part_length h ≡ 0 = rw q in last-counts (omega (arith, e, z))) (λ q. e)

  finish-counts : (k : sealed-stage.Stage) (b : List ℕ) (v : sealed-known.Known) (s : List ℕ) → sealed-states.is_refused k ≡ false
      → CountsStep (came_before k v.header + sealed-states.size_of k v.header) (sealed.finish k b v s)
  unfolding sealed.finish sealed.after_first_part sealed.after_second_part sealed.after_last_part sealed_length
  finish-counts stage.First b v s o =
      judged-counts (sealed.judge_part v.receiving b) s 96 _
      (let text = sealed.part_text v.receiving b in judged-counts (judge_first text (length s)) s 96 _ (rest-counts (sealed.with_header (sealed.with_opened v) (header_of text)) _ 96 refl))
  finish-counts stage.Second b v s o =
      let h = v.header in
      let bytes = sealed.sealed_in stage.Second h s in
      let n = first_length + second_part_length h in
      let text = sealed.part_text v.receiving bytes in
      judged-counts (sealed.judge_part v.receiving bytes) (zeroed h s) n _
      (judged-counts (judge_padding (drop (h.s1.len - inline_length) text)) (zeroed h s) n _ (last-counts (sealed.with_opened v) _ n refl))
  finish-counts stage.Last b v s o =
      let h = v.header in
      let bytes = sealed.sealed_in stage.Last h s in
      let n = first_length + second_part_length h + last_part_length h in
      let text = sealed.part_text v.receiving bytes in
      judged-counts (sealed.judge_part v.receiving bytes) (zeroed h s) n _
      (frame-counts (last_ended h text) (sealed.with_opened v) (take h.s1.len s ++ unpadded (last_lengths h) text) s n refl)
  finish-counts stage.Refused b v s o = wrong (sym o)

  byte_counts : (x : sealed-state.State) (s : List ℕ) (b : ℕ) → sealed.Running x s → CountsStep (unfinished (within x) + 1) (sealed.on_byte x s b)
  unfolding sealed.on_byte
  byte_counts x s b r =
      let came = came_before x.position.stage x.known.header in
      at_test (λ t. CountsStep (unfinished (within x) + 1) (sealed.reached (sealed.absorbed x (b ∷ [])) (sealed.stored x s (b ∷ [])) t)) (ltb (x.position.got + 1) (sealed.size x))
      (λ e. add_assoc came x.position.got 1)
      (λ e.
      let q : unfinished (within x) + 1 ≡ came + sealed.size x = omega (arith, ltb-false (x.position.got + 1) (sealed.size x) e, sealed-live.inside_of r) in
      rw q (finish-counts x.position.stage _ x.known (sealed.stored x s (b ∷ [])) r.live))

  sealed-counts : (x : sealed-state.State) (s piece : List ℕ) → sealed.Running x s
      → (let f = sealed.feed x s piece in Counts f.received.report (unfinished (within x) + f.received.taken) (within f.received.state))
  unfolding sealed.feed
  sealed-counts x s [] r = add-zero (unfinished (within x))
  sealed-counts x s (b ∷ bs) r =
      by_report (sealed.on_byte x s b).report (sealed.on_byte x s b) (sealed-live.byte_leaves x s b r) (byte_counts x s b r)
      (sealed-counts (sealed.on_byte x s b).state (sealed.on_byte x s b).store bs)
    where
      by_report : (p : Report) (y : sealed.Stepped) → sealed-live.After p y.state y.store → Counts p (unfinished (within x) + 1) (within y.state)
          → (sealed.Running y.state y.store → (let f = sealed.feed y.state y.store bs in Counts f.received.report (unfinished (within y.state) + f.received.taken) (within f.received.state)))
          → (let a = sealed.onward p 1 y (sealed.feed y.state y.store bs) in Counts a.received.report (unfinished (within x) + a.received.taken) (within a.received.state))
      by_report None y a c ih =
          let f = sealed.feed y.state y.store bs in
          let q : unfinished (within x) + (1 + f.received.taken) ≡ unfinished (within y.state) + f.received.taken = omega (arith, c) in
          rw q (ih a)
      by_report (Some e) y a c ih = c

-- ---- a call, by the mode

fed-counts : (k : Mode) (ready : Bool) (c : crc-state.State) (x : sealed-state.State) (s piece : List ℕ) (r : Received) (s' : List ℕ)
    → (let st = state_of k ready c x in Answered st s piece r s' → Running st s → Counts r.report (unfinished st + r.taken) r.state)
fed-counts mode.Crc ready c x s piece r s' a l =
    let st = state_of mode.Crc ready c x in
    let run : crc.Running c s = record { agree = in-use-of st l.agree; live = l.live; fits = l.fits } in
    let f = crc.feed c s piece in
    let e : r ≡ (by_crc st f).received =
    a.received ∙ ap (λ (y : Answer). y.received) (crc-answer st s piece refl (rule_of st l.agree) ∙ ap (by_crc st) (crc-calls.feeding c s piece run)) in
    subst (λ (y : Received). Counts y.report (unfinished st + y.taken) y.state) (sym e)
    (crc-counts c s piece run (ready_after ready f.received.taken f.received.report) x f.received.report refl)
fed-counts mode.Secure ready c x s piece r s' a l =
    let st = state_of mode.Secure ready c x in
    let run : sealed.Running x s = record { agree = in-use-of st l.agree; live = l.live; fits = l.fits } in
    let e : r ≡ (by_secure st (sealed.feed x s piece)).received =
    a.received
    ∙ ap (λ (y : Answer). y.received) (secure_answer_lem st s piece refl (secure_unready ready c x (rule_of st l.agree)) ∙ ap (by_secure st) (sealed-calls.feeding x s piece run)) in
    subst (λ (y : Received). Counts y.report (unfinished st + y.taken) y.state) (sym e) (sealed-counts ready c x s piece run)

-- ---- over a list of calls

-- what stands before a call: n bytes are unfinished, or the stream is refused
record Counted (n : ℕ) (st : State) : Type 0 where
  agree : agrees st ≡ true
  counts : refused_in_use st ≡ false → n ≡ unfinished st

-- and after it
record Next (n : ℕ) (r : Received) : Type 0 where
  adds : n + r.taken ≡ length_by r.state.mode r.report r.state.crc.known + unfinished_after r.report n r
  counted : Counted (unfinished_after r.report n r) r.state

more-length : (k : Mode) (v : Known) → length_by k None v ≡ 0
more-length mode.Crc v = refl
more-length mode.Secure v = refl

refused-length : (k : Mode) (m : Numbers) (v : Known) → length_by k (Some (event.Refused m)) v ≡ 0
refused-length mode.Crc m v = refl
refused-length mode.Secure m v = refl

next-at : (n t : ℕ) (st : State) (p : Report) → agrees st ≡ true → ((m : Numbers) → p ≡ Some (event.Refused m) → refused_in_use st ≡ true)
    → Counts p (n + t) st → Next n (record { state = st; taken = t; report = p })
next-at n t st None a g c =
    record { adds = c ∙ sym (ap (λ (k : ℕ). k + unfinished st) (more-length st.mode st.crc.known) ∙ zero-add (unfinished st)); counted = record { agree = a; counts = λ _. refl } }
next-at n t st (Some e) a g c =
    by_event (λ w. ((m : Numbers) → Some w ≡ Some (event.Refused m) → refused_in_use st ≡ true) → Counts (Some w) (n + t) st → Next n (record { state = st; taken = t; report = Some w }))
    (λ w p h d. record { adds = rw p (rw p at d); counted = record { agree = a; counts = λ _. rw p } })
    (λ m h d. record {
      adds = sym (ap (λ (k : ℕ). k + (n + t)) (refused-length st.mode m st.crc.known) ∙ zero-add (n + t));
      counted = record { agree = a; counts = λ i. wrong (sym i ∙ h m refl) };
    })
    e
    g
    c

refused_so : {m : Numbers} {st : State} → RefusedFor m st → refused_in_use st ≡ true
refused_so (refused_crc g) = rw (g.mode, g.has_refused.stage)
refused_so (refused_secure g) = rw (g.mode, g.has_refused.stage)

call_next : (n : ℕ) (st : State) (s piece : List ℕ) (r : Received) (s' : List ℕ) → Counted n st → Answered st s piece r s' → Next n r
call_next n st s piece r s' w a =
    let z = well st s piece r s' a w.agree in
    next-at n r.taken r.state r.report z.agree (λ m q. refused_so (z.has_refused m q))
    (by_test (refused_in_use st) (λ q. none (lasts (refused_of st.mode st.ready st.crc st.sealed w.agree q).1 s piece r s' a).report)
    (λ q. by_less (length s) (needed_in_use st) (λ u. none (short_so st s piece r s' a w.agree q u).report)
    (λ u. subst (λ (k : ℕ). Counts r.report (k + r.taken) r.state) (sym (w.counts q))
    (fed-counts st.mode st.ready st.crc st.sealed s piece r s' a (record { agree = w.agree; live = q; fits = u })))))
  where
    none : {m : Numbers} → r.report ≡ Some (event.Refused m) → Counts r.report (n + r.taken) r.state
    none e = subst (λ (p : Report). Counts p (n + r.taken) r.state) (sym e) tt

-- ---- a try to switch: it is made where nothing is unfinished

none_came : (k : Stage) (v : Known) → rank k ≡ 4 → crc-every.came_before k v ≡ 0
unfolding crc-states.stage_of
none_came k v e = ap (λ (x : Stage). crc-every.came_before x v) (stage_at k 4 e)

ready-none : (k : Mode) (ready : Bool) (c : crc-state.State) (x : sealed-state.State)
    → (let st = state_of k ready c x in ready_rule st ≡ true → ready ≡ true → (refused_in_use st ≡ false) × (unfinished st ≡ 0))
ready-none mode.Secure ready c x e q = wrong (sym (ready_so (state_of mode.Secure ready c x) e q).crc)
ready-none mode.Crc ready c x e q =
    let z = ready_so (state_of mode.Crc ready c x) e q in
    (rw z.stage, omega (arith, none_came c.position.stage c.known z.stage, z.got))

switched-counted : (n : ℕ) (st : State) (c : Try) → Counted n st → SwitchedWith st c.key c.receiving c.sending c.switched → Counted n c.switched.state
unfolding sealed.switched
switched-counted n st c w s =
    by_judgement_lem (judge_switch st)
    (λ e.
    let z = ready-none st.mode st.ready st.crc st.sealed (rule_of st w.agree) (fine-ready st e) in
    record {
      agree = (sound-switch st c.key c.receiving c.sending c.switched s).agreeing w.agree;
      counts = λ _. w.counts z.0 ∙ z.1 ∙ sym (ap unfinished (to e));
    })
    (λ m e. subst (Counted n) (sym (to e)) w)
  where
    to : {j : Judged} → judge_switch st ≡ j → c.switched.state ≡ switched_state j st c.key c.receiving
    to e = s.state ∙ ap (λ (i : Judged). switched_state i st c.key c.receiving) e

add-up : (n : ℕ) (st : State) (cs : List AnyCall) → Counted n st → Handed st cs → n + all_taken cs ≡ all_reported cs + unfinished_by n cs
add-up n st [] w h = omega arith
add-up n st (taking c ∷ cs) w h =
    let x = call_next n st c.store c.piece c.received c.after w h.0 in
    let ih = add-up (unfinished_after c.received.report n c.received) c.received.state cs x.counted h.1 in
    omega (arith, x.adds, ih)
add-up n st (switching c ∷ cs) w h = add-up n c.switched.state cs (switched-counted n st c w h.0) h.1

nothing_yet : (j : Judged) (own : Features) → ◌≡◌ {A = ℕ} 0 (crc-every.unfinished (crc.started_by j own))
nothing_yet fine own = refl
nothing_yet (refused n) own = refl

from_start : (own : Features) → Counted 0 (begun own)
unfolding begun crc.started
from_start own = record { agree = begun-agrees own; counts = λ _. nothing_yet (judge_own own.supported own.required) own }

pub every_call : EveryCall
unfolding EveryCall
every_call = (
  λ own b h. record { state = h.state; judgement = h.judgement; agreeing = ap agrees h.state ∙ begun-agrees own },
  λ st s piece r s' a. sound st s piece r s' a,
  λ st key receiving sending r w. sound-switch st key receiving sending r w,
  λ own cs h. let a = add-up 0 (begun own) cs (from_start own) h in omega (arith, a),
)
