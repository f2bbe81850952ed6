-- The receiving side as a machine (Machine), before a switch and behind it: its byte step is that of the receiver in use.
use Prim.Native.Nat.{ℕ, suc, ◌+◌, zero-le}
use mathlib.Core.List.{List, [], ◌∷◌}
use mathlib.Core.Path.{◌≡◌, refl, ap, ◌∙◌}
use mathlib.Core.Bool.{Bool, true, false, not, cond, ◌&&◌, ◌||◌, and-true, and-false}
use native.Mathlib.Numerals.{one-add}
use native.Mathlib.Omega.{arith}
use lib.Dec.{eqb, leb, ltb}
use lib.ListN.{length, take}
use borrow.Author.Tests.{le-ltb, ne_eqb, not-true}
use Rattle.refusal.specs.declared.Numbers.{Numbers}
use Rattle.refusal.specs.declared.Refusal.TheVariants as refusal
use Rattle.refusal.specs.Refusals.{Judged, fine, refused, numbers_of}
use Rattle.refusal.proofs.Booleans.{at_test, at_cond, wrong, or_false}
use Rattle.buffer.specs.Le.{number_at}
use Rattle.banner.specs.declared.Revision.{Revision}
use Rattle.banner.specs.Banner.{judge_features, judge_magic, judge_length, revision_of, features_of, is_msgr21}
use Rattle.preamble.specs.declared.Header.{Header}
use Rattle.preamble.specs.Layout.{total}
use Rattle.preamble.specs.Judge.{header_of, judge_preamble}
use Rattle.body.specs.Body.{segment_sum, no_epilogue}
use Rattle.body.specs.End.{Ended, whole, dropped, refused_for, ending}
use Rattle.stream.specs.Stream.{zeroed}
use Rattle.stream.specs.declared.Event.TheVariants as event
use Rattle.stream.specs.Events.{Role, banner_end, first_end, frame_end, stream_end, role_of}
use Rattle.receiver.specs.Report.{Report}
use Rattle.std.specs.Prelude.{Some, None}
use Rattle.receiver.specs.declared.Known.{Known}
use Rattle.receiver.specs.declared.Stage.{Stage}
use Rattle.receiver.specs.declared.Stage.TheVariants as stage
use Rattle.receiver.specs.declared.State as crc-state
use Rattle.receiver.specs.State.{rank, has_first_sum, revision_rule}
use Rattle.receiver.specs.Step as crc
use Rattle.receiver.proofs.Machine.{Machine, After, after_map, Silent, refused_again, scan-silent}
use Rattle.receiver.proofs.Machine as machine
use Rattle.receiver.proofs.Live as crc-live
use Rattle.receiver.proofs.Every as crc-every
use Rattle.sealed_receiver.specs.declared.State as sealed-state
use Rattle.sealed_receiver.specs.declared.Stage.TheVariants as part
use Rattle.sealed_receiver.specs.Step as sealed
use Rattle.receiver.proofs.Gathers as gathers
use Rattle.sealed_receiver.proofs.Gathered as gathered
use Rattle.sealed_receiver.proofs.Traces as traces
use Rattle.sealed_receiver.proofs.Live as sealed-live
use Rattle.sealed_receiver.proofs.Every as sealed-every
use Rattle.connection.specs.declared.Mode.{Mode}
use Rattle.connection.specs.declared.Mode.TheVariants as mode
use Rattle.connection.specs.declared.State.{State}
use Rattle.connection.specs.Switched.{ends_frame}
use Rattle.connection.specs.Step.{is_secure, report_ends_frame, ready_after, ready_rule, Answer, by_crc, by_secure, answer, Answered}
use Rattle.connection.specs.Calls.{Piece}
use Rattle.connection.proofs.Laws.{mode-is}

-- ---- a frame's end leaves the receiver before the next preamble, and the revision is the banner's from the banner on

abbrev pub before : crc-state.State → Bool
before st = eqb (rank st.position.stage) 4 && eqb st.position.got 0

-- the revision behind an event, by the one before it
abbrev pub RevisionAfterRole : Role → Revision → Revision → Type 0
RevisionAfterRole (banner_end p r) v w = (is_msgr21 v ≡ false) × (w ≡ r)
RevisionAfterRole (first_end h) v w = w ≡ v
RevisionAfterRole (frame_end h) v w = w ≡ v
RevisionAfterRole (stream_end n) v w = Unit {0}

abbrev pub RevisionAfter : Report → Revision → Revision → Type 0
RevisionAfter None v w = w ≡ v
RevisionAfter (Some e) v w = RevisionAfterRole (role_of e) v w

record Lands (v : Revision) (x : crc.Stepped) : Type 0 where
  there : report_ends_frame x.report ≡ true → before x.state ≡ true
  revision : RevisionAfter x.report v x.state.known.revision

lands_refused : (w : Known) (n : Numbers) (s : List ℕ) {v : Revision} → Lands v (crc.refuse w n s)
lands_refused w n s = record { there = λ e. wrong e; revision = tt }

lands_unless : (j : Judged) (w : Known) (s : List ℕ) {v : Revision} (x : crc.Stepped) → Lands v x → Lands v (crc.unless_refused j w s x)
lands_unless fine w s x l = l
lands_unless (refused n) w s x l = lands_refused w n s

lands_end : (e : Ended) (v : Known) (s : List ℕ) → Lands v.revision (crc.end_frame e v s)
lands_end whole v s = record { there = λ e. refl; revision = refl }
lands_end dropped v s = record { there = λ e. refl; revision = refl }
lands_end (refused_for n) v s = lands_refused v n (zeroed v.header s)

lands_silent : (st : crc-state.State) (s : List ℕ) → Lands st.known.revision (crc.silent st s)
lands_silent st s = record { there = λ e. wrong e; revision = refl }

lands_banner : (v : Known) (s : List ℕ) → is_msgr21 v.revision ≡ false → Lands v.revision (crc.end_banner v s)
lands_banner v s h =
    let r = revision_of v.own.supported v.peer.supported in
    lands_unless (judge_features v.own.supported v.own.required v.peer.supported v.peer.required) v s
    (crc.stepped (crc.at stage.Preamble 0 (crc.with_revision v r)) s (Some (event.Banner v.peer r))) (record { there = λ e. wrong e; revision = (h, refl) })

lands_epilogue : (v : Known) (s : List ℕ) → Lands v.revision (crc.begin_epilogue v s)
lands_epilogue v s = at_cond (Lands v.revision) (no_epilogue v.revision v.header) (lands_end whole v s) (lands_silent (crc.at stage.Epilogue 0 v) s)

lands_rest : (v : Known) (got : ℕ) (s : List ℕ) → Lands v.revision (crc.begin_rest v got s)
lands_rest v got s = at_cond (Lands v.revision) (ltb got (total v.header)) (lands_silent (crc.at stage.Rest got v) s) (lands_epilogue v s)

lands_body : (v : Known) (s : List ℕ) → Lands v.revision (crc.begin_body v s)
lands_body v s = at_cond (Lands v.revision) (has_first_sum v) (lands_silent (crc.at stage.First 0 v) s) (lands_rest v 0 s)

-- behind segment 1 no refusal is given, and so the revision is kept
rest-revision : (v : Known) (got : ℕ) (s : List ℕ) → (crc.begin_rest v got s).state.known.revision ≡ v.revision
rest-revision v got s =
    let kept : crc.Stepped → Type 0 = λ x. x.state.known.revision ≡ v.revision in
    at_cond kept (ltb got (total v.header)) refl (at_cond kept (no_epilogue v.revision v.header) refl refl)

lands_first : (b : Bool) (h : Header) {v : Revision} (x : crc.Stepped) → x.state.known.revision ≡ v → Lands v x → Lands v (crc.report_first b h x)
lands_first true h x q l = record { there = λ e. wrong e; revision = q }
lands_first false h x q l = l

-- a banner is reported where no revision is known yet
lands_finish : (k : Stage) (b : List ℕ) (v : Known) (s : List ℕ) → revision_rule k v ≡ true → Lands v.revision (crc.finish k b v s)
unfolding crc.finish
lands_finish stage.Magic b v s h =
    lands_unless (judge_magic (take 8 b)) v s (crc.silent (crc.at stage.Length 0 v) s) (lands_silent (crc.at stage.Length 0 v) s)
lands_finish stage.Length b v s h =
    let st = crc.at stage.Payload 0 (crc.with_payload v (number_at 2 0 b)) in
    lands_unless (judge_length (number_at 2 0 b)) v s (crc.silent st s) (lands_silent st s)
lands_finish stage.Payload b v s h =
    let w = crc.with_peer v (features_of (take 16 b)) in
    at_cond (Lands v.revision) (leb v.payload 16) (lands_banner w s (not-true (is_msgr21 v.revision) h)) (lands_silent (crc.at stage.Skip 0 w) s)
lands_finish stage.Skip b v s h = lands_banner v s (not-true (is_msgr21 v.revision) h)
lands_finish stage.Preamble b v s h =
    let w = crc.with_header v (header_of b) in
    lands_unless (judge_preamble b (length s)) v s (crc.begin_body w s) (lands_body w s)
lands_finish stage.First b v s h = lands_silent (crc.at stage.FirstSum 0 v) s
lands_finish stage.FirstSum b v s h =
    let n = v.header.s1.len in
    let w = crc.with_first v in
    at_cond (Lands v.revision) (eqb (number_at 4 0 b) (segment_sum (take n s)))
    (lands_first (ltb 1 v.header.count) v.header (crc.begin_rest w n s) (rest-revision w n s) (lands_rest w n s))
    (lands_refused v (numbers_of (refusal.SegmentChecksum 1)) (zeroed v.header s))
lands_finish stage.Rest b v s h = lands_epilogue v s
lands_finish stage.Epilogue b v s h = lands_end (ending v.revision v.header b (take (total v.header) s)) v s
lands_finish stage.Refused b v s h = lands_silent (crc.at stage.Refused 0 v) s

lands_byte : (st : crc-state.State) (s : List ℕ) (b : ℕ) → crc.Running st s → Lands st.known.revision (crc.on_byte st s b)
unfolding crc.on_byte
lands_byte st s b r =
    let st' = crc.absorbed st (b ∷ []) in
    let s' = crc.stored st s (b ∷ []) in
    at_test (λ t. Lands st.known.revision (crc.reached st' s' t)) (ltb (st.position.got + 1) (crc.size st))
    (λ _. lands_silent st' s') (λ _. lands_finish st.position.stage st'.position.block st.known s' (crc-live.live r).rule.revision)

-- ---- crc frames

abbrev pub crc_byte : State → List ℕ → ℕ → machine.Stepped State
crc_byte st s b = record {
  state = record { mode = st.mode; ready = report_ends_frame (crc.on_byte st.crc s b).report; crc = (crc.on_byte st.crc s b).state; sealed = st.sealed };
  store = (crc.on_byte st.crc s b).store;
  report = (crc.on_byte st.crc s b).report;
}

pub record CrcRunning (st : State) (s : List ℕ) : Type 0 where
  pub mode : st.mode ≡ mode.Crc
  pub rule : ready_rule st ≡ true
  pub live : crc.Running st.crc s

pub record CrcRefusedFor (n : Numbers) (st : State) : Type 0 where
  pub mode : st.mode ≡ mode.Crc
  pub rule : ready_rule st ≡ true
  pub has_refused : crc-live.RefusedFor n st.crc

rule-after : (c a : Bool) (m : Mode) → m ≡ mode.Crc → (c ≡ true → a ≡ true) → cond c (not (is_secure m) && a) true ≡ true
rule-after true a m e l = rw (e, l refl)
rule-after false a m e l = refl

pub crc-keeps : (st : State) (s : List ℕ) (b : ℕ) → CrcRunning st s → After CrcRunning CrcRefusedFor (crc_byte st s b).report (crc_byte st s b).state (crc_byte st s b).store
crc-keeps st s b r =
    let y = crc_byte st s b in
    let q = rule-after (report_ends_frame y.report) (before y.state.crc) st.mode r.mode (lands_byte st.crc s b r.live).there in
    after_map crc.Running crc-live.RefusedFor CrcRunning CrcRefusedFor y.report y.state.crc y.state y.store
    (λ a. record { mode = r.mode; rule = q; live = a }) (λ n a. record { mode = r.mode; rule = q; has_refused = a }) (crc-live.byte_after st.crc s b r.live)

pub crc-revision : (st : State) (s : List ℕ) (b : ℕ) → CrcRunning st s
    → RevisionAfter (crc_byte st s b).report st.crc.known.revision (crc_byte st s b).state.crc.known.revision
crc-revision st s b r = (lands_byte st.crc s b r.live).revision

pub crc-silent_byte : (st : State) (s : List ℕ) (b : ℕ) → st.crc.position.stage ≡ stage.Refused → Silent {State = State} (λ x. x.crc.position.stage ≡ stage.Refused) s (crc_byte st s b)
unfolding crc.on_byte crc.finish
crc-silent_byte st s b e = rw (e, le-ltb (st.crc.position.got + 1) 0 zero-le) (record { state = refl; store = refl; report = refl })

-- a piece
abbrev pub crc_lifted : State → crc.Answer → machine.Answer State
crc_lifted st a = record {
  state = record { mode = st.mode; ready = ready_after st.ready a.received.taken a.received.report; crc = a.received.state; sealed = st.sealed };
  taken = a.received.taken;
  report = a.received.report;
  store = a.store;
}

-- a report behind the first byte does not ask what was before
later-ready : (a : Bool) (n : ℕ) (r : Report) → ready_after a (1 + n) r ≡ ready_after false n r
later-ready a n r = ap (λ (b : Bool). report_ends_frame r || b) (ap (λ (m : ℕ). a && eqb m 0) (one-add n) ∙ ap (λ (b : Bool). a && b) (ne_eqb (suc n) 0 (λ z. absurd (omega arith))) ∙ and-false a)

crc-onward : (st : State) (r : Report) (x : crc.Stepped) (a : crc.Answer) → x.report ≡ r
    → crc_lifted st (crc.onward r 1 x a)
    ≡ machine.onward r (record { state = record { mode = st.mode; ready = report_ends_frame r; crc = x.state; sealed = st.sealed }; store = x.store; report = x.report })
    (crc_lifted (record { mode = st.mode; ready = report_ends_frame r; crc = x.state; sealed = st.sealed }) a)
crc-onward st None x a e =
    ap (λ (b : Bool). record { state = record { mode = st.mode; ready = b; crc = a.received.state; sealed = st.sealed }; taken = 1 + a.received.taken; report = a.received.report; store = a.store })
    (later-ready st.ready a.received.taken a.received.report)
crc-onward st (Some v) x a e =
    ap (λ (b : Bool). record { state = record { mode = st.mode; ready = b; crc = x.state; sealed = st.sealed }; taken = 1; report = Some v; store = x.store })
    (or_false (ends_frame v) (st.ready && false) (and-false st.ready))

crc-feed : (st : State) (s piece : List ℕ) → crc_lifted st (crc.feed st.crc s piece) ≡ machine.feed crc_byte st s piece
unfolding crc.feed machine.feed
crc-feed st s [] =
    ap (λ (b : Bool). record { state = record { mode = st.mode; ready = b; crc = st.crc; sealed = st.sealed }; taken = 0; report = None; store = s }) (and-true st.ready)
crc-feed st s (b ∷ bs) =
    let x = crc.on_byte st.crc s b in
    crc-onward st x.report x (crc.feed x.state x.store bs) refl
    ∙ ap (machine.onward x.report (crc_byte st s b)) (crc-feed (crc_byte st s b).state x.store bs)

-- what a call answers
abbrev pub machine_answer : Answer → machine.Answer State
machine_answer a = record { state = a.received.state; taken = a.received.taken; report = a.received.report; store = a.store }

pub answer-given : {st : State} {s piece : List ℕ} (c : Piece) → Answered st s piece c.received c.store → record { received = c.received; store = c.store } ≡ answer st s piece
answer-given c a = rw (a.received, a.store)

pub crc-answer : (st : State) (s piece : List ℕ) → st.mode ≡ mode.Crc → ready_rule st ≡ true → answer st s piece ≡ by_crc st (crc.answer st.crc s piece)
crc-answer st s piece m q = mode-is st s piece false q (ap is_secure m)

pub crc-feeds : (st : State) (s piece : List ℕ) (c : Piece) → CrcRunning st s → Answered st s piece c.received c.store
    → machine_answer (record { received = c.received; store = c.store }) ≡ machine.feed crc_byte st s piece
crc-feeds st s piece c r a =
    ap machine_answer (answer-given c a ∙ crc-answer st s piece r.mode r.rule ∙ ap (by_crc st) (crc-every.feeding st.crc s piece r.live)) ∙ crc-feed st s piece

pub crc-repeats : (n : Numbers) (st : State) (s piece : List ℕ) (c : Piece) → CrcRefusedFor n st → Answered st s piece c.received c.store
    → machine_answer (record { received = c.received; store = c.store }) ≡ refused_again n st s
crc-repeats n st s piece c g a =
    ap machine_answer (answer-given c a ∙ crc-answer st s piece g.mode g.rule ∙ ap (by_crc st) (crc-every.refused-answer st.crc s piece g.has_refused))
    ∙ ap (λ (b : Bool). record { state = record { mode = st.mode; ready = b; crc = st.crc; sealed = st.sealed }; taken = 0; report = Some (event.Refused n); store = s }) (and-true st.ready)

abbrev pub crc_side : Machine
crc_side = record {
  State = State;
  on_byte = crc_byte;
  Running = CrcRunning;
  RefusedFor = CrcRefusedFor;
  Call = Piece;
  size = λ c. c.size;
  answer = λ c. machine_answer (record { received = c.received; store = c.store });
  Answered = λ st s piece c. Answered st s piece c.received c.store;
  keeps = crc-keeps;
  silent = λ n st s P bs g. scan-silent crc_byte (λ x. x.crc.position.stage ≡ stage.Refused) crc-silent_byte st s P bs g.has_refused.stage;
  feeds = crc-feeds;
  repeats = crc-repeats;
}

-- ---- sealed frames

abbrev sealed_byte : sealed-state.State → List ℕ → ℕ → machine.Stepped sealed-state.State
sealed_byte = gathers.byte_step gathered.parts

abbrev pub secure_byte : State → List ℕ → ℕ → machine.Stepped State
secure_byte st s b = record {
  state = record { mode = st.mode; ready = st.ready; crc = st.crc; sealed = (gathers.byte_step gathered.parts st.sealed s b).state };
  store = (gathers.byte_step gathered.parts st.sealed s b).store;
  report = (gathers.byte_step gathered.parts st.sealed s b).report;
}

pub record SecureRunning (st : State) (s : List ℕ) : Type 0 where
  pub mode : st.mode ≡ mode.Secure
  pub rule : st.ready ≡ false
  pub live : sealed.Running st.sealed s

pub record SecureRefusedFor (n : Numbers) (st : State) : Type 0 where
  pub mode : st.mode ≡ mode.Secure
  pub rule : st.ready ≡ false
  pub has_refused : sealed-live.RefusedFor n st.sealed

pub secure_keeps : (st : State) (s : List ℕ) (b : ℕ) → SecureRunning st s → After SecureRunning SecureRefusedFor (secure_byte st s b).report (secure_byte st s b).state (secure_byte st s b).store
secure_keeps st s b r =
    let y = secure_byte st s b in
    after_map sealed.Running sealed-live.RefusedFor SecureRunning SecureRefusedFor y.report y.state.sealed y.state y.store
    (λ a. record { mode = r.mode; rule = r.rule; live = a }) (λ n a. record { mode = r.mode; rule = r.rule; has_refused = a })
    (sealed-live.chunk-leaves st.sealed s (b ∷ []) r.live)

pub secure_silent_byte : (st : State) (s : List ℕ) (b : ℕ) → st.sealed.position.stage ≡ part.Refused
    → Silent {State = State} (λ x. x.sealed.position.stage ≡ part.Refused) s (secure_byte st s b)
secure_silent_byte st s b e = let z = traces.refused_byte st.sealed s b e in record { state = z.state; store = z.store; report = z.report }

abbrev secure_lifted : State → machine.Answer sealed-state.State → machine.Answer State
secure_lifted st a = record { state = record { mode = st.mode; ready = st.ready; crc = st.crc; sealed = a.state }; taken = a.taken; report = a.report; store = a.store }

secure_onward : (st : State) (r : Report) (x : machine.Stepped sealed-state.State) (a : machine.Answer sealed-state.State)
    → secure_lifted st (machine.onward r x a)
    ≡ machine.onward r (record { state = record { mode = st.mode; ready = st.ready; crc = st.crc; sealed = x.state }; store = x.store; report = x.report })
    (secure_lifted (record { mode = st.mode; ready = st.ready; crc = st.crc; sealed = x.state }) a)
secure_onward st None x a = refl
secure_onward st (Some v) x a = refl

secure_feed : (st : State) (s piece : List ℕ) → secure_lifted st (machine.feed sealed_byte st.sealed s piece) ≡ machine.feed secure_byte st s piece
unfolding machine.feed
secure_feed st s [] = refl
secure_feed st s (b ∷ bs) =
    let x = sealed_byte st.sealed s b in
    secure_onward st x.report x (machine.feed sealed_byte x.state x.store bs)
    ∙ ap (machine.onward x.report (secure_byte st s b)) (secure_feed (secure_byte st s b).state x.store bs)

pub secure_answer_lem : (st : State) (s piece : List ℕ) → st.mode ≡ mode.Secure → st.ready ≡ false → answer st s piece ≡ by_secure st (sealed.answer st.sealed s piece)
secure_answer_lem st s piece m q = mode-is st s piece true (rw q) (ap is_secure m)

pub secure_feeds : (st : State) (s piece : List ℕ) (c : Piece) → SecureRunning st s → Answered st s piece c.received c.store
    → machine_answer (record { received = c.received; store = c.store }) ≡ machine.feed secure_byte st s piece
secure_feeds st s piece c r a =
    ap machine_answer (answer-given c a ∙ secure_answer_lem st s piece r.mode r.rule ∙ ap (by_secure st) (sealed-every.feeding st.sealed s piece r.live))
    ∙ ap (secure_lifted st) (gathered.machine_feed st.sealed s piece)
    ∙ secure_feed st s piece

pub secure_repeats : (n : Numbers) (st : State) (s piece : List ℕ) (c : Piece) → SecureRefusedFor n st → Answered st s piece c.received c.store
    → machine_answer (record { received = c.received; store = c.store }) ≡ refused_again n st s
secure_repeats n st s piece c g a = ap machine_answer (answer-given c a ∙ secure_answer_lem st s piece g.mode g.rule ∙ ap (by_secure st) (sealed-every.refused-answer st.sealed s piece g.has_refused))

abbrev pub secure_side : Machine
secure_side = record {
  State = State;
  on_byte = secure_byte;
  Running = SecureRunning;
  RefusedFor = SecureRefusedFor;
  Call = Piece;
  size = λ c. c.size;
  answer = λ c. machine_answer (record { received = c.received; store = c.store });
  Answered = λ st s piece c. Answered st s piece c.received c.store;
  keeps = secure_keeps;
  silent = λ n st s P bs g. scan-silent secure_byte (λ x. x.sealed.position.stage ≡ part.Refused) secure_silent_byte st s P bs g.has_refused.stage;
  feeds = secure_feeds;
  repeats = secure_repeats;
}
