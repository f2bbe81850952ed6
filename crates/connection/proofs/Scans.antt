-- What the bytes come to on either side of a switch: the entries and the stores are those of the definitions, and a receiving side that is ready has just reported a frame.
use Prim.Native.Nat.{ℕ, suc, ◌+◌, ◌<◌}
use mathlib.Core.List.{List, [], ◌∷◌}
use mathlib.Core.Path.{◌≡◌, refl, sym, ap, ◌∙◌}
use mathlib.Core.Bool.{Bool, true, false, ◌&&◌, ◌||◌, and-true, and-false}
use native.Mathlib.Omega.{arith}
use native.Mathlib.Numerals.{add-one}
use lib.ListN.{length}
use borrow.Author.Tests.{eq-eqb, ne_eqb}
use Rattle.refusal.specs.Refusals.{fine, by_judgement, no_refusal}
use Rattle.refusal.proofs.Booleans.{wrong, or_false}
use Rattle.banner.specs.declared.Features.{Features}
use Rattle.banner.specs.declared.Revision.{Revision}
use Rattle.banner.specs.declared.Revision.TheVariants.{Msgr20, Msgr21}
use Rattle.banner.specs.Banner.{judge_own, is_msgr21}
use Rattle.stream.specs.Events.{Role, banner_end, first_end, frame_end, stream_end, role_of, judge_role}
use Rattle.stream.specs.Stream.{Entry, Trace, trace_of, refused_in}
use Rattle.receiver.specs.Report.{Report}
use Rattle.std.specs.Prelude.{Some, None}
use Rattle.receiver.specs.declared.Stage.TheVariants as stage
use Rattle.receiver.specs.declared.State as crc-state
use Rattle.receiver.specs.Step as crc
use Rattle.receiver.proofs.Entries.{noted}
use Rattle.receiver.proofs.Appended.{clean-here, clean-behind}
use Rattle.receiver.proofs.Machine.{Scanned}
use Rattle.receiver.proofs.Machine as machine
use Rattle.receiver.proofs.Scan as crc-scan
use Rattle.receiver.proofs.Streams.{stream-trace}
use Rattle.sealed_receiver.specs.declared.State as sealed-state
use Rattle.sealed_receiver.specs.Step as sealed
use Rattle.receiver.proofs.Gathers as gathers
use Rattle.sealed_receiver.proofs.Gathered as gathered
use Rattle.sealed_receiver.proofs.Traces.{sealed-trace}
use Rattle.secure.specs.Reading.{sealed_trace}
use Rattle.connection.specs.declared.State.{State}
use Rattle.connection.specs.Switched.{ends_frame, frame_ends_at, chooses_msgr21, chose_msgr21}
use Rattle.connection.specs.Step.{report_ends_frame}
use Rattle.connection.proofs.Machines.{crc_byte, secure_byte, CrcRunning, CrcRefusedFor, RevisionAfterRole, RevisionAfter, crc-keeps, crc-revision}

abbrev pub trace : {A : Type 0} → Scanned A → Trace
trace c = record { entries = c.entries; store = c.store }

-- ---- crc frames

abbrev crc_scanned : Scanned State → Scanned crc-state.State
crc_scanned c = record { entries = c.entries; state = c.state.crc; store = c.store }

pub crc-scanned : (st : State) (s : List ℕ) (P : ℕ) (bs : List ℕ) → crc_scanned (machine.scan crc_byte st s P bs) ≡ crc-scan.scan st.crc s P bs
unfolding machine.scan
crc-scanned st s P [] = refl
crc-scanned st s P (b ∷ bs) =
    let y = crc_byte st s b in
    ap (machine.with y.report (suc P) y.store) (crc-scanned y.state y.store (suc P) bs)

-- from a start
pub crc-trace : (own : Features) (st : State) (store bytes : List ℕ) → judge_own own.supported own.required ≡ fine → st.crc ≡ crc.at stage.Magic 0 (crc.only_own own no_refusal)
    → trace (machine.scan crc_byte st store 0 bytes) ≡ trace_of own bytes store
unfolding trace_of
crc-trace own st store bytes ok e =
    ap trace (crc-scanned st store 0 bytes) ∙ ap (λ (x : crc-state.State). trace (crc-scan.scan x store 0 bytes)) e ∙ stream-trace own bytes store ∙ rw ok

-- the last entry is a frame or a drop, at a byte and with a store
abbrev pub LastEndsFrame : List Entry → ℕ → List ℕ → Type 0
LastEndsFrame [] t s = ⊥
LastEndsFrame (e ∷ []) t s = (ends_frame e.event ≡ true) × (e.at ≡ t) × (e.store ≡ s)
LastEndsFrame (e ∷ f ∷ es) t s = LastEndsFrame (f ∷ es) t s

last-noted : (r : Report) (at : ℕ) (s : List ℕ) (es : List Entry) (t : ℕ) (u : List ℕ) → LastEndsFrame es t u → LastEndsFrame (noted r at s es) t u
last-noted None at s es t u l = l
last-noted (Some e) at s [] t u l = absurd l
last-noted (Some e) at s (f ∷ es) t u l = l

last-here : (r : Report) (at : ℕ) (s : List ℕ) → report_ends_frame r ≡ true → LastEndsFrame (noted r at s []) at s
last-here None at s e = wrong e
last-here (Some v) at s e = (e, refl, refl)

-- what is ready behind a byte has just reported a frame's end
ready_just : (st : State) (s : List ℕ) (P b : ℕ) (bs : List ℕ) → (machine.scan crc_byte st s P (b ∷ bs)).state.ready ≡ true
    → (let c = machine.scan crc_byte st s P (b ∷ bs) in LastEndsFrame c.entries (P + length (b ∷ bs)) c.store)
unfolding machine.scan
ready_just st s P b [] e = rw (add-one P) (last-here (crc_byte st s b).report (suc P) (crc_byte st s b).store e)
ready_just st s P b (c ∷ cs) e =
    let y = crc_byte st s b in
    let z = machine.scan crc_byte y.state y.store (suc P) (c ∷ cs) in
    let n : suc P + length (c ∷ cs) ≡ P + length (b ∷ c ∷ cs) = omega arith in
    last-noted y.report (suc P) y.store z.entries (P + length (b ∷ c ∷ cs)) z.store (rw n at (ready_just y.state y.store (suc P) c cs e))

pub ready-last : (st : State) (s : List ℕ) (P : ℕ) (bs : List ℕ) → st.ready ≡ false → (machine.scan crc_byte st s P bs).state.ready ≡ true
    → (let c = machine.scan crc_byte st s P bs in LastEndsFrame c.entries (P + length bs) c.store)
unfolding machine.scan
ready-last st s P [] q e = wrong (sym q ∙ e)
ready-last st s P (b ∷ bs) q e = ready_just st s P b bs e

-- so it is ready exactly where the last entry is a frame's end, at the last byte
ends-here : (r : Report) (at : ℕ) (s : List ℕ) → report_ends_frame r ≡ frame_ends_at at (noted r at s [])
ends-here None at s = refl
ends-here (Some e) at s = sym (ap (λ (b : Bool). ends_frame e && b) (eq-eqb at at refl) ∙ and-true (ends_frame e))

ends-later : (r : Report) (at : ℕ) (s : List ℕ) (es : List Entry) (t : ℕ) → at < t → frame_ends_at t (noted r at s es) ≡ frame_ends_at t es
ends-later None at s es t h = refl
ends-later (Some e) at s [] t h = ap (λ (b : Bool). ends_frame e && b) (ne_eqb at t (λ z. absurd (omega (arith, h)))) ∙ and-false (ends_frame e)
ends-later (Some e) at s (f ∷ es) t h = refl

ready-is : (st : State) (s : List ℕ) (P b : ℕ) (bs : List ℕ)
    → (let c = machine.scan crc_byte st s P (b ∷ bs) in c.state.ready ≡ frame_ends_at (P + length (b ∷ bs)) c.entries)
unfolding machine.scan
ready-is st s P b [] = rw (add-one P) (ends-here (crc_byte st s b).report (suc P) (crc_byte st s b).store)
ready-is st s P b (c ∷ cs) =
    let y = crc_byte st s b in
    let z = machine.scan crc_byte y.state y.store (suc P) (c ∷ cs) in
    let n : suc P + length (c ∷ cs) ≡ P + length (b ∷ c ∷ cs) = omega arith in
    let l : suc P < P + length (b ∷ c ∷ cs) = omega arith in
    (rw n at (ready-is y.state y.store (suc P) c cs)) ∙ sym (ends-later y.report (suc P) y.store z.entries (P + length (b ∷ c ∷ cs)) l)

pub ready-ends : (st : State) (s : List ℕ) (P : ℕ) (bs : List ℕ) → st.ready ≡ false
    → (let c = machine.scan crc_byte st s P bs in c.state.ready ≡ frame_ends_at (P + length bs) c.entries)
unfolding machine.scan
ready-ends st s P [] e = e
ready-ends st s P (b ∷ bs) e = ready-is st s P b bs

-- and its revision is msgr2.1 exactly where a banner chose that
clean-onward : (r : Report) (at : ℕ) (st : State) (s : List ℕ) (es : List Entry) → refused_in (noted r at s es) ≡ false → machine.After CrcRunning CrcRefusedFor r st s
    → (refused_in es ≡ false) × CrcRunning st s
clean-onward None at st s es e a = (e, a)
clean-onward (Some w) at st s es e a =
    (clean-behind w (refused_in es) e, machine.passed-running CrcRunning CrcRefusedFor (Some w) st s (clean-here w (refused_in es) e) a)

chose_by : (x : Role) (v w : Revision) (es : List Entry) → by_judgement (judge_role x) (refused_in es) (λ n. true) ≡ false → RevisionAfterRole x v w
    → (is_msgr21 w || chose_msgr21 es) ≡ (is_msgr21 v || (chooses_msgr21 x || chose_msgr21 es))
chose_by (banner_end p Msgr20) v w es e k =
    ap (λ (x : Revision). is_msgr21 x || chose_msgr21 es) k.1 ∙ sym (ap (λ (b : Bool). b || chose_msgr21 es) k.0)
chose_by (banner_end p Msgr21) v w es e k =
    ap (λ (x : Revision). is_msgr21 x || chose_msgr21 es) k.1 ∙ sym (ap (λ (b : Bool). b || true) k.0)
chose_by (first_end h) v w es e k = ap (λ (x : Revision). is_msgr21 x || chose_msgr21 es) k
chose_by (frame_end h) v w es e k = ap (λ (x : Revision). is_msgr21 x || chose_msgr21 es) k
chose_by (stream_end n) v w es e k = wrong (sym e)

chose_noted : (r : Report) (v w : Revision) (at : ℕ) (s : List ℕ) (es : List Entry) → refused_in (noted r at s es) ≡ false → RevisionAfter r v w
    → (is_msgr21 w || chose_msgr21 es) ≡ (is_msgr21 v || chose_msgr21 (noted r at s es))
chose_noted None v w at s es e k = ap (λ (x : Revision). is_msgr21 x || chose_msgr21 es) k
chose_noted (Some x) v w at s es e k = chose_by (role_of x) v w es e k

pub revision-chosen : (st : State) (s : List ℕ) (P : ℕ) (bs : List ℕ) → CrcRunning st s → refused_in (machine.scan crc_byte st s P bs).entries ≡ false
    → (let c = machine.scan crc_byte st s P bs in is_msgr21 c.state.crc.known.revision ≡ (is_msgr21 st.crc.known.revision || chose_msgr21 c.entries))
unfolding machine.scan
revision-chosen st s P [] r clean = sym (or_false (is_msgr21 st.crc.known.revision) false refl)
revision-chosen st s P (b ∷ bs) r clean =
    let y = crc_byte st s b in
    let z = machine.scan crc_byte y.state y.store (suc P) bs in
    let q = clean-onward y.report (suc P) y.state y.store z.entries clean (crc-keeps st s b r) in
    revision-chosen y.state y.store (suc P) bs q.1 q.0
    ∙ chose_noted y.report st.crc.known.revision y.state.crc.known.revision (suc P) y.store z.entries clean (crc-revision st s b r)

-- ---- sealed frames

abbrev secure_scanned : Scanned State → Scanned sealed-state.State
secure_scanned c = record { entries = c.entries; state = c.state.sealed; store = c.store }

secure_scanned_lem : (st : State) (s : List ℕ) (P : ℕ) (bs : List ℕ) → secure_scanned (machine.scan secure_byte st s P bs) ≡ machine.scan (gathers.byte_step gathered.parts) st.sealed s P bs
unfolding machine.scan
secure_scanned_lem st s P [] = refl
secure_scanned_lem st s P (b ∷ bs) =
    let y = secure_byte st s b in
    ap (machine.with y.report (suc P) y.store) (secure_scanned_lem y.state y.store (suc P) bs)

-- from a switch
pub secure_trace : (key nonce : List ℕ) (st : State) (s : List ℕ) (P : ℕ) (bytes : List ℕ) → st.sealed ≡ sealed.switched key nonce
    → trace (machine.scan secure_byte st s P bytes) ≡ sealed_trace key nonce 0 P bytes s
secure_trace key nonce st s P bytes e =
    ap trace (secure_scanned_lem st s P bytes)
    ∙ ap (λ (x : sealed-state.State). trace (machine.scan (gathers.byte_step gathered.parts) x s P bytes)) e
    ∙ sealed-trace key nonce P bytes s
