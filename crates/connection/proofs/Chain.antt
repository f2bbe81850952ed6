-- Demand 3 of connections: a list of calls is one run of pieces, or two with a switch between them (SplitAtSwitch), and each run is that of a machine (Lists).
use Prim.Native.Nat.{ℕ, suc, ◌+◌, ◌-◌, ◌≤◌, zero-le}
use mathlib.Core.List.{List, [], ◌∷◌, ◌++◌}
use mathlib.Core.Path.{◌≡◌, refl, sym, ap, ap₂, subst, ◌∙◌}
use mathlib.Core.Bool.{Bool, true, false, cond, ◌&&◌}
use native.Mathlib.Omega.{arith}
use native.Mathlib.Nat.{le_refl, add-zero, zero-add, sub-zero}
use lib.ListN.{length, get_or, take, drop, take-append-drop}
use lib.Seq.{take-take, length-take-le}
use Rattle.buffer.proofs.Parts.{drop-take}
use Rattle.refusal.specs.declared.Numbers.{Numbers}
use Rattle.refusal.specs.Refusals.{fine, refused, no_refusal}
use Rattle.refusal.proofs.Booleans.{at_test, by_less, wrong}
use Rattle.refusal.proofs.Judgements.{by_judgement_lem}
use Rattle.banner.specs.declared.Features.{Features}
use Rattle.banner.specs.Banner.{judge_own, is_msgr21}
use Rattle.stream.specs.declared.Event.{Event}
use Rattle.stream.specs.Stream.{Entry, Trace, ended, trace_of, refused_in}
use Rattle.stream.proofs.Laws.{trace-refused}
use Rattle.receiver.specs.Report.{Report}
use Rattle.std.specs.Prelude.{Some, None}
use Rattle.receiver.specs.declared.Stage.TheVariants as stage
use Rattle.receiver.specs.Step as crc
use Rattle.stream.specs.Events.{passing}
use Rattle.receiver.specs.Calls.{piece_at, entered, due_taken, due_report}
use Rattle.receiver.proofs.Entries.{Behind, noted}
use Rattle.receiver.proofs.Appended.{clean-here, refused-append, entered-append}
use Rattle.receiver.proofs.Machine.{Machine, Scanned, scan, scan-append, scan-behind}
use Rattle.receiver.proofs.Machine as machine
use Rattle.receiver.proofs.Lists.{Comes, Standing, running, has_refused, stays, every_list, uncut}
use Rattle.receiver.proofs.Live as crc-live
use Rattle.sealed_receiver.proofs.Live.{switched-running}
use Rattle.secure.specs.Reading.{sealed_trace}
use Rattle.connection.specs.declared.State.{State}
use Rattle.connection.specs.declared.Mode.TheVariants as mode
use Rattle.connection.specs.Switched.{Switch, none, behind, ends_frame, spliced, trace_with, frame_ends_at, chose_msgr21, behind_frame, may_switch, frames_in}
use Rattle.connection.specs.Step.{no_secure, begun, agrees, may_be_switched, switched_state}
use Rattle.connection.specs.Calls.{Piece, Try, Call, Chained, taken_by, state_by, store_by, reported_by, counted, switch_by, Each, Repeats, OneMade, Tries, AsSwitched, SwitchedDemand3}
use Rattle.connection.proofs.Machines.{crc_byte, secure_byte, crc_side, secure_side, CrcRunning, SecureRunning, CrcRefusedFor, before}
use Rattle.connection.proofs.Scans.{trace, crc-trace, secure_trace, LastEndsFrame, ready-last, ready-ends, revision-chosen}
use Rattle.connection.proofs.Splices.{spliced-there, AllBy, skipped, ahead-only, takes-some, lent_nothing}
use Rattle.receiver.proofs.Machine.{runs, refuses}
use Rattle.connection.proofs.SplitAtSwitch.{crc-agrees, secure_agrees, Fed, taken_of, state_of, store_of, reported_of, EachOf, reported_then, counted_by, Unmade, Made, SplitAtSwitch, by_split, fine-ready, unready, parted}
use Rattle.connection.proofs.SwitchTries.{tries-answered}

-- ---- runs of pieces

taken-grows : (t : ℕ) (ps : List Piece) → t ≤ taken_of t ps
taken-grows t [] = le_refl t
taken-grows t (c ∷ ps) = let h = taken-grows (t + c.received.taken) ps in omega (arith, h)

-- reports without a refusal stand before those of later calls, and their frames are counted
reported-then : (t : ℕ) (ps : List Piece) (fs : List Entry) → refused_in (reported_of t ps) ≡ false → reported_then t ps fs ≡ reported_of t ps ++ fs
reported-then t [] fs e = refl
reported-then t (c ∷ ps) fs e =
    let t' = t + c.received.taken in
    entered-append c.received.report t' c.store (reported_then t' ps fs) (reported_of t' ps) fs e (reported-then t' ps fs)

counted-entered : (k n : ℕ) (r : Report) (t : ℕ) (s : List ℕ) (es : List Entry) → refused_in (entered r t s es) ≡ false → (refused_in es ≡ false → n ≡ counted k r + frames_in es) → n ≡ k + frames_in (entered r t s es)
counted-entered k n None t s es e f = f e
counted-entered k n (Some w) t s es e f =
    let p = clean-here w (refused_in (passing w es (λ m. []))) e in
    rw p (f (rw p at e) ∙ at_test (λ b. cond b (suc k) k + frames_in es ≡ k + cond b (suc (frames_in es)) (frames_in es)) (ends_frame w) (λ _. omega arith) (λ _. refl))

counted-frames : (k t : ℕ) (ps : List Piece) → refused_in (reported_of t ps) ≡ false → counted_by k ps ≡ k + frames_in (reported_of t ps)
counted-frames k t [] e = sym (add-zero k)
counted-frames k t (c ∷ ps) e =
    let t' = t + c.received.taken in
    counted-entered k (counted_by k (c ∷ ps)) c.received.report t' c.store (reported_of t' ps) e (counted-frames (counted k c.received.report) t' ps)

-- the entries of a scan lie at or before its last byte
later_by : (t a : ℕ) (es : List Entry) → t ≤ a → AllBy t es → AllBy a es
later_by t a [] h b = tt
later_by t a (e ∷ es) h b = (omega (arith, b.0), later_by t a es h b.1)

noted_by : (r : Report) (at t : ℕ) (s : List ℕ) (es : List Entry) → at ≤ t → AllBy t es → AllBy t (noted r at s es)
noted_by None at t s es h b = b
noted_by (Some e) at t s es h b = (h, b)

scan_by : {A : Type 0} (step : A → List ℕ → ℕ → machine.Stepped A) (x : A) (s : List ℕ) (P : ℕ) (bs : List ℕ) → AllBy (P + length bs) (scan step x s P bs).entries
unfolding scan
scan_by step x s P [] = tt
scan_by step x s P (b ∷ bs) =
    let y = step x s b in
    let n : suc P + length bs ≡ P + length (b ∷ bs) = omega arith in
    noted_by y.report (suc P) (P + length (b ∷ bs)) y.store (scan step y.state y.store (suc P) bs).entries (omega arith) (rw n at (scan_by step y.state y.store (suc P) bs))

-- ---- what is due on either side of a switch

module _ (es fs gs : List Entry) (stream : List ℕ) (t₁ : ℕ) (s₁ : List ℕ) (last : LastEndsFrame es t₁ s₁) (by : AllBy t₁ es) (clean : refused_in es ≡ false)
    (behind-fs : Behind t₁ fs) (behind-gs : Behind t₁ gs) where
  -- up to the frame behind which it is made, later entries do not count
  due-early : (t k n : ℕ) (r : Report) → t + n ≤ t₁ → n ≡ due_taken (es ++ fs) t k → r ≡ due_report (es ++ fs) t k → (n ≡ due_taken (es ++ gs) t k) × (r ≡ due_report (es ++ gs) t k)
  due-early t k n r h a b =
      by_less t t₁ (λ l. let z = ahead-only es fs gs t t₁ k s₁ last l in (a ∙ z.0, b ∙ z.1))
      (λ l.
      let q : t ≡ t₁ = omega arith in
      let n0 : n ≡ 0 = omega arith in
      let z = skipped es fs t₁ k by clean in
      let a₁ : due_taken fs t₁ k ≡ 0 = cc in
      let k0 : k ≡ 0 = takes-some fs t₁ k behind-fs a₁ in
      let y = skipped es gs t₁ 0 by clean in
      let u = lent_nothing gs t₁ behind-gs in
      let v = lent_nothing fs t₁ behind-fs in
      (cc, cc))

  each-early : (t : ℕ) (ps : List Piece) → taken_of t ps ≤ t₁ → EachOf (es ++ fs) stream t ps → EachOf (es ++ gs) stream t ps
  each-early t [] h e = tt
  each-early t (c ∷ ps) h e =
      let n = c.received.taken in
      let k = length (piece_at stream t c.size) in
      let g = taken-grows (t + n) ps in
      let d = due-early t k n c.received.report (omega (arith, g)) e.0 e.1 in
      (d.0, d.1, each-early (t + n) ps h e.2)

  -- and behind it, earlier ones do not
  each-late : (t : ℕ) (qs : List Piece) → t₁ ≤ t → EachOf gs stream t qs → EachOf (es ++ gs) stream t qs
  each-late t [] h e = tt
  each-late t (c ∷ qs) h e =
      let n = c.received.taken in
      let z = skipped es gs t (length (piece_at stream t c.size)) (later_by t₁ t es h by) clean in
      (e.0 ∙ sym z.0, e.1 ∙ sym z.1, each-late (t + n) qs (omega arith) e.2)

-- ---- a start that is not refused

no_switch : {A : Type 0} {n : ℕ} {key nonce : List ℕ} → behind n key nonce ≡ none → A
no_switch e = absurd (let z : ◌≡◌ {A = ℕ} 0 1 = cc in omega arith)

by_standing : {A : Type 0} {m : Machine} {x : m.State} {s : List ℕ} {es : List Entry} → Standing m x s es
    → (m.Running x s → refused_in es ≡ false → A) → ((n : Numbers) → m.RefusedFor n x → A) → A
by_standing (running l clean) f g = f l clean
by_standing (has_refused n r) f g = g n r

module _ (own : Features) (store : List ℕ) (ok : judge_own own.supported own.required ≡ fine) where
  abbrev start : State
  start = record { mode = mode.Crc; ready = false; crc = crc.at stage.Magic 0 (crc.only_own own no_refusal); sealed = no_secure }

  begun-fine : begun own ≡ start
  unfolding begun crc.started
  begun-fine = rw ok

  start-runs : CrcRunning start store
  start-runs = record { mode = refl; rule = refl; live = crc-live.start-running own store ok }

  run₁ : (stream : List ℕ) (ps : List Piece) → Fed stream start store 0 ps → Comes crc_side stream start store 0 0 start store ps (reported_of 0 ps)
  run₁ stream ps f = every_list crc_side stream start store 0 ps zero-le start-runs f

  traced₁ : (bytes : List ℕ) → trace (scan crc_byte start store 0 bytes) ≡ trace_of own bytes store
  traced₁ bytes = crc-trace own start store bytes ok refl

  scanned₀ : (stream : List ℕ) (ps : List Piece) → Fed stream start store 0 ps
      → scan crc_byte start store 0 (take (taken_of 0 ps) stream) ≡ record { entries = reported_of 0 ps; state = state_of start ps; store = store_of store ps }
  scanned₀ stream ps f = rw (sub-zero (taken_of 0 ps)) at (run₁ stream ps f).reached.scanned

  standing-agrees : {st : State} {s : List ℕ} {es : List Entry} → Standing crc_side st s es → agrees st ≡ true
  standing-agrees {st} {s} h = by_standing h (λ l _. crc-agrees {st = st} {s = s} (runs l)) (λ n g. crc-agrees {st = st} {s = s} (refuses n g))

  parted' : (stream : List ℕ) (cs : List Call) → Chained stream (begun own) store 0 cs → SplitAtSwitch stream start store 0 0 cs
  parted' stream cs ch = parted stream start store 0 0 cs (runs start-runs) (rw begun-fine at ch)

  -- ---- the tries to switch

  -- a refused receiver is not ready
  crc-refused-unready : {n : Numbers} {st : State} → CrcRefusedFor n st → st.ready ≡ false
  crc-refused-unready {n} {st} g = unready st g.rule (λ z. omega (arith, rw g.has_refused.stage at z.stage))

  may_where : (stream : List ℕ) (ps : List Piece) → Fed stream start store 0 ps
      → (agrees (state_of start ps) ≡ true) × (may_be_switched (state_of start ps) ≡ may_switch own stream store (taken_of 0 ps))
  may_where stream ps f =
      let es = reported_of 0 ps in
      let st = state_of start ps in
      let t = taken_of 0 ps in
      let r = run₁ stream ps f in
      let q = scanned₀ stream ps f in
      let l : 0 + length (take t stream) ≡ t = zero-add _ ∙ length-take-le t stream r.reached.within in
      let n : (trace_of own (take t stream) store).entries ≡ es = ap (λ (y : Trace). y.entries) (sym (traced₁ (take t stream)) ∙ ap trace q) in
      let c : st.ready ≡ frame_ends_at t es = rw (q, l) at (ready-ends start store 0 (take t stream) refl) in
      let m : may_be_switched st ≡ behind_frame t es = by_standing r.standing
      (λ live clean. ap₂ ◌&&◌ c (rw q at (revision-chosen start store 0 (take t stream) start-runs (ap (λ (y : Scanned State). refused_in y.entries) q ∙ clean))))
      (λ i g.
      let z = crc-refused-unready g in
      ap (λ (b : Bool). b && is_msgr21 st.crc.known.revision) z ∙ sym (ap (λ (b : Bool). b && chose_msgr21 es) (sym c ∙ z)))
      in
      (standing-agrees r.standing, m ∙ ap (behind_frame t) (sym n))

  tries₀ : (stream : List ℕ) (cs : List Call) → Chained stream (begun own) store 0 cs → Tries (may_switch own stream store) 0 cs
  tries₀ stream cs ch = tries-answered stream (may_switch own stream store) start store 0 cs (may_where stream) (rw begun-fine at ch)

  -- ---- without a switch

  same-unmade : (stream stream' : List ℕ) (cs cs' : List Call) (ps ps' : List Piece) → Unmade stream start store 0 0 cs ps → Unmade stream' start store 0 0 cs' ps'
      → take (taken_by 0 cs') stream' ≡ take (taken_by 0 cs) stream → (state_by start cs' ≡ state_by start cs) × (store_by store cs' ≡ store_by store cs)
  same-unmade stream stream' cs cs' ps ps' x x' e =
      let a = x.erased in
      let b = x'.erased in
      let z = sym (scanned₀ stream' ps' b.fed) ∙ ap (scan crc_byte start store 0) (rw (a.taken, b.taken) at e) ∙ scanned₀ stream ps a.fed in
      (b.state ∙ ap (λ (c : Scanned State). c.state) z ∙ sym a.state, b.store ∙ ap (λ (c : Scanned State). c.store) z ∙ sym a.store)

  defined-unmade : (stream : List ℕ) (cs : List Call) (ps : List Piece) → Unmade stream start store 0 0 cs ps → Tries (may_switch own stream store) 0 cs → AsSwitched own stream store cs none
  defined-unmade stream cs ps x tr =
      let a = x.erased in
      let r = run₁ stream ps a.fed in
      let w = traced₁ stream in
      let d : record { entries = reported_by 0 cs; store = store_by store cs } ≡ trace_of own (take (taken_by 0 cs) stream) store =
      ap₂ (λ (es : List Entry) (s : List ℕ). record { entries = es; store = s }) a.reported a.store
      ∙ ap trace (sym (scanned₀ stream ps a.fed))
      ∙ traced₁ (take (taken_of 0 ps) stream)
      ∙ ap (λ (n : ℕ). trace_of own (take n stream) store) (sym a.taken) in
      record {
        within = rw a.taken r.reached.within;
        each = rw ok (a.each (trace_of own stream store).entries (rw (ap (λ (t : Trace). t.entries) w) at r.each));
        reports = rw ok (ap (λ (t : Trace). t.entries) d);
        final = ap (λ (t : Trace). t.store) d;
        whole = λ e.
            let f : refused_in (reported_of 0 ps) ≡ true = ap refused_in (sym a.reported) ∙ (rw ok at e) in
            let u = uncut crc_side stream start store 0 ps r f in
            (rw ok (a.reported ∙ u.0 ∙ ap (λ (t : Trace). t.entries) w), a.store ∙ u.1 ∙ ap (λ (t : Trace). t.store) w);
        same = λ stream' cs' ch' q e.
            rw begun-fine (by_split (parted' stream' cs' ch') (λ ps' x'. same-unmade stream stream' cs cs' ps ps' x x' e) (λ ps' qs' c' x'. no_switch (sym x'.made ∙ q)));
        one = x.one;
        tries = tr;
        agreeing = rw begun-fine (ap agrees a.state ∙ standing-agrees r.standing);
      }

  -- ---- with a switch

  module _ (stream : List ℕ) (cs : List Call) (ps qs : List Piece) (c : Try) (x : Made stream start store 0 0 cs ps qs c) where
    abbrev es : List Entry
    es = reported_of 0 ps

    abbrev t₁ : ℕ
    t₁ = taken_of 0 ps

    abbrev s₁ : List ℕ
    s₁ = store_of store ps

    abbrev st₁ : State
    st₁ = state_of start ps

    abbrev st₂ : State
    st₂ = c.switched.state

    r₁ : Comes crc_side stream start store 0 0 start store ps es
    r₁ = run₁ stream ps x.fed

    -- a frame was just reported
    ready₁ : st₁.ready ≡ true
    ready₁ = fine-ready st₁ x.judged

    clean₁ : refused_in es ≡ false
    clean₁ = by_standing r₁.standing (λ l clean. clean) (λ n g. wrong (sym (crc-refused-unready g) ∙ ready₁))

    within₁ : t₁ ≤ length stream
    within₁ = r₁.reached.within

    last₁ : LastEndsFrame es t₁ s₁
    last₁ =
        let q = scanned₀ stream ps x.fed in
        let l : 0 + length (take t₁ stream) ≡ t₁ = zero-add _ ∙ length-take-le t₁ stream within₁ in
        let j = ready-last start store 0 (take t₁ stream) refl (ap (λ (y : Scanned State). y.state.ready) q ∙ ready₁) in
        subst (λ (n : ℕ). LastEndsFrame es n s₁) l
        (subst (λ (y : Scanned State). LastEndsFrame y.entries (0 + length (take t₁ stream)) y.store) q j)

    by₁ : AllBy t₁ es
    by₁ =
        let l : 0 + length (take t₁ stream) ≡ t₁ = zero-add _ ∙ length-take-le t₁ stream within₁ in
        subst (λ (n : ℕ). AllBy n es) l
        (subst (λ (y : Scanned State). AllBy (0 + length (take t₁ stream)) y.entries) (scanned₀ stream ps x.fed) (scan_by crc_byte start store 0 (take t₁ stream)))

    number₁ : counted_by 0 ps ≡ frames_in es
    number₁ = counted-frames 0 0 ps clean₁ ∙ zero-add (frames_in es)

    -- any bytes that begin as these do
    module _ (bytes : List ℕ) (alike : take t₁ bytes ≡ take t₁ stream) (long : t₁ ≤ length bytes) where
      prefix : scan crc_byte start store 0 bytes ≡ machine.before es (scan crc_byte st₁ s₁ t₁ (drop t₁ bytes))
      prefix =
          let l : 0 + length (take t₁ bytes) ≡ t₁ = zero-add _ ∙ length-take-le t₁ bytes long in
          let q = ap (scan crc_byte start store 0) alike ∙ scanned₀ stream ps x.fed in
          ap (scan crc_byte start store 0) (sym (take-append-drop t₁ bytes))
          ∙ scan-append crc_byte start store 0 (take t₁ bytes) (drop t₁ bytes)
          ∙ rw (l, q)

      entries₁ : (trace_of own bytes store).entries ≡ es ++ (scan crc_byte st₁ s₁ t₁ (drop t₁ bytes)).entries
      entries₁ = ap (λ (t : Trace). t.entries) (sym (traced₁ bytes)) ∙ ap (λ (y : Scanned State). y.entries) prefix

      spliced₁ : (next : ℕ → List ℕ → Trace) (n : ℕ) → n ≡ counted_by 0 ps
          → spliced n next (trace_of own bytes store).entries (trace_of own bytes store).store ≡ record { entries = es ++ (next t₁ s₁).entries; store = (next t₁ s₁).store }
      spliced₁ next n e =
          ap₂ (λ (k : ℕ) (fs : List Entry). spliced k next fs (trace_of own bytes store).store) (e ∙ number₁) entries₁
          ∙ spliced-there next (scan crc_byte st₁ s₁ t₁ (drop t₁ bytes)).entries (trace_of own bytes store).store es t₁ s₁ last₁

    -- ---- behind it

    runs₂ : SecureRunning st₂ s₁
    runs₂ = rw x.switched (record { mode = refl; rule = refl; live = switched-running c.key c.receiving s₁ })

    r₂ : Comes secure_side stream st₂ s₁ t₁ t₁ st₂ s₁ qs (reported_of t₁ qs)
    r₂ = every_list secure_side stream st₂ s₁ t₁ qs within₁ runs₂ x.later

    abbrev t₂ : ℕ
    t₂ = taken_of t₁ qs

    sealed₂ : (bytes : List ℕ) → trace (scan secure_byte st₂ s₁ t₁ bytes) ≡ sealed_trace c.key c.receiving 0 t₁ bytes s₁
    sealed₂ bytes = secure_trace c.key c.receiving st₂ s₁ t₁ bytes (ap (λ (y : State). y.sealed) x.switched)

    grows₂ : t₁ ≤ t₂
    grows₂ = taken-grows t₁ qs

    taken₂ : drop t₁ (take t₂ stream) ≡ take (t₂ - t₁) (drop t₁ stream)
    taken₂ = let e : t₁ + (t₂ - t₁) ≡ t₂ = (let g = grows₂ in omega (arith, g)) in ap (λ (n : ℕ). drop t₁ (take n stream)) (sym e) ∙ drop-take t₁ (t₂ - t₁) stream

    -- what the definition has for the bytes taken, and for all of them
    abbrev sw : Switch
    sw = behind (counted_by 0 ps) c.key c.receiving

    defined : (bytes : List ℕ) → take t₁ bytes ≡ take t₁ stream → t₁ ≤ length bytes
        → trace_with sw own bytes store ≡ record { entries = es ++ (scan secure_byte st₂ s₁ t₁ (drop t₁ bytes)).entries; store = (scan secure_byte st₂ s₁ t₁ (drop t₁ bytes)).store }
    defined bytes alike long =
        spliced₁ bytes alike long (λ at s. sealed_trace c.key c.receiving 0 at (drop at bytes) s) (counted_by 0 ps) refl
        ∙ ap (λ (t : Trace). record { entries = es ++ t.entries; store = t.store }) (sym (sealed₂ (drop t₁ bytes)))

    reported₂ : reported_by 0 cs ≡ es ++ reported_of t₁ qs
    reported₂ = x.reported ∙ reported-then 0 ps (reported_of t₁ qs) clean₁

    so_far : record { entries = reported_by 0 cs; store = store_by store cs } ≡ trace_with sw own (take (taken_by 0 cs) stream) store
    so_far =
        let g = grows₂ in
        let w = r₂.reached.within in
        let alike = take-take t₁ t₂ stream g in
        let long : t₁ ≤ length (take t₂ stream) = rw (length-take-le t₂ stream w) g in
        let q = ap (scan secure_byte st₂ s₁ t₁) taken₂ ∙ r₂.reached.scanned in
        ap₂ (λ (fs : List Entry) (s : List ℕ). record { entries = fs; store = s }) reported₂ x.store
        ∙ ap (λ (y : Scanned State). record { entries = es ++ y.entries; store = y.store }) (sym q)
        ∙ sym (defined (take t₂ stream) alike long)
        ∙ ap (λ (n : ℕ). trace_with sw own (take n stream) store) (sym x.taken)

    uncut-trace : trace_with sw own stream store ≡ record { entries = es ++ (scan secure_byte st₂ s₁ t₁ (drop t₁ stream)).entries; store = (scan secure_byte st₂ s₁ t₁ (drop t₁ stream)).store }
    uncut-trace = defined stream refl within₁

    each₂ : Each (trace_with sw own stream store).entries stream 0 cs
    each₂ =
        let fs = (scan crc_byte st₁ s₁ t₁ (drop t₁ stream)).entries in
        let gs = (scan secure_byte st₂ s₁ t₁ (drop t₁ stream)).entries in
        let bf = scan-behind crc_byte st₁ s₁ t₁ (drop t₁ stream) in
        let bg = scan-behind secure_byte st₂ s₁ t₁ (drop t₁ stream) in
        let e₁ : EachOf (es ++ fs) stream 0 ps = subst (λ (l : List Entry). EachOf l stream 0 ps) (ap (λ (y : Scanned State). y.entries) (prefix stream refl within₁)) r₁.each in
        subst (λ (l : List Entry). Each l stream 0 cs) (sym (ap (λ (t : Trace). t.entries) uncut-trace))
        (x.each (es ++ gs)
        (each-early es fs gs stream t₁ s₁ last₁ by₁ clean₁ bf bg 0 ps (le_refl t₁) e₁)
        (each-late es fs gs stream t₁ s₁ last₁ by₁ clean₁ bf bg t₁ qs (le_refl t₁) r₂.each))

    whole₂ : refused_in (reported_by 0 cs) ≡ true → (reported_by 0 cs ≡ (trace_with sw own stream store).entries) × (store_by store cs ≡ (trace_with sw own stream store).store)
    whole₂ e =
        let f : refused_in (reported_of t₁ qs) ≡ true = sym (refused-append es (reported_of t₁ qs) clean₁) ∙ ap refused_in (sym reported₂) ∙ e in
        let u = uncut secure_side stream st₂ s₁ t₁ qs r₂ f in (
          reported₂ ∙ ap (λ (l : List Entry). es ++ l) u.0 ∙ sym (ap (λ (t : Trace). t.entries) uncut-trace),
          x.store ∙ u.1 ∙ sym (ap (λ (t : Trace). t.store) uncut-trace),
        )

    agreeing₂ : agrees (state_by start cs) ≡ true
    agreeing₂ =
        ap agrees x.state
        ∙ by_standing r₂.standing (λ l _. secure_agrees {st = state_of st₂ qs} {s = store_of s₁ qs} (runs l)) (λ n g. secure_agrees {st = state_of st₂ qs} {s = store_of s₁ qs} (refuses n g))

  -- two lists that made the same switch
  module _ (stream stream' : List ℕ) (cs cs' : List Call) (ps qs ps' qs' : List Piece) (c c' : Try) (x : Made stream start store 0 0 cs ps qs c) (x' : Made stream' start store 0 0 cs' ps' qs' c')
      (number : counted_by 0 ps' ≡ counted_by 0 ps) (key : c'.key ≡ c.key) (nonce : c'.receiving ≡ c.receiving) (bytes : take (taken_by 0 cs') stream' ≡ take (taken_by 0 cs) stream) where
    abbrev T : ℕ
    T = taken_of (taken_of 0 ps) qs

    abbrev T' : ℕ
    T' = taken_of (taken_of 0 ps') qs'

    bytes' : take T' stream' ≡ take T stream
    bytes' = ap (λ (n : ℕ). take n stream') (sym x'.taken) ∙ bytes ∙ ap (λ (n : ℕ). take n stream) x.taken

    -- the frame behind which it was made is the same one: its byte and its store
    abbrev probe : ℕ → List ℕ → Trace
    probe at s = ended (at ∷ s)

    probed : (taken_of 0 ps' ∷ store_of store ps') ≡ (taken_of 0 ps ∷ store_of store ps)
    probed =
        let g = taken-grows (taken_of 0 ps) qs in
        let g' = taken-grows (taken_of 0 ps') qs' in
        let w = (r₂ stream cs ps qs c x).reached.within in
        let w' = (r₂ stream' cs' ps' qs' c' x').reached.within in
        let long : taken_of 0 ps ≤ length (take T stream) = rw (length-take-le T stream w) g in
        let long' : taken_of 0 ps' ≤ length (take T' stream') = rw (length-take-le T' stream' w') g' in
        let a = spliced₁ stream cs ps qs c x (take T stream) (take-take (taken_of 0 ps) T stream g) long probe (counted_by 0 ps) refl in
        let b = spliced₁ stream' cs' ps' qs' c' x' (take T' stream') (take-take (taken_of 0 ps') T' stream' g') long' probe (counted_by 0 ps') refl in
        let same : spliced (counted_by 0 ps') probe (trace_of own (take T' stream') store).entries (trace_of own (take T' stream') store).store
        ≡ spliced (counted_by 0 ps) probe (trace_of own (take T stream) store).entries (trace_of own (take T stream) store).store =
        ap₂ (λ (n : ℕ) (l : List ℕ). spliced n probe (trace_of own l store).entries (trace_of own l store).store) number bytes' in
        ap (λ (t : Trace). t.store) (sym b ∙ same ∙ a)

    same_byte : taken_of 0 ps' ≡ taken_of 0 ps
    same_byte = ap (λ (l : List ℕ). get_or l 0 0) probed

    same_store : store_of store ps' ≡ store_of store ps
    same_store = ap (λ (l : List ℕ). drop 1 l) probed

    same-front : take (taken_of 0 ps') stream' ≡ take (taken_of 0 ps) stream
    same-front =
        let g = taken-grows (taken_of 0 ps) qs in
        let g' = taken-grows (taken_of 0 ps') qs' in
        sym (take-take (taken_of 0 ps') T' stream' g') ∙ ap₂ take same_byte bytes' ∙ take-take (taken_of 0 ps) T stream g

    same-state : state_of start ps' ≡ state_of start ps
    same-state = ap (λ (y : Scanned State). y.state) (sym (scanned₀ stream' ps' x'.fed) ∙ ap (scan crc_byte start store 0) same-front ∙ scanned₀ stream ps x.fed)

    same-switched : c'.switched.state ≡ c.switched.state
    same-switched =
        x'.switched
        ∙ ap (λ (y : State). switched_state fine y c'.key c'.receiving) same-state
        ∙ ap₂ (λ (k n : List ℕ). switched_state fine (state_of start ps) k n) key nonce
        ∙ sym x.switched

    same-made : (state_by start cs' ≡ state_by start cs) × (store_by store cs' ≡ store_by store cs)
    same-made =
        let a = (r₂ stream cs ps qs c x).reached.scanned in
        let b = (r₂ stream' cs' ps' qs' c' x').reached.scanned in
        let l = sym (taken₂ stream' cs' ps' qs' c' x') ∙ ap₂ drop same_byte bytes' ∙ taken₂ stream cs ps qs c x in
        let z = sym b
        ∙ ap (scan secure_byte c'.switched.state (store_of store ps') (taken_of 0 ps')) l
        ∙ ap (λ (y : State). scan secure_byte y (store_of store ps') (taken_of 0 ps') (take (T - taken_of 0 ps) (drop (taken_of 0 ps) stream))) same-switched
        ∙ ap₂ (λ (s : List ℕ) (n : ℕ). scan secure_byte c.switched.state s n (take (T - taken_of 0 ps) (drop (taken_of 0 ps) stream))) same_store same_byte
        ∙ a in (
          x'.state ∙ ap (λ (y : Scanned State). y.state) z ∙ sym x.state,
          x'.store ∙ ap (λ (y : Scanned State). y.store) z ∙ sym x.store,
        )

  defined-made : (stream : List ℕ) (cs : List Call) (ps qs : List Piece) (c : Try) → (x : Made stream start store 0 0 cs ps qs c) → Tries (may_switch own stream store) 0 cs
      → AsSwitched own stream store cs (behind (counted_by 0 ps) c.key c.receiving)
  defined-made stream cs ps qs c x tr =
      let d = so_far stream cs ps qs c x in
      record {
        within = rw x.taken (r₂ stream cs ps qs c x).reached.within;
        each = rw ok (each₂ stream cs ps qs c x);
        reports = rw ok (ap (λ (t : Trace). t.entries) d);
        final = ap (λ (t : Trace). t.store) d;
        whole = λ e. let u = whole₂ stream cs ps qs c x (rw ok at e) in (rw ok u.0, u.1);
        same = λ stream' cs' ch' q e. rw begun-fine (by_split (parted' stream' cs' ch') (λ ps' x'. no_switch (sym q ∙ x'.none))
            (λ ps' qs' c' x'. let z = sym x'.made ∙ q in same-made stream stream' cs cs' ps qs ps' qs' c c' x x' (cc) (cc) (cc) e));
        one = x.one;
        tries = tr;
        agreeing = rw begun-fine (agreeing₂ stream cs ps qs c x);
      }

  defined-live : (stream : List ℕ) (cs : List Call) → Chained stream (begun own) store 0 cs → AsSwitched own stream store cs (switch_by 0 cs)
  defined-live stream cs ch =
      by_split (parted' stream cs ch) (λ ps x. rw x.none (defined-unmade stream cs ps x (tries₀ stream cs ch)))
      (λ ps qs c x. rw x.made (defined-made stream cs ps qs c x (tries₀ stream cs ch)))

-- ---- a start that is refused

module _ (own : Features) (store : List ℕ) (n : Numbers) (not16 : judge_own own.supported own.required ≡ refused n) where
  abbrev stopped : State
  stopped = record { mode = mode.Crc; ready = false; crc = crc.at stage.Refused 0 (crc.only_own own n); sealed = no_secure }

  begun-refused : begun own ≡ stopped
  unfolding begun crc.started
  begun-refused = rw not16

  start-refused : CrcRefusedFor n stopped
  start-refused = record { mode = refl; rule = refl; has_refused = crc-live.start-refused own n not16 }

  -- no frame was reported, so no switch is made
  never-ready : {A : Type 0} (stream : List ℕ) (cs : List Call) (ps qs : List Piece) (c : Try) → Made stream stopped store 0 0 cs ps qs c → A
  never-ready stream cs ps qs c x =
      let q = (stays crc_side n stream 0 stopped store ps start-refused x.fed).state in
      wrong (sym (ap (λ (y : State). y.ready) q) ∙ fine-ready (state_of stopped ps) x.judged)

  tries-refused : (stream : List ℕ) (cs : List Call) → Chained stream (begun own) store 0 cs → Tries (may_switch own stream store) 0 cs
  tries-refused stream cs ch =
      tries-answered stream (may_switch own stream store) stopped store 0 cs
      (λ ps f.
      let q = (stays crc_side n stream 0 stopped store ps start-refused f).state in
      let t = taken_of 0 ps in (
        ap agrees q ∙ crc-agrees {st = stopped} {s = store} (refuses n start-refused),
        ap may_be_switched q ∙ sym (ap (λ (y : Trace). behind_frame t y.entries) (trace-refused own (take t stream) store n not16)),
      )) (rw begun-refused at ch)

  record Still (stream : List ℕ) (cs : List Call) : Type 0 where
    taken : taken_by 0 cs ≡ 0
    state : state_by stopped cs ≡ stopped
    final : store_by store cs ≡ store
    repeats : Repeats n cs
    none : switch_by 0 cs ≡ none
    one : OneMade cs

  still : (stream : List ℕ) (cs : List Call) → Chained stream (begun own) store 0 cs → Still stream cs
  still stream cs ch =
      by_split (parted stream stopped store 0 0 cs (refuses n start-refused) (rw begun-refused at ch))
      (λ ps x.
      let a = x.erased in
      let r = stays crc_side n stream 0 stopped store ps start-refused a.fed in
      record { taken = a.taken ∙ r.taken; state = a.state ∙ r.state; final = a.store ∙ r.store; repeats = a.repeats n r.repeats; none = x.none; one = x.one })
      (never-ready stream cs)

  defined-refused : (stream : List ℕ) (cs : List Call) → Chained stream (begun own) store 0 cs → AsSwitched own stream store cs (switch_by 0 cs)
  defined-refused stream cs ch =
      let k = still stream cs ch in
      let z = trace-refused own (take (taken_by 0 cs) stream) store n not16 in
      subst (AsSwitched own stream store cs) (sym k.none) (record {
        within = rw k.taken zero-le;
        each = rw not16 k.repeats;
        reports = rw not16 (sym (ap (λ (t : Trace). t.entries) z));
        final = k.final ∙ sym (ap (λ (t : Trace). t.store) z);
        whole = λ e. wrong (rw not16 at e);
        same = λ stream' cs' ch' q e. let k' = still stream' cs' ch' in (rw begun-refused (k'.state ∙ sym k.state), k'.final ∙ sym k.final);
        one = k.one;
        tries = tries-refused stream cs ch;
        agreeing = rw begun-refused (ap agrees k.state ∙ crc-agrees {st = stopped} {s = store} (refuses n start-refused));
      })

-- DEMAND 3
pub switched-demand3 : SwitchedDemand3
unfolding SwitchedDemand3
switched-demand3 own stream store cs ch =
    by_judgement_lem (judge_own own.supported own.required) (λ e. defined-live own store e stream cs ch) (λ n e. defined-refused own store n e stream cs ch)
