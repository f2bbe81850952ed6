-- Every list of calls on a machine, by induction on the list: it comes to what the machine's step, run over the bytes taken, comes to.
use Prim.Native.Nat.{ℕ, ◌+◌, ◌-◌, ◌≤◌}
use mathlib.Core.List.{List, [], ◌∷◌, ◌++◌, append_assoc, append-nil}
use mathlib.Core.Path.{◌≡◌, refl, sym, ap, ◌∙◌}
use mathlib.Core.Bool.{true, false}
use native.Mathlib.Omega.{arith}
use native.Mathlib.Nat.{le_refl, add-zero, sub_self}
use lib.ListN.{length, take, drop, length-take, length-drop, take-append-drop}
use lib.Seq.{take-take, take-add, drop-drop, length-take-le}
use Rattle.refusal.specs.declared.Numbers.{Numbers}
use Rattle.refusal.proofs.Booleans.{wrong}
use Rattle.stream.specs.declared.Event.TheVariants as event
use Rattle.stream.specs.Stream.{Entry, refused_in}
use Rattle.std.specs.Prelude.{Some}
use Rattle.receiver.specs.Calls.{piece_at, entered, due_taken, due_report}
use Rattle.receiver.proofs.Entries.{noted, noted-append, next-due, Skips, Stops, skips_none, skips_noted, stops-refusal, by_report, enters, clean-noted}
use Rattle.receiver.proofs.Machine.{Machine, Answer, Scanned, before, scan, scan-none, scan-append, scan-behind, AsScan, feed-scan, After, passed-running, fed-after}

module _ (m : Machine) where
  -- ---- what a list of calls is, and what it comes to: clause by clause as of the receiver (Calls), whose own names so compute to these

  abbrev pub Chained : List ℕ → m.State → List ℕ → ℕ → List m.Call → Type 0
  Chained stream x s t [] = Unit {0}
  Chained stream x s t (c ∷ cs) =
      m.Answered x s (piece_at stream t (m.size c)) c
      × Chained stream (m.answer c).state (m.answer c).store (t + (m.answer c).taken) cs

  abbrev pub taken_by : ℕ → List m.Call → ℕ
  taken_by t [] = t
  taken_by t (c ∷ cs) = taken_by (t + (m.answer c).taken) cs

  abbrev pub state_by : m.State → List m.Call → m.State
  state_by x [] = x
  state_by x (c ∷ cs) = state_by (m.answer c).state cs

  abbrev pub store_by : List ℕ → List m.Call → List ℕ
  store_by s [] = s
  store_by s (c ∷ cs) = store_by (m.answer c).store cs

  abbrev pub reported_by : ℕ → List m.Call → List Entry
  reported_by t [] = []
  reported_by t (c ∷ cs) = entered (m.answer c).report (t + (m.answer c).taken) (m.answer c).store (reported_by (t + (m.answer c).taken) cs)

  abbrev pub Each : List Entry → List ℕ → ℕ → List m.Call → Type 0
  Each es stream t [] = Unit {0}
  Each es stream t (c ∷ cs) =
      ((m.answer c).taken ≡ due_taken es t (length (piece_at stream t (m.size c))))
      × ((m.answer c).report ≡ due_report es t (length (piece_at stream t (m.size c))))
      × Each es stream (t + (m.answer c).taken) cs

  abbrev pub Repeats : Numbers → List m.Call → Type 0
  Repeats n [] = Unit {0}
  Repeats n (c ∷ cs) = ((m.answer c).taken ≡ 0) × ((m.answer c).report ≡ Some (event.Refused n)) × Repeats n cs

  -- the machine runs and gave no refusal, or is refused
  pub data Standing (x : m.State) (s : List ℕ) (es : List Entry) : Type 0 where
    running : m.Running x s → refused_in es ≡ false → Standing x s es
    has_refused : (n : Numbers) → m.RefusedFor n x → Standing x s es

  -- ---- after a refusal

  pub record Stays (n : Numbers) (t : ℕ) (x : m.State) (s : List ℕ) (cs : List m.Call) : Type 0 where
    pub taken : taken_by t cs ≡ t
    pub state : state_by x cs ≡ x
    pub store : store_by s cs ≡ s
    pub repeats : Repeats n cs

  pub stays : (n : Numbers) (stream : List ℕ) (t : ℕ) (x : m.State) (s : List ℕ) (cs : List m.Call)
      → m.RefusedFor n x → Chained stream x s t cs → Stays n t x s cs
  stays n stream t x s [] g ch = record { taken = refl; state = refl; store = refl; repeats = tt }
  stays n stream t x s (c ∷ cs) g ch =
      let e = m.repeats n x s (piece_at stream t (m.size c)) c g ch.0 in
      let r = stays n stream t x s cs g (rw (e, add-zero t) at ch.1) in
      record { taken = rw (e, add-zero t) r.taken; state = rw e r.state; store = rw e r.store; repeats = rw e (refl, refl, r.repeats) }

  each-repeats : (n : Numbers) (stream : List ℕ) (t : ℕ) (es fs : List Entry) (cs : List m.Call)
      → Stops n t es → Repeats n cs → Each (es ++ fs) stream t cs
  unfolding Stops
  each-repeats n stream t es fs [] stop r = tt
  each-repeats n stream t es fs (c ∷ cs) stop r =
      let z = stop t (length (piece_at stream t (m.size c))) fs (le_refl t) in
      let e : t + (m.answer c).taken ≡ t = rw r.0 (add-zero t) in
      (r.0 ∙ sym z.0, r.1 ∙ sym z.1, rw e (each-repeats n stream t es fs cs stop r.2))

  -- ---- from the state x₀ and the store s₀, with P₀ bytes of the stream taken

  module _ (stream : List ℕ) (x₀ : m.State) (s₀ : List ℕ) (P₀ : ℕ) where
    -- what the bytes behind those come to, up to the t-th of the stream, and all of them
    abbrev pub up_to : ℕ → Scanned m.State
    up_to t = scan m.on_byte x₀ s₀ P₀ (take (t - P₀) (drop P₀ stream))

    abbrev pub all : Scanned m.State
    all = scan m.on_byte x₀ s₀ P₀ (drop P₀ stream)

    pub record Reached (t : ℕ) (x : m.State) (s : List ℕ) (es : List Entry) : Type 0 where
      pub from : P₀ ≤ t
      pub within : t ≤ length stream
      pub scanned : up_to t ≡ record { entries = es; state = x; store = s }

    -- WHAT A LIST OF CALLS COMES TO, from t bytes taken, the state x and the store s; es are the reports up to its end
    pub record Comes (t : ℕ) (x : m.State) (s : List ℕ) (cs : List m.Call) (es : List Entry) : Type 0 where
      pub reached : Reached (taken_by t cs) (state_by x cs) (store_by s cs) es
      pub each : Each all.entries stream t cs
      pub standing : Standing (state_by x cs) (store_by s cs) es

    module _ {t : ℕ} {x : m.State} {s : List ℕ} {es : List Entry} (h : Reached t x s es) where
      left : drop (t - P₀) (drop P₀ stream) ≡ drop t stream
      left = let e : P₀ + (t - P₀) ≡ t = omega arith in drop-drop (t - P₀) P₀ stream ∙ rw e

      goes_on : (ys : List ℕ) → scan m.on_byte x₀ s₀ P₀ (take (t - P₀) (drop P₀ stream) ++ ys) ≡ before es (scan m.on_byte x s t ys)
      goes_on ys =
          let d : t - P₀ ≤ length (drop P₀ stream) = omega (arith, length-drop P₀ stream) in
          let l : P₀ + length (take (t - P₀) (drop P₀ stream)) ≡ t = omega (arith, length-take-le (t - P₀) (drop P₀ stream) d) in
          scan-append m.on_byte x₀ s₀ P₀ (take (t - P₀) (drop P₀ stream)) ys ∙ rw (l, h.scanned)

      further : (k : ℕ) → up_to (t + k) ≡ before es (scan m.on_byte x s t (take k (drop t stream)))
      further k =
          let e : (t + k) - P₀ ≡ (t - P₀) + k = omega arith in
          ap (scan m.on_byte x₀ s₀ P₀) (rw (e, take-add (t - P₀) k (drop P₀ stream), left)) ∙ goes_on (take k (drop t stream))

      ahead : all ≡ before es (scan m.on_byte x s t (drop t stream))
      ahead = ap (scan m.on_byte x₀ s₀ P₀) (sym (take-append-drop (t - P₀) (drop P₀ stream)) ∙ rw left) ∙ goes_on (drop t stream)

      -- nothing more comes of a refused stream
      nothing-more : (n : Numbers) → m.RefusedFor n x → (es ≡ all.entries) × (s ≡ all.store)
      nothing-more n g =
          let z = m.silent n x s t (drop t stream) g in
          (rw (ahead, z.0) (sym (append-nil es)), rw (ahead, z.1))

      after-refusal : (n : Numbers) (cs : List m.Call) → m.RefusedFor n x → Stops n t es → Chained stream x s t cs → Comes t x s cs es
      after-refusal n cs g stop ch =
          let r = stays n stream t x s cs g ch in
          record {
            reached = rw (r.taken, r.state, r.store) h;
            each = rw ahead (each-repeats n stream t es (scan m.on_byte x s t (drop t stream)).entries cs stop r.repeats);
            standing = has_refused n (rw r.state g);
          }

    -- a call of a running machine
    module _ {t : ℕ} {x : m.State} {s : List ℕ} {es : List Entry} (h : Reached t x s es) (live : m.Running x s) (sk : Skips t es) (c : m.Call)
        (promise : m.Answered x s (piece_at stream t (m.size c)) c) where
      abbrev piece : List ℕ
      piece = piece_at stream t (m.size c)

      abbrev a : Answer m.State
      a = m.answer c

      abbrev t' : ℕ
      t' = t + a.taken

      abbrev es' : List Entry
      es' = es ++ noted a.report t' a.store []

      takes : AsScan m.on_byte x s piece t a
      takes = rw (m.feeds x s piece c live promise) (feed-scan m.on_byte x s piece t)

      after : After m.Running m.RefusedFor a.report a.state a.store
      after = fed-after m x s piece c live promise

      next : Reached t' a.state a.store es'
      next =
          let k = length-take (m.size c) (drop t stream) in
          let l : a.taken ≤ m.size c = omega (arith, takes.le) in
          record {
            from = omega (arith, h.from);
            within = omega (arith, takes.le, h.within, length-drop t stream);
            scanned = further h a.taken
                ∙ ap (before es) (ap (scan m.on_byte x s t) (sym (take-take a.taken (m.size c) (drop t stream) l)) ∙ takes.scanned);
          }

      due : (a.taken ≡ due_taken all.entries t (length piece)) × (a.report ≡ due_report all.entries t (length piece))
      unfolding Skips
      due =
          let fs = (scan m.on_byte a.state a.store t' (drop t' stream)).entries in
          let b = scan-behind m.on_byte a.state a.store t' (drop t' stream) in
          let e : all.entries ≡ es ++ noted a.report t' a.store fs =
          rw (ahead next, append_assoc, noted-append a.report t' a.store [] fs)
          in
          let d = next-due a.report t a.taken (length piece) a.store fs takes.le takes.fills b in
          let z = sk t (length piece) (noted a.report t' a.store fs) (le_refl t) in
          (rw e (d.0 ∙ sym z.0), rw e (d.1 ∙ sym z.1))

      -- and the calls after it
      module _ (cs : List m.Call) (ch : Chained stream a.state a.store t' cs) where
        joined : {gs : List Entry} {fs : List Entry} → gs ≡ fs → Comes t' a.state a.store cs fs → Comes t x s (c ∷ cs) gs
        joined e r = rw e (record { reached = r.reached; each = (due.0, due.1, r.each); standing = r.standing })

        next_comes : refused_in es ≡ false
            → (m.Running a.state a.store → Skips t' es' → refused_in es' ≡ false → Comes t' a.state a.store cs (es' ++ reported_by t' cs))
            → Comes t x s (c ∷ cs) (es ++ entered a.report t' a.store (reported_by t' cs))
        next_comes clean ih =
            let l : t ≤ t' = omega arith in
            by_report a.report
            (λ p.
            let live' = passed-running m.Running m.RefusedFor a.report a.state a.store p after in
            joined (rw (enters a.report t' a.store (reported_by t' cs) p, ← append_assoc))
            (ih live' (skips_noted a.report t t' a.store es p l sk) (clean-noted a.report t' a.store es p clean)))
            (λ n q. joined (rw q) (after-refusal next n cs (rw q at after) (rw q (stops-refusal t t' n a.store es l sk)) ch))

    live-run : (t : ℕ) (x : m.State) (s : List ℕ) (es : List Entry) (cs : List m.Call)
        → Reached t x s es → m.Running x s → Skips t es → refused_in es ≡ false → Chained stream x s t cs → Comes t x s cs (es ++ reported_by t cs)
    live-run t x s es [] h live sk clean ch = rw (append-nil es) (record { reached = h; each = tt; standing = running live clean })
    live-run t x s es (c ∷ cs) h live sk clean ch =
        let a = m.answer c in
        let es' = es ++ noted a.report (t + a.taken) a.store [] in
        let n = next h live sk c ch.0 in
        next_comes h live sk c ch.0 cs ch.1 clean
        (λ live' sk' clean'. live-run (t + a.taken) a.state a.store es' cs n live' sk' clean' ch.1)

    -- EVERY LIST OF CALLS
    pub every_list : (cs : List m.Call) → P₀ ≤ length stream → m.Running x₀ s₀ → Chained stream x₀ s₀ P₀ cs → Comes P₀ x₀ s₀ cs (reported_by P₀ cs)
    every_list cs h live ch =
        let r : Reached P₀ x₀ s₀ [] = record { from = le_refl P₀; within = h; scanned = rw (sub_self P₀) (scan-none m.on_byte x₀ s₀ P₀) } in
        live-run P₀ x₀ s₀ [] cs r live (skips_none P₀) refl ch

    -- once a refusal is reported the machine is refused, and the reports and the store are those of the uncut stream
    module _ {t : ℕ} {x : m.State} {s : List ℕ} (cs : List m.Call) {es : List Entry} (r : Comes t x s cs es) (e : refused_in es ≡ true) where
      pub stopped : (n : Numbers) × m.RefusedFor n (state_by x cs)
      stopped = go r.standing
        where
          go : Standing (state_by x cs) (store_by s cs) es → (n : Numbers) × m.RefusedFor n (state_by x cs)
          go (running live clean) = wrong (sym clean ∙ e)
          go (has_refused n g) = (n, g)

      pub uncut : (es ≡ all.entries) × (store_by s cs ≡ all.store)
      uncut = nothing-more r.reached stopped.0 stopped.1

  -- two lists of calls that took the same bytes end with the same state and store, and gave the same reports
  pub same_end : {stream stream' : List ℕ} {x₀ : m.State} {s₀ : List ℕ} {P₀ : ℕ} (cs cs' : List m.Call) {es es' : List Entry}
      → Comes stream x₀ s₀ P₀ P₀ x₀ s₀ cs es → Comes stream' x₀ s₀ P₀ P₀ x₀ s₀ cs' es'
      → take (taken_by P₀ cs' - P₀) (drop P₀ stream') ≡ take (taken_by P₀ cs - P₀) (drop P₀ stream)
      → (state_by x₀ cs' ≡ state_by x₀ cs) × (store_by s₀ cs' ≡ store_by s₀ cs) × (es' ≡ es)
  same_end {stream} {stream'} {x₀} {s₀} {P₀} cs cs' r r' e =
      let q = sym r'.reached.scanned ∙ ap (scan m.on_byte x₀ s₀ P₀) e ∙ r.reached.scanned in
      (ap (λ (y : Scanned m.State). y.state) q, ap (λ (y : Scanned m.State). y.store) q, ap (λ (y : Scanned m.State). y.entries) q)
