-- States read back from their words, words from the state that they stand for, and reports.
use mathlib.Core.Path.{◌≡◌, refl, sym, ap, ◌∙◌}
use mathlib.Core.Bool.{Bool, true, cond}
use mathlib.Core.List.{List, [], ◌∷◌}
use Prim.Native.Nat.{ℕ, zero, suc, ◌+◌, ◌≤◌, ◌<◌, min}
use native.Mathlib.Omega.{arith}
use lib.Dec.{lit<, eqb}
use lib.ListN.{length, get_or, set, drop, drop_of_length-le}
use lib.Seq.{drop-cons}
use Rattle.banner.specs.declared.Revision.{Revision}
use Rattle.stream.specs.declared.Event.TheVariants as event
use Rattle.stream.proofs.Events.{by_kind}
use Rattle.receiver.specs.declared.Stage.{Stage}
use Rattle.receiver.specs.declared.State.{State}
use Rattle.receiver.specs.Report.{Report}
use Rattle.std.specs.Prelude.{Some, None}
use Rattle.receiver.specs.State.{rank, stage_of}
use Rattle.receiver.proofs.Ranks.{stage-back, rank-back, rank_known}
use Rattle.receiver.specs.Step.{state_at}
use Rattle.preamble.specs.declared.Header.{Header}
use Rattle.refusal.specs.declared.Numbers.{Numbers}
use Rattle.refusal.specs.Refusals.{row}
use Rattle.abi.specs.Words.{max_u8, low_u8, low_u16, low_u32, header_limits}
use Rattle.abi.proofs.Limits.{facts, tested, bound, joined}
use Rattle.abi.proofs.Headers.{small8, small16, small32, header_typed, header-back}
use Rattle.abi.proofs.Back.{revision-back, mark-back, revision_known, mark_known, revision-number-back, mark-number-back, header_in_lem, refusal_in}
use Rattle.abi_receiver.specs.Words.{AbiState, abi_state, known_of, state_of, state_numbers, abi_of, state_limits, fits, Typed, AbiOf, event_words, report_words, report_of, ReportTyped, ReadsBack}

-- ---- a state from its words

abbrev made : Stage → Revision → Bool → ℕ → Header → ℕ → State → State
made stage revision first payload header number st = record {
  position = record { stage = stage; got = st.position.got; block = st.position.block };
  known = record {
    own = st.known.own;
    payload = payload;
    peer = st.known.peer;
    revision = revision;
    header = header;
    first = first;
    refusal = row number st.known.refusal.first st.known.refusal.second st.known.refusal.third;
  };
}

same : {s s' : Stage} {v v' : Revision} {m m' : Bool} {p p' : ℕ} {h h' : Header} {n n' : ℕ} (st : State)
    → s ≡ s' → v ≡ v' → m ≡ m' → p ≡ p' → h ≡ h' → n ≡ n' → made s v m p h n st ≡ made s' v' m' p' h' n' st
same st e f g i j k = rw (e, f, g, i, j, k)

module _ (st : State) (h : Typed st) where
  payload-small : low_u16 st.known.payload ≡ st.known.payload
  payload-small = let l = h.payload in small16 st.known.payload (omega arith)

  number_small : low_u8 st.known.refusal.number ≡ st.known.refusal.number
  number_small = let l = h.refusal in small8 st.known.refusal.number (omega arith)

  pub words-fit : fits (state_numbers st) ≡ true
  unfolding state_numbers
  words-fit =
      tested state_limits 0 (state_numbers st)
      (rank_known st.position.stage, (revision_known st.known.revision, (mark_known st.known.first, (h.payload, joined header_limits (max_u8 ∷ []) 4 (state_numbers st) h.header (h.refusal, tt)))))

  pub state-back : state_of (abi_of st) ≡ st
  unfolding state_of state_numbers
  state-back =
      same st (stage-back st.position.stage) (revision-back st.known.revision) (mark-back st.known.first) payload-small
      (header-back st.known.header (header_typed st.known.header h.header)) number_small

pub abi_of_lem : (st : State) (ws : List ℕ) → Typed st → ws ≡ state_numbers st → AbiOf st (abi_state ws st.position.block)
abi_of_lem st ws h e =
    let f : abi_state ws st.position.block ≡ abi_of st = ap (λ (l : List ℕ). abi_state l st.position.block) e in
    record { words = f; back = ap state_of f ∙ state-back st h; fit = ap fits e ∙ words-fit st h }

-- ---- words from the state that they stand for

-- a list, word by word from place k on
abbrev pub spelled : ℕ → ℕ → List ℕ → List ℕ
spelled zero k ws = []
spelled (suc n) k ws = get_or ws k 0 ∷ spelled n (suc k) ws

pub spelt : (n k : ℕ) (ws : List ℕ) → length ws ≡ k + n → drop k ws ≡ spelled n k ws
spelt zero k ws h = drop_of_length-le ws {i = k} (omega arith)
spelt (suc n) k ws h =
    let l : k < length ws = omega arith in
    drop-cons ws k 0 l ∙ ap (λ (t : List ℕ). get_or ws k 0 ∷ t) (spelt n (suc k) ws (omega arith))

stage-number-back : (n : ℕ) → n ≤ 9 → rank (stage_of n) ≡ n
stage-number-back n h = let m : min n 9 ≡ n = omega arith in rank-back n ∙ m

module _ (ws block : List ℕ) (e : fits ws ≡ true) where
  limit : (k : ℕ) → k < length state_limits → get_or ws (k + 0) 0 ≤ get_or state_limits k 0
  limit = bound state_limits 0 ws (facts state_limits 0 ws e)

  low8 : (k : ℕ) → get_or ws k 0 ≤ 255 → low_u8 (get_or ws k 0) ≡ get_or ws k 0
  low8 k h = small8 (get_or ws k 0) (omega arith)

  low16 : (k : ℕ) → get_or ws k 0 ≤ 65535 → low_u16 (get_or ws k 0) ≡ get_or ws k 0
  low16 k h = small16 (get_or ws k 0) (omega arith)

  low32 : (k : ℕ) → get_or ws k 0 ≤ 4294967295 → low_u32 (get_or ws k 0) ≡ get_or ws k 0
  low32 k h = small32 (get_or ws k 0) (omega arith)

  words-spelled : state_numbers (state_of (abi_state ws block)) ≡ spelled 23 0 ws
  unfolding state_numbers state_of
  words-spelled =
      rw (
        stage-number-back (get_or ws 0 0) (limit 0 (lit< tt)),
        revision-number-back (get_or ws 1 0) (limit 1 (lit< tt)),
        mark-number-back (get_or ws 2 0) (limit 2 (lit< tt)),
        low16 3 (limit 3 (lit< tt)),
        low8 4 (limit 4 (lit< tt)),
        low8 5 (limit 5 (lit< tt)),
        low32 6 (limit 6 (lit< tt)),
        low16 7 (limit 7 (lit< tt)),
        low32 8 (limit 8 (lit< tt)),
        low16 9 (limit 9 (lit< tt)),
        low32 10 (limit 10 (lit< tt)),
        low16 11 (limit 11 (lit< tt)),
        low32 12 (limit 12 (lit< tt)),
        low16 13 (limit 13 (lit< tt)),
        low8 14 (limit 14 (lit< tt)),
      )

words_back : (p : AbiState) → length p.numbers ≡ 23 → fits p.numbers ≡ true → abi_of (state_of p) ≡ p
unfolding state_of
words_back p size e = ap (λ (l : List ℕ). abi_state l p.block) (words-spelled p.numbers p.block e ∙ sym (spelt 23 0 p.numbers size))

-- with another count of bytes, which is the word at place 18
pub counted : (ws block : List ℕ) (to : ℕ) → length ws ≡ 23 → fits ws ≡ true → set ws 18 to ≡ state_numbers (state_at (stage_of (get_or ws 0 0)) to block (known_of ws))
unfolding state_numbers state_of
counted ws block to size e = ap (λ (l : List ℕ). set l 18 to) (spelt 23 0 ws size ∙ sym (words-spelled ws block e))

-- ---- a report from its words

pub report-back : (t : ℕ) (r : Report) → ReportTyped r → report_of (report_words t r) ≡ r
report-back t None h = refl
report-back t (Some (event.Banner p v)) h = rw (revision-back v)
report-back t (Some (event.First k)) h = ap (λ (x : Header). Some (event.First x)) (header_in_lem k h)
report-back t (Some (event.Frame k)) h = ap (λ (x : Header). Some (event.Frame x)) (header_in_lem k h)
report-back t (Some (event.Dropped k)) h = ap (λ (x : Header). Some (event.Dropped x)) (header_in_lem k h)
report-back t (Some (event.Refused n)) h = ap (λ (x : Numbers). Some (event.Refused x)) (refusal_in n h)

-- words that tell of a refusal are those of no other report: read as they stand, without their low bits
abbrev pub refused_report : List ℕ → Report
refused_report q =
    cond (eqb (get_or q 0 0) 4) (Some (event.Refused (row (get_or q 15 0) (get_or q 16 0) (get_or q 17 0) (get_or q 18 0)))) None

other : {n : Numbers} → None ≡ Some (event.Refused n) → ⊥
other e = let z : ◌≡◌ {A = ℕ} 0 1 = cc in omega arith

pub refused-report : (t : ℕ) (r : Report) (n : Numbers) → refused_report (report_words t r) ≡ Some (event.Refused n) → r ≡ Some (event.Refused n)
refused-report t None n e = e
refused-report t (Some w) n e =
    by_kind (λ v. refused_report (event_words t v) ≡ Some (event.Refused n) → Some v ≡ Some (event.Refused n)) (λ h q. absurd (other q)) (λ h q. absurd (other q)) (λ m q. q)
    (λ v b q. absurd (other (rw b.refusal at q))) w e

pub refused-back : (t t' : ℕ) (r : Report) (n : Numbers) → report_words t r ≡ report_words t' (Some (event.Refused n)) → r ≡ Some (event.Refused n)
refused-back t t' r n e = refused-report t r n (ap refused_report e)

pub reads-back : ReadsBack
reads-back = record { state = state-back; fit = words-fit; words = words_back; report = report-back }
