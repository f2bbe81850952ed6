-- Demand 3 of connections (02, K4): one claim about every stream and every list of calls on it, each a call for a piece or a try to switch. The definition has the
-- switch that was made as its argument; with none it is the definition as it stood.
use Rattle.std.specs.Prelude.{◌≡◌, List, [], ◌∷◌, Bool, true, false, cond, ℕ, suc, ◌+◌, ◌≤◌, length, take}
use Rattle.refusal.specs.declared.Numbers.{Numbers}
use Rattle.refusal.specs.declared.Refusal.TheVariants as refusal
use Rattle.refusal.specs.Refusals.{Judged, fine, refused, numbers_of, judged_by}
use Rattle.banner.specs.declared.Features.{Features}
use Rattle.banner.specs.Banner.{judge_own}
use Rattle.stream.specs.declared.Event.TheVariants as event
use Rattle.stream.specs.Stream.{Entry, refused_in}
use Rattle.receiver.specs.Report.{Report}
use Rattle.std.specs.Prelude.{Some, None}
use Rattle.receiver.specs.Calls.{piece_at, entered, due_taken, due_report}
use Rattle.connection.specs.declared.State.{State}
use Rattle.connection.specs.declared.Received.{Received}
use Rattle.connection.specs.declared.Switched.{Switched}
use Rattle.connection.specs.Switched.{Switch, none, behind, trace_with, may_switch}
use Rattle.connection.specs.Step.{begun, report_ends_frame, agrees, Answered, SwitchedWith}

-- ---- lists of calls

-- a call for a piece: its size, what the call handed back, and the store as it left it
pub record Piece : Type 0 where
  pub size : ℕ
  pub received : Received
  pub store : List ℕ

-- a try to switch: what it was given, and what it handed back
pub record Try : Type 0 where
  pub key : List ℕ
  pub receiving : List ℕ
  pub sending : List ℕ
  pub switched : Switched

pub data Call : Type 0 where
  taking : Piece → Call
  switching : Try → Call

-- each meets its own promise, from the state and the store that the last one left
abbrev pub Chained : List ℕ → State → List ℕ → ℕ → List Call → Type 0
Chained stream st s t [] = Unit {0}
Chained stream st s t (taking c ∷ cs) =
    Answered st s (piece_at stream t c.size) c.received c.store
    × Chained stream c.received.state c.store (t + c.received.taken) cs
Chained stream st s t (switching c ∷ cs) =
    SwitchedWith st c.key c.receiving c.sending c.switched × Chained stream c.switched.state s t cs

-- what a list of calls comes to: the bytes taken, the state, the store, the reports. A try to switch adds no entry
abbrev pub taken_by : ℕ → List Call → ℕ
taken_by t [] = t
taken_by t (taking c ∷ cs) = taken_by (t + c.received.taken) cs
taken_by t (switching c ∷ cs) = taken_by t cs

abbrev pub state_by : State → List Call → State
state_by st [] = st
state_by st (taking c ∷ cs) = state_by c.received.state cs
state_by st (switching c ∷ cs) = state_by c.switched.state cs

abbrev pub store_by : List ℕ → List Call → List ℕ
store_by s [] = s
store_by s (taking c ∷ cs) = store_by c.store cs
store_by s (switching c ∷ cs) = store_by s cs

abbrev pub reported_by : ℕ → List Call → List Entry
reported_by t [] = []
reported_by t (taking c ∷ cs) = entered c.received.report (t + c.received.taken) c.store (reported_by (t + c.received.taken) cs)
reported_by t (switching c ∷ cs) = reported_by t cs

-- after a start refused with 16 every call is one after a refusal, and adds no entry
abbrev pub list_of : Judged → List Call → List Entry
list_of fine cs = reported_by 0 cs
list_of (refused n) cs = []

-- ---- the switch that was made: behind how many reported and dropped frames, with which key and nonce

abbrev pub counted : ℕ → Report → ℕ
counted k r = cond (report_ends_frame r) (suc k) k

abbrev pub made_or : Judged → Switch → Switch → Switch
made_or fine made later = made
made_or (refused n) made later = later

abbrev pub switch_by : ℕ → List Call → Switch
switch_by k [] = none
switch_by k (taking c ∷ cs) = switch_by (counted k c.received.report) cs
switch_by k (switching c ∷ cs) = made_or (judged_by c.switched.judgement) (behind k c.key c.receiving) (switch_by k cs)

-- every other try gave 27
abbrev pub TriesRefused : List Call → Type 0
TriesRefused [] = Unit {0}
TriesRefused (taking c ∷ cs) = TriesRefused cs
TriesRefused (switching c ∷ cs) = (judged_by c.switched.judgement ≡ refused (numbers_of refusal.SwitchRefused)) × TriesRefused cs

abbrev pub made_or_refused : Judged → Type 0 → Type 0 → Type 0
made_or_refused fine later rest = later
made_or_refused (refused n) later rest = (n ≡ numbers_of refusal.SwitchRefused) × rest

abbrev pub OneMade : List Call → Type 0
OneMade [] = Unit {0}
OneMade (taking c ∷ cs) = OneMade cs
OneMade (switching c ∷ cs) = made_or_refused (judged_by c.switched.judgement) (TriesRefused cs) (OneMade cs)

-- what each try answers: it is made where it may be, and every later one gives 27; elsewhere it gives 27
abbrev pub tried_at : Bool → Judged → Type 0 → Type 0 → Type 0
tried_at true j later rest = (j ≡ fine) × later
tried_at false j later rest = (j ≡ refused (numbers_of refusal.SwitchRefused)) × rest

-- by whether a switch may be made with so many bytes taken
abbrev pub Tries : (ℕ → Bool) → ℕ → List Call → Type 0
Tries may t [] = Unit {0}
Tries may t (taking c ∷ cs) = Tries may (t + c.received.taken) cs
Tries may t (switching c ∷ cs) = tried_at (may t) (judged_by c.switched.judgement) (TriesRefused cs) (Tries may t cs)

-- ---- what is due

abbrev pub Each : List Entry → List ℕ → ℕ → List Call → Type 0
Each es stream t [] = Unit {0}
Each es stream t (taking c ∷ cs) =
    (c.received.taken ≡ due_taken es t (length (piece_at stream t c.size)))
    × (c.received.report ≡ due_report es t (length (piece_at stream t c.size)))
    × Each es stream (t + c.received.taken) cs
Each es stream t (switching c ∷ cs) = Each es stream t cs

-- every call takes nothing and repeats the refusal
abbrev pub Repeats : Numbers → List Call → Type 0
Repeats n [] = Unit {0}
Repeats n (taking c ∷ cs) = (c.received.taken ≡ 0) × (c.received.report ≡ Some (event.Refused n)) × Repeats n cs
Repeats n (switching c ∷ cs) = Repeats n cs

abbrev pub EachBy : Judged → List Entry → List ℕ → List Call → Type 0
EachBy fine es stream cs = Each es stream 0 cs
EachBy (refused n) es stream cs = Repeats n cs

-- THE CLAIM, of the calls cs on a stream, from a start with the features own and from a store; sw is the switch that was made
pub record AsSwitched (own : Features) (stream store : List ℕ) (cs : List Call) (sw : Switch) : Type 0 where
  -- no call takes a byte that is not there
  pub within : taken_by 0 cs ≤ length stream
  -- each call takes up to and including the byte of the next entry of the whole stream, or its whole piece, and reports that entry, or more wanted;
  -- after a refusal it takes nothing and repeats it
  pub each : EachBy (judge_own own.supported own.required) (trace_with sw own stream store).entries stream cs
  -- the reports, each with its byte and the store then, are the entries for the bytes taken so far, and the store is the defined one
  pub reports : list_of (judge_own own.supported own.required) cs ≡ (trace_with sw own (take (taken_by 0 cs) stream) store).entries
  pub final : store_by store cs ≡ (trace_with sw own (take (taken_by 0 cs) stream) store).store
  -- once the stream is refused, they are those of the uncut stream
  pub whole : refused_in (list_of (judge_own own.supported own.required) cs) ≡ true
      → (list_of (judge_own own.supported own.required) cs ≡ (trace_with sw own stream store).entries) × (store_by store cs ≡ (trace_with sw own stream store).store)
  -- any other list of calls, on any stream, that took the same bytes and made the same switch, or none as this one, ends with the same state and store
  pub same : (stream' : List ℕ) (cs' : List Call) → Chained stream' (begun own) store 0 cs' → switch_by 0 cs' ≡ sw → take (taken_by 0 cs') stream' ≡ take (taken_by 0 cs) stream
      → (state_by (begun own) cs' ≡ state_by (begun own) cs) × (store_by store cs' ≡ store_by store cs)
  -- one switch is made at most, and every other try gave 27
  pub one : OneMade cs
  -- and the first try behind a frame of a msgr2.1 stream, before any byte of the next, is the one that is made
  pub tries : Tries (may_switch own stream store) 0 cs
  -- no call gave 26
  pub agreeing : agrees (state_by (begun own) cs) ≡ true

-- DEMAND 3 of connections
unfoldable pub SwitchedDemand3 : Type 0
SwitchedDemand3 = (own : Features) (stream store : List ℕ) (cs : List Call) → Chained stream (begun own) store 0 cs → AsSwitched own stream store cs (switch_by 0 cs)
