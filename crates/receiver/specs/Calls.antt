-- Demand 3: one claim about every stream and every list of calls on it. `Chained` is what a list of calls is, `AsDefined` what is claimed of it.
use Rattle.std.specs.Prelude.{◌≡◌, List, [], ◌∷◌, true, cond, ℕ, ◌+◌, ◌-◌, ◌≤◌, min, length, take, drop, leb, Some, None}
use Rattle.refusal.specs.declared.Numbers.{Numbers}
use Rattle.refusal.specs.Refusals.{Judged, fine, refused}
use Rattle.banner.specs.declared.Features.{Features}
use Rattle.banner.specs.Banner.{judge_own}
use Rattle.stream.specs.declared.Event.TheVariants as event
use Rattle.stream.specs.Events.{passing}
use Rattle.stream.specs.Stream.{Entry, entry, refused_in, trace_of}
use Rattle.stream.specs.Adds.{AddsUp}
use Rattle.receiver.specs.declared.State.{State}
use Rattle.receiver.specs.Report.{Report}
use Rattle.receiver.specs.declared.Received.{Received}
use Rattle.receiver.specs.State.{agrees}
use Rattle.receiver.specs.Step.{Answered, started}

-- ---- lists of calls

-- a call: the size of the piece that it was lent, what it handed back, and the store as it left it
pub record Call : Type 0 where
  pub size : ℕ
  pub received : Received
  pub store : List ℕ

-- a run of the stream from the first byte not yet taken on, empty or of any length
abbrev pub piece_at : List ℕ → ℕ → ℕ → List ℕ
piece_at stream t size = take size (drop t stream)

-- each call meets the promise of `receive`, from the state and the store that the last one left
abbrev pub Chained : List ℕ → State → List ℕ → ℕ → List Call → Type 0
Chained stream st s t [] = Unit {0}
Chained stream st s t (c ∷ cs) =
    Answered st s (piece_at stream t c.size) c.received c.store
    × Chained stream c.received.state c.store (t + c.received.taken) cs

-- what a list of calls comes to: the bytes taken, the state, the store, the reports
abbrev pub taken_by : ℕ → List Call → ℕ
taken_by t [] = t
taken_by t (c ∷ cs) = taken_by (t + c.received.taken) cs

abbrev pub state_by : State → List Call → State
state_by st [] = st
state_by st (c ∷ cs) = state_by c.received.state cs

abbrev pub store_by : List ℕ → List Call → List ℕ
store_by s [] = s
store_by s (c ∷ cs) = store_by c.store cs

-- a report's entry, before those of later calls; a refusal is entered once, and ends the list
abbrev pub entered : Report → ℕ → List ℕ → List Entry → List Entry
entered None at s es = es
entered (Some e) at s es = entry e at s ∷ passing e es (λ n. [])

abbrev pub reported_by : ℕ → List Call → List Entry
reported_by t [] = []
reported_by t (c ∷ cs) = entered c.received.report (t + c.received.taken) c.store (reported_by (t + c.received.taken) cs)

-- after a start refused with 16 every call is one after a refusal, and adds no entry
abbrev pub list_of : Judged → List Call → List Entry
list_of fine cs = reported_by 0 cs
list_of (refused n) cs = []

-- ---- what is due

-- how many bytes a call takes of a piece of k bytes, t being taken before: up to and including the byte of the next entry, or the whole piece; after a refusal none
unfoldable pub due_taken : List Entry → ℕ → ℕ → ℕ
due_taken [] t k = k
due_taken (e ∷ es) t k = cond (leb e.at t) (passing e.event (due_taken es t k) (λ n. 0)) (min k (e.at - t))

-- and its report: that entry, more wanted, or the refusal again
unfoldable pub due_report : List Entry → ℕ → ℕ → Report
due_report [] t k = None
due_report (e ∷ es) t k =
    cond (leb e.at t) (passing e.event (due_report es t k) (λ n. Some (event.Refused n)))
    (cond (leb e.at (t + k)) (Some e.event) None)

abbrev pub Each : List Entry → List ℕ → ℕ → List Call → Type 0
Each es stream t [] = Unit {0}
Each es stream t (c ∷ cs) =
    (c.received.taken ≡ due_taken es t (length (piece_at stream t c.size)))
    × (c.received.report ≡ due_report es t (length (piece_at stream t c.size)))
    × Each es stream (t + c.received.taken) cs

-- every call takes nothing and repeats the refusal
abbrev pub Repeats : Numbers → List Call → Type 0
Repeats n [] = Unit {0}
Repeats n (c ∷ cs) = (c.received.taken ≡ 0) × (c.received.report ≡ Some (event.Refused n)) × Repeats n cs

abbrev pub EachBy : Judged → List Entry → List ℕ → List Call → Type 0
EachBy fine es stream cs = Each es stream 0 cs
EachBy (refused n) es stream cs = Repeats n cs

-- THE CLAIM, of the calls cs on a stream, from a start with the features own and from a store
pub record AsDefined (own : Features) (stream store : List ℕ) (cs : List Call) : Type 0 where
  -- no call takes a byte that is not there
  pub within : taken_by 0 cs ≤ length stream
  -- each call takes up to and including the byte of the next entry of the whole stream, or its whole piece, and reports that entry, or more wanted;
  -- after a refusal it takes nothing and repeats it
  pub each : EachBy (judge_own own.supported own.required) (trace_of own stream store).entries stream cs
  -- the reports, each with its byte and the store then, are the entries for the bytes taken so far, and the store is the defined one
  pub reports : list_of (judge_own own.supported own.required) cs ≡ (trace_of own (take (taken_by 0 cs) stream) store).entries
  pub final : store_by store cs ≡ (trace_of own (take (taken_by 0 cs) stream) store).store
  -- once the stream is refused, they are those of the uncut stream (and so they are where no byte is left, by the two lines above)
  pub whole : refused_in (list_of (judge_own own.supported own.required) cs) ≡ true
      → (list_of (judge_own own.supported own.required) cs ≡ (trace_of own stream store).entries) × (store_by store cs ≡ (trace_of own stream store).store)
  -- any other list of calls, on any stream, that took the same bytes ends with the same state and store
  pub same : (stream' : List ℕ) (cs' : List Call) → Chained stream' (started own) store 0 cs' → take (taken_by 0 cs') stream' ≡ take (taken_by 0 cs) stream
      → (state_by (started own) cs' ≡ state_by (started own) cs) × (store_by store cs' ≡ store_by store cs)
  -- each report stands at the byte of the one before it plus its own length on the wire
  pub adds : AddsUp (list_of (judge_own own.supported own.required) cs)
  -- no call gave 26
  pub agreeing : agrees (state_by (started own) cs) ≡ true

unfoldable pub Demand3 : Type 0
Demand3 = (own : Features) (stream store : List ℕ) (cs : List Call) → Chained stream (started own) store 0 cs → AsDefined own stream store cs

-- ---- the same claim of calls that were made: what `receive_all` promises. The calls are those of its cuts, and each met the promise of `receive`

abbrev pub sizes_of : List Call → List ℕ
sizes_of [] = []
sizes_of (c ∷ cs) = c.size ∷ sizes_of cs

pub record ReceivedAll (own : Features) (stream cuts store : List ℕ) (st : State) (t : ℕ) (store' : List ℕ) : Type 0 where
  pub calls : List Call
  pub sizes : sizes_of calls ≡ cuts
  pub chained : Chained stream (started own) store 0 calls
  pub state : st ≡ state_by (started own) calls
  pub taken : t ≡ taken_by 0 calls
  pub final : store' ≡ store_by store calls
  pub defined : AsDefined own stream store calls
