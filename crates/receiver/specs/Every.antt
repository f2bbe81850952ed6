-- What holds of every call, whatever its state, store and piece, and of every list of calls in which each is given the state that the last one handed back.
use Rattle.std.specs.Prelude.{◌≡◌, List, [], ◌∷◌, true, false, ℕ, ◌+◌, ◌<◌, length, Some, None}
use Rattle.refusal.specs.declared.Numbers.{Numbers}
use Rattle.banner.specs.declared.Features.{Features}
use Rattle.preamble.specs.Layout.{total}
use Rattle.body.specs.Body.{first_sum_length, wire_length}
use Rattle.stream.specs.declared.Event.TheVariants as event
use Rattle.stream.specs.Events.{Role, banner_end, first_end, frame_end, stream_end, role_of, passing}
use Rattle.receiver.specs.declared.Stage.{Stage}
use Rattle.receiver.specs.declared.Stage.TheVariants as stage
use Rattle.receiver.specs.declared.Known.{Known}
use Rattle.receiver.specs.declared.State.{State}
use Rattle.receiver.specs.Report.{Report}
use Rattle.receiver.specs.declared.Received.{Received}
use Rattle.receiver.specs.State.{is_refused, agrees}
use Rattle.refusal.specs.Refusals.{contradiction}
use Rattle.receiver.specs.Step.{Answered, Running, short_store, needed_by, refused_state, started}

-- ---- every call

-- the whole answer: the state, the bytes taken, the refusal, and the store as it was
pub record Refuses (st : State) (n : Numbers) (s : List ℕ) (r : Received) (s' : List ℕ) : Type 0 where
  pub state : r.state ≡ st
  pub taken : r.taken ≡ 0
  pub report : r.report ≡ Some (event.Refused n)
  pub store : s' ≡ s

pub record Sound (st : State) (s piece : List ℕ) (r : Received) (s' : List ℕ) : Type 0 where
  -- 26 exactly where the fields contradict each other: it takes nothing, changes nothing and hands the state back
  pub contradicts : agrees st ≡ false → Refuses st contradiction s r s'
  pub never26 : agrees st ≡ true → r.report ≡ Some (event.Refused contradiction) → ⊥
  -- and a call that does not give it hands back no such state
  pub agreeing : agrees st ≡ true → agrees r.state ≡ true
  -- any other refusal stays: every later call, with any store and any piece, takes nothing, changes nothing and repeats it
  pub stays : (n : Numbers) → agrees st ≡ true → r.report ≡ Some (event.Refused n)
      → (s₂ piece₂ : List ℕ) (r₂ : Received) (s₃ : List ℕ) → Answered r.state s₂ piece₂ r₂ s₃ → Refuses r.state n s₂ r₂ s₃
  -- a store that is too short for the frame under way: 10, and nothing is taken or changed
  pub short : agrees st ≡ true → is_refused st.position.stage ≡ false → length s < needed_by st
      → Refuses (refused_state st.known (short_store st)) (short_store st) s r s'
  -- on a live receiver with a store long enough, a piece that is not empty gives up at least one byte, and an empty one asks for more
  pub progress : Running st s → 0 < length piece → 0 < r.taken
  pub nothing : Running st s → length piece ≡ 0 → (r.taken ≡ 0) × (r.report ≡ None)

-- ---- bytes add up

-- a call with a store and a piece of its own
pub record AnyCall : Type 0 where
  pub lent : List ℕ
  pub piece : List ℕ
  pub received : Received
  pub store : List ℕ

-- each call meets the promise of `receive`, from the state that the last one handed back
abbrev pub Handed : State → List AnyCall → Type 0
Handed st [] = Unit {0}
Handed st (c ∷ cs) = Answered st c.lent c.piece c.received c.store × Handed c.received.state cs

abbrev pub all_taken : List AnyCall → ℕ
all_taken [] = 0
all_taken (c ∷ cs) = c.received.taken + all_taken cs

-- what a report says of the bytes up to it: the banner's length, or a frame's on the wire; an early report adds none. v is what the receiver then knows
abbrev pub role_length : Role → Known → ℕ
role_length (banner_end p r) v = 10 + v.payload
role_length (first_end h) v = 0
role_length (frame_end h) v = wire_length v.revision h
role_length (stream_end n) v = 0

abbrev pub length_of : Report → Known → ℕ
length_of None v = 0
length_of (Some e) v = role_length (role_of e) v

abbrev pub all_reported : List AnyCall → ℕ
all_reported [] = 0
all_reported (c ∷ cs) = length_of c.received.report c.received.state.known + all_reported cs

-- the bytes of the unfinished banner or frame that came before the stage
abbrev pub came_before : Stage → Known → ℕ
came_before stage.Magic v = 0
came_before stage.Length v = 8
came_before stage.Payload v = 10
came_before stage.Skip v = 26
came_before stage.Preamble v = 0
came_before stage.First v = 32
came_before stage.FirstSum v = 32 + v.header.s1.len
came_before stage.Rest v = 32 + first_sum_length v.revision v.header
came_before stage.Epilogue v = 32 + total v.header + first_sum_length v.revision v.header
came_before stage.Refused v = 0

-- THE UNFINISHED PART, a function of the state
abbrev pub unfinished : State → ℕ
unfinished st = came_before st.position.stage st.known + st.position.got

-- with a refusal, the bytes of its banner or frame: those that were unfinished at the last report or call before it, and those that the refused call took
abbrev pub unfinished_after : Report → ℕ → Received → ℕ
unfinished_after None n r = unfinished r.state
unfinished_after (Some e) n r = passing e (unfinished r.state) (λ m. n + r.taken)

abbrev pub unfinished_by : ℕ → List AnyCall → ℕ
unfinished_by n [] = n
unfinished_by n (c ∷ cs) = unfinished_by (unfinished_after c.received.report n c.received) cs

-- THE CLAIM
unfoldable pub EveryCall : Type 0
EveryCall =
    ((own : Features) → agrees (started own) ≡ true)
    × ((st : State) (s piece : List ℕ) (r : Received) (s' : List ℕ) → Answered st s piece r s' → Sound st s piece r s')
    × ((own : Features) (cs : List AnyCall) → Handed (started own) cs → all_taken cs ≡ all_reported cs + unfinished_by 0 cs)
