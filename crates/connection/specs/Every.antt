-- What holds of every call and of every try to switch, whatever its state, store and piece: 01's rules for a receiver, of the part in use.
use Rattle.std.specs.Prelude.{◌≡◌, List, [], ◌∷◌, Bool, true, false, cond, ℕ, ◌+◌, ◌≤◌, ◌<◌, length}
use Rattle.refusal.specs.declared.Numbers.{Numbers}
use Rattle.refusal.specs.declared.Refusal.TheVariants as refusal
use Rattle.refusal.specs.Refusals.{refused, numbers_of, judged_by, contradiction}
use Rattle.banner.specs.declared.Features.{Features}
use Rattle.banner.specs.Banner.{judge_own}
use Rattle.preamble.specs.declared.Header.{Header}
use Rattle.stream.specs.declared.Event.TheVariants as event
use Rattle.stream.specs.Events.{role_of, of_frame_end, passing}
use Rattle.receiver.specs.declared.Known.{Known}
use Rattle.receiver.specs.declared.State as crc-state
use Rattle.receiver.specs.Report.{Report}
use Rattle.std.specs.Prelude.{Some, None}
use Rattle.receiver.specs.State as crc
use Rattle.receiver.specs.Step as crc-step
use Rattle.receiver.specs.Every as crc-every
use Rattle.secure.specs.Layout.{first_length, second_part_length, sealed_length}
use Rattle.sealed_receiver.specs.declared.Stage.{Stage}
use Rattle.sealed_receiver.specs.declared.Stage.TheVariants as stage
use Rattle.sealed_receiver.specs.declared.State as sealed-state
use Rattle.sealed_receiver.specs.State as sealed
use Rattle.sealed_receiver.specs.Step as sealed-step
use Rattle.connection.specs.declared.Mode.{Mode}
use Rattle.connection.specs.declared.Mode.TheVariants as mode
use Rattle.connection.specs.declared.State.{State}
use Rattle.connection.specs.declared.Received.{Received}
use Rattle.connection.specs.declared.Switched.{Switched}
use Rattle.connection.specs.declared.Started.{Started}
use Rattle.connection.specs.Step.{is_secure, begun, agrees, Answered, SwitchedWith, StartedWith}
use Rattle.connection.specs.Calls.{Try}

-- ---- the part in use

abbrev pub refused_in_use : State → Bool
refused_in_use st = cond (is_secure st.mode) (sealed.is_refused st.sealed.position.stage) (crc.is_refused st.crc.position.stage)

-- the store that its unfinished frame needs
abbrev pub needed_in_use : State → ℕ
needed_in_use st = cond (is_secure st.mode) (sealed-step.needed_by st.sealed) (crc-step.needed_by st.crc)

abbrev pub short_store : State → Numbers
short_store st = numbers_of (refusal.StoreShort (needed_in_use st))

-- refused from now on, with these numbers
abbrev pub refused_connection : State → Numbers → State
refused_connection st n =
    cond (is_secure st.mode) (record { mode = st.mode; ready = st.ready; crc = st.crc; sealed = sealed-step.refused_state n })
    (record { mode = st.mode; ready = st.ready; crc = crc-step.refused_state st.crc.known n; sealed = st.sealed })

-- not refused, its fields in order, and the store long enough
pub record Running (st : State) (s : List ℕ) : Type 0 where
  pub agree : agrees st ≡ true
  pub live : refused_in_use st ≡ false
  pub fits : needed_in_use st ≤ length s

-- ---- every call

-- the whole answer: the state, the bytes taken, the refusal, and the store as it was
pub record Refuses (st : State) (n : Numbers) (s : List ℕ) (r : Received) (s' : List ℕ) : Type 0 where
  pub state : r.state ≡ st
  pub taken : r.taken ≡ 0
  pub report : r.report ≡ Some (event.Refused n)
  pub store : s' ≡ s

pub record Sound (st : State) (s piece : List ℕ) (r : Received) (s' : List ℕ) : Type 0 where
  -- 26 exactly where the fields contradict each other: it takes nothing, changes nothing and hands the state back
  pub contradicts : agrees st ≡ false → Refuses st contradiction s r s'
  pub never26 : agrees st ≡ true → r.report ≡ Some (event.Refused contradiction) → ⊥
  -- and a call that does not give it hands back no such state
  pub agreeing : agrees st ≡ true → agrees r.state ≡ true
  -- any other refusal stays: every later call, with any store and any piece, takes nothing, changes nothing and repeats it
  pub stays : (n : Numbers) → agrees st ≡ true → r.report ≡ Some (event.Refused n)
      → (s₂ piece₂ : List ℕ) (r₂ : Received) (s₃ : List ℕ) → Answered r.state s₂ piece₂ r₂ s₃ → Refuses r.state n s₂ r₂ s₃
  -- a store that became too short for the frame under way: 10 with the length that it needs, and nothing is taken or changed
  pub short : agrees st ≡ true → refused_in_use st ≡ false → length s < needed_in_use st → Refuses (refused_connection st (short_store st)) (short_store st) s r s'
  -- where it runs, a piece that is not empty gives up at least one byte, and an empty one asks for more
  pub progress : Running st s → 0 < length piece → 0 < r.taken
  pub nothing : Running st s → length piece ≡ 0 → (r.taken ≡ 0) × (r.report ≡ None)

-- ---- every start and every try to switch

-- a start hands back the state from which the lists of calls begin, one that agrees, and tells whether our own features are refused
pub record Starts (own : Features) (b : Started) : Type 0 where
  pub state : b.state ≡ begun own
  pub judgement : judged_by b.judgement ≡ judge_own own.supported own.required
  pub agreeing : agrees b.state ≡ true

pub record SoundSwitch (st : State) (r : Switched) : Type 0 where
  -- 26 exactly where the fields contradict each other; refused, the state is handed back as it was
  pub contradicts : agrees st ≡ false → judged_by r.judgement ≡ refused contradiction
  pub never26 : agrees st ≡ true → judged_by r.judgement ≡ refused contradiction → ⊥
  pub unchanged : (n : Numbers) → judged_by r.judgement ≡ refused n → r.state ≡ st
  pub agreeing : agrees st ≡ true → agrees r.state ≡ true
  -- a refused stream stays refused: no switch is made on it
  pub stays : agrees st ≡ true → refused_in_use st ≡ true → judged_by r.judgement ≡ refused (numbers_of refusal.SwitchRefused)

-- ---- bytes add up, over calls that share nothing but the state: any pieces, any stores, and tries to switch among them

-- what a call was lent, what it handed back, and the store as it left it
pub record Lent : Type 0 where
  pub piece : List ℕ
  pub store : List ℕ
  pub received : Received
  pub after : List ℕ

pub data AnyCall : Type 0 where
  taking : Lent → AnyCall
  switching : Try → AnyCall

abbrev pub Handed : State → List AnyCall → Type 0
Handed st [] = Unit {0}
Handed st (taking c ∷ cs) = Answered st c.store c.piece c.received c.after × Handed c.received.state cs
Handed st (switching c ∷ cs) = SwitchedWith st c.key c.receiving c.sending c.switched × Handed c.switched.state cs

abbrev pub all_taken : List AnyCall → ℕ
all_taken [] = 0
all_taken (taking c ∷ cs) = c.received.taken + all_taken cs
all_taken (switching c ∷ cs) = all_taken cs

-- what a report says of the bytes up to it: behind a switch a frame's length on the wire as a sealed one
abbrev pub sealed_length_of : Report → ℕ
sealed_length_of None = 0
sealed_length_of (Some e) = of_frame_end sealed_length (role_of e)

abbrev pub length_by : Mode → Report → Known → ℕ
length_by mode.Crc r v = crc-every.length_of r v
length_by mode.Secure r v = sealed_length_of r

abbrev pub all_reported : List AnyCall → ℕ
all_reported [] = 0
all_reported (taking c ∷ cs) = length_by c.received.state.mode c.received.report c.received.state.crc.known + all_reported cs
all_reported (switching c ∷ cs) = all_reported cs

-- the bytes of an unfinished sealed frame that came before the part
abbrev pub came_before : Stage → Header → ℕ
came_before stage.First h = 0
came_before stage.Second h = first_length
came_before stage.Last h = first_length + second_part_length h
came_before stage.Refused h = 0

-- THE UNFINISHED PART, a function of the state
abbrev pub unfinished_in : Mode → crc-state.State → sealed-state.State → ℕ
unfinished_in mode.Crc c x = crc-every.unfinished c
unfinished_in mode.Secure c x = came_before x.position.stage x.known.header + x.position.got

abbrev pub unfinished : State → ℕ
unfinished st = unfinished_in st.mode st.crc st.sealed

-- with a refusal, the bytes of its banner or frame, as of a receiver of crc frames
abbrev pub unfinished_after : Report → ℕ → Received → ℕ
unfinished_after None n r = unfinished r.state
unfinished_after (Some e) n r = passing e (unfinished r.state) (λ m. n + r.taken)

abbrev pub unfinished_by : ℕ → List AnyCall → ℕ
unfinished_by n [] = n
unfinished_by n (taking c ∷ cs) = unfinished_by (unfinished_after c.received.report n c.received) cs
unfinished_by n (switching c ∷ cs) = unfinished_by n cs

-- THE CLAIM
unfoldable pub EveryCall : Type 0
EveryCall =
    ((own : Features) (b : Started) → StartedWith own b → Starts own b)
    × ((st : State) (s piece : List ℕ) (r : Received) (s' : List ℕ) → Answered st s piece r s' → Sound st s piece r s')
    × ((st : State) (key receiving sending : List ℕ) (r : Switched) → SwitchedWith st key receiving sending r → SoundSwitch st r)
    × ((own : Features) (cs : List AnyCall) → Handed (begun own) cs → all_taken cs ≡ all_reported cs + unfinished_by 0 cs)
