-- No part is opened with a nonce used before (02, K11, of the receiving side): over any calls from the switch on, refused ones among them.
use Rattle.std.specs.Prelude.{◌≡◌, List, [], ◌∷◌, ◌++◌, Bool, true, false, cond, ℕ, ◌+◌, length, ltb}
use Rattle.refusal.specs.declared.Refusal.TheVariants as refusal
use Rattle.refusal.specs.Refusals.{Judged, fine, refused, numbers_of, judged_by}
use Rattle.preamble.specs.declared.Header.{Header}
use Rattle.receiver.specs.Report.{Report}
use Rattle.std.specs.Prelude.{Some, None}
use Rattle.gcm.specs.Gcm.{Opened, opened}
use Rattle.secure.specs.Reading.{judge_nonce, zeroed}
use Rattle.sealed_receiver.specs.declared.Stage.{Stage}
use Rattle.sealed_receiver.specs.declared.Stage.TheVariants as stage
use Rattle.sealed_receiver.specs.declared.Receiving.{Receiving}
use Rattle.sealed_receiver.specs.declared.Known.{Known}
use Rattle.sealed_receiver.specs.declared.State as sealed
use Rattle.sealed_receiver.specs.State.{is_refused, opened_of}
use Rattle.sealed_receiver.specs.State as sealed-states
use Rattle.sealed_receiver.specs.Step.{with_opened, Stepped, silent, refuse, unless_refused, judge_opened, text_of, after_first_part, after_second_part, after_last_part, sealed_in, absorbed, stored, size, on_byte, needed_by}
use Rattle.sealed_builder.specs.Nonces.{AllDifferent}
use Rattle.connection.specs.declared.State.{State}
use Rattle.connection.specs.Step.{is_secure, ready_rule, SwitchedWith}
use Rattle.connection.specs.Calls.{Try}
use Rattle.connection.specs.Every.{AnyCall, taking, switching, Handed}

-- ---- what is opened

-- with which key and nonce, and which bytes
pub record Opening : Type 0 where
  pub key : List ℕ
  pub nonce : List ℕ
  pub bytes : List ℕ

abbrev pub result_of : Opening → Opened
result_of o = opened o.key o.nonce o.bytes

-- the part whose last byte came; block holds a first part's bytes
abbrev pub part_bytes : Stage → List ℕ → Header → List ℕ → List ℕ
part_bytes stage.First block h s = block
part_bytes stage.Second block h s = sealed_in stage.Second h s
part_bytes stage.Last block h s = sealed_in stage.Last h s
part_bytes stage.Refused block h s = []

-- unless its nonce would repeat
abbrev pub opening_by : Judged → Receiving → List ℕ → List Opening
opening_by fine r bytes = record { key = r.key; nonce = r.nonce; bytes = bytes } ∷ []
opening_by (refused n) r bytes = []

abbrev pub opening_at : Bool → sealed.State → List ℕ → List Opening
opening_at true st s = []
opening_at false st s =
    opening_by (judge_nonce (opened_of st.known.receiving)) st.known.receiving (part_bytes st.position.stage st.position.block st.known.header s)

-- A BYTE opens a part where it is the part's last one
unfoldable pub openings_of : sealed.State → List ℕ → ℕ → List Opening
openings_of st s b = opening_at (ltb (st.position.got + 1) (size st)) (absorbed st (b ∷ [])) (stored st s (b ∷ []))

-- ---- and nothing else: what a byte comes to by the results of these openings alone

-- what 18 and 17 leave in the store
abbrev pub store_left_by : Stage → Header → List ℕ → List ℕ
store_left_by stage.First h s = s
store_left_by stage.Second h s = zeroed h s
store_left_by stage.Last h s = zeroed h s
store_left_by stage.Refused h s = s

abbrev pub behind_by : Stage → Known → List ℕ → List ℕ → Stepped
behind_by stage.First v text s = after_first_part v text s
behind_by stage.Second v text s = after_second_part v text s
behind_by stage.Last v text s = after_last_part v text s
behind_by stage.Refused v text s = refuse (numbers_of refusal.NoncesSpent) s

-- the last byte of a part: 18 where nothing was opened, 17, or what its text leads to
abbrev pub finish_by : List Opened → Stage → Known → List ℕ → Stepped
finish_by [] k v s = refuse (numbers_of refusal.NoncesSpent) (store_left_by k v.header s)
finish_by (o ∷ os) k v s = unless_refused (judge_opened o) (store_left_by k v.header s) (behind_by k (with_opened v) (text_of o) s)

abbrev pub reached_by : List Opened → Bool → sealed.State → List ℕ → Stepped
reached_by os true st s = silent st s
reached_by os false st s = finish_by os st.position.stage st.known s

abbrev pub results : List Opening → List Opened
results [] = []
results (o ∷ os) = result_of o ∷ results os

unfoldable pub byte_by : List Opened → sealed.State → List ℕ → ℕ → Stepped
byte_by os st s b = reached_by os (ltb (st.position.got + 1) (size st)) (absorbed st (b ∷ [])) (stored st s (b ∷ []))

-- ---- a call

-- a piece: byte after byte, up to and including the first that gives a report
abbrev pub unless_reported : Report → List Opening → List Opening
unless_reported None os = os
unless_reported (Some e) os = []

unfoldable pub openings_in : sealed.State → List ℕ → List ℕ → List Opening
openings_in st s [] = []
openings_in st s (b ∷ bs) = openings_of st s b ++ unless_reported (on_byte st s b).report (openings_in (on_byte st s b).state (on_byte st s b).store bs)

-- nothing where the call gives 26, repeats a refusal, or finds the store too short
abbrev pub openings_on : sealed.State → List ℕ → List ℕ → List Opening
openings_on st s piece =
    cond (sealed-states.agrees st) (cond (is_refused st.position.stage) [] (cond (ltb (length s) (needed_by st)) [] (openings_in st s piece))) []

-- and nothing before a switch
unfoldable pub openings_by : State → List ℕ → List ℕ → List Opening
openings_by st s piece = cond (ready_rule st) (cond (is_secure st.mode) (openings_on st.sealed s piece) []) []

-- ---- lists of calls, each given the state that the last one handed back: with any piece and any store, or a try to switch

abbrev pub openings : State → List AnyCall → List Opening
openings st [] = []
openings st (taking c ∷ cs) = openings_by st c.store c.piece ++ openings c.received.state cs
openings st (switching c ∷ cs) = openings c.switched.state cs

abbrev pub state_after : State → List AnyCall → State
state_after st [] = st
state_after st (taking c ∷ cs) = state_after c.received.state cs
state_after st (switching c ∷ cs) = state_after c.switched.state cs

-- ---- the claim

abbrev pub opening_nonces : List Opening → List (List ℕ)
opening_nonces [] = []
opening_nonces (o ∷ os) = o.nonce ∷ opening_nonces os

abbrev pub Under : List ℕ → List Opening → Type 0
Under key [] = Unit {0}
Under key (o ∷ os) = (o.key ≡ key) × Under key os

-- a switch that was made
pub record Made (st : State) (c : Try) : Type 0 where
  pub switched : SwitchedWith st c.key c.receiving c.sending c.switched
  pub judgement : judged_by c.switched.judgement ≡ fine

pub record NoNonceOpenedTwice : Type 0 where
  -- the nonces are all different, and all parts are opened under the switch's key
  pub different : (st : State) (c : Try) (cs : List AnyCall) → Made st c → Handed c.switched.state cs → AllDifferent (opening_nonces (openings c.switched.state cs))
  pub one_key : (st : State) (c : Try) (cs : List AnyCall) → Made st c → Handed c.switched.state cs → Under c.key (openings c.switched.state cs)
  -- as many parts were opened as the state that they left says, unless it is refused, which keeps no count
  pub counted : (st : State) (c : Try) (cs : List AnyCall) → Made st c → Handed c.switched.state cs
      → is_refused (state_after c.switched.state cs).sealed.position.stage ≡ false
      → opened_of (state_after c.switched.state cs).sealed.known.receiving ≡ length (openings c.switched.state cs)
  -- these are all: what a byte comes to is settled by what they give
  pub only : (st : sealed.State) (s : List ℕ) (b : ℕ) → is_refused st.position.stage ≡ false → on_byte st s b ≡ byte_by (results (openings_of st s b)) st s b
