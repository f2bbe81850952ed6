-- The part of a connection for sealed frames over words: 18 numbers, the bytes of a first part, the key and the nonce of the next part. A call promises the words of
-- what `answer` of the receiver of sealed frames says.
use Rattle.std.specs.Prelude.{◌≡◌, List, [], ◌∷◌, ◌++◌, Bool, true, cond, ℕ, ◌≤◌, eqb, get_or}
use Rattle.stream.specs.declared.Event.TheVariants as event
use Rattle.receiver.specs.Report.{Report}
use Rattle.std.specs.Prelude.{Some}
use Rattle.refusal.specs.Refusals.{contradiction}
use Rattle.sealed_receiver.specs.declared.Stage.{Stage}
use Rattle.sealed_receiver.specs.declared.Stage.TheVariants as stage
use Rattle.sealed_receiver.specs.declared.State.{State}
use Rattle.sealed_receiver.specs.State.{receiving_state}
use Rattle.sealed_receiver.specs.Step.{answer}
use Rattle.abi.specs.Words.{within, Within, max_u8, mark_number, mark_of, refusal_words, refusal_at, header_words, header_at, header_limits}
use Rattle.abi_receiver.specs.Words.{report_words, report_of}

-- ---- states. Places of their numbers: 0 stage (0 first part, 1 second part, 2 last part, 3 refused), 1 the mark that all nonces are used, 2 to 11 header,
-- 12 to 15 refusal, 16 got, 17 how many parts were opened

pub record AbiSecure : Type 0 where
  pub numbers : List ℕ
  pub first : List ℕ
  pub key : List ℕ
  pub nonce : List ℕ

abbrev pub abi_secure : List ℕ → List ℕ → List ℕ → List ℕ → AbiSecure
abi_secure ws b k n = record { numbers = ws; first = b; key = k; nonce = n }

abbrev pub stage_number : Stage → ℕ
stage_number stage.First = 0
stage_number stage.Second = 1
stage_number stage.Last = 2
stage_number stage.Refused = 3

-- 3, and any number above it, which `fits` rules out
unfoldable pub stage_of : ℕ → Stage
stage_of n = cond (eqb n 0) stage.First (cond (eqb n 1) stage.Second (cond (eqb n 2) stage.Last stage.Refused))

abbrev pub state_with : Stage → AbiSecure → State
state_with stage p = record {
  position = record { stage = stage; got = get_or p.numbers 16 0; block = p.first };
  known = record {
    receiving = receiving_state p.key p.nonce (get_or p.numbers 17 0) (mark_of (get_or p.numbers 1 0));
    header = header_at 2 p.numbers;
    refusal = refusal_at 12 p.numbers;
  };
}

-- THE STATE THAT WORDS STAND FOR
unfoldable pub secure_of : AbiSecure → State
secure_of p = state_with (stage_of (get_or p.numbers 0 0)) p

abbrev pub numbers_with : ℕ → ℕ → State → List ℕ
numbers_with stage exhausted st =
    stage ∷ exhausted
    ∷ (header_words st.known.header ++ (refusal_words st.known.refusal ++ (st.position.got ∷ st.known.receiving.opened ∷ [])))

unfoldable pub secure_numbers : State → List ℕ
secure_numbers st = numbers_with (stage_number st.position.stage) (mark_number st.known.receiving.exhausted) st

-- AND THE WORDS OF A STATE
abbrev pub with_bytes : List ℕ → State → AbiSecure
with_bytes ws st = abi_secure ws st.position.block st.known.receiving.key st.known.receiving.nonce

abbrev pub abi_of : State → AbiSecure
abi_of st = with_bytes (secure_numbers st) st

-- the limits of the fields that are narrower than a word
abbrev pub secure_limits : List ℕ
secure_limits = 3 ∷ 1 ∷ (header_limits ++ (max_u8 ∷ []))

-- EVERY NUMBER IS ONE OF ITS FIELD
abbrev pub fits : List ℕ → Bool
fits ws = within secure_limits 0 ws

-- the fields of a state are of their types
pub record Typed (st : State) : Type 0 where
  pub header : Within header_limits 0 (header_words st.known.header)
  pub refusal : st.known.refusal.number ≤ max_u8

-- the words of a state, and that they stand for it
pub record AbiOf (st : State) (p : AbiSecure) : Type 0 where
  pub words : p ≡ abi_of st
  pub back : secure_of p ≡ st
  pub fit : fits p.numbers ≡ true

-- ---- calls

-- what a call hands back
pub record SecureReceived : Type 0 where
  pub state : AbiSecure
  pub report : List ℕ

abbrev pub handed : AbiSecure → List ℕ → SecureReceived
handed p r = record { state = p; report = r }

-- WHAT A CALL ANSWERS: takes nothing, hands the words back as they came, and says 26 where a number is beyond its field
unfoldable pub received_by : AbiSecure → List ℕ → List ℕ → SecureReceived
received_by p s piece =
    cond (fits p.numbers)
    (handed (abi_of (answer (secure_of p) s piece).received.state) (report_words (answer (secure_of p) s piece).received.taken (answer (secure_of p) s piece).received.report))
    (handed p (report_words 0 (Some (event.Refused contradiction))))

unfoldable pub store_by : AbiSecure → List ℕ → List ℕ → List ℕ
store_by p s piece = cond (fits p.numbers) (answer (secure_of p) s piece).store s

abbrev pub report_by : AbiSecure → List ℕ → List ℕ → Report
report_by p s piece = cond (fits p.numbers) (answer (secure_of p) s piece).received.report (Some (event.Refused contradiction))

-- THE PROMISE OF A CALL
pub record SecureAnswered (p : AbiSecure) (s piece : List ℕ) (o : SecureReceived) (s' : List ℕ) : Type 0 where
  pub received : o ≡ received_by p s piece
  pub store : s' ≡ store_by p s piece
  -- the words that it hands back stand for the state that was answered
  pub back : fits p.numbers ≡ true → AbiOf (answer (secure_of p) s piece).received.state o.state
  -- and those of its report for what it reports
  pub tells : report_of o.report ≡ report_by p s piece

-- and of one that answers the kind of its report
pub record SecureReceivedBy (p : AbiSecure) (s piece : List ℕ) (n : ℕ) (o : SecureReceived) (s' : List ℕ) : Type 0 where
  pub kind : n ≡ get_or o.report 0 0
  pub answered : SecureAnswered p s piece o s'
