-- 02's table of handshake steps (K7; the states are those of 004's two diagrams), to be read beside it.
use Rattle.std.specs.Prelude.{Option, Some, None, Bool, true, cond, not, ◌&&◌, List, [], ◌∷◌, ◌++◌, ℕ, eqb}
use Rattle.handshake.specs.declared.State.{State}
use Rattle.handshake.specs.declared.State.TheVariants.{Hello, Auth, More, Signature, Session, Ready, Standby, Wait, Closed}
use Rattle.handshake.specs.declared.AuthVerdict.{AuthVerdict}
use Rattle.handshake.specs.declared.AuthVerdict.TheVariants as verdict
use Rattle.handshake.specs.declared.Verdict.{Verdict}

-- what is asked of the caller on the way, and the answer that leads there
pub data Asked : Type 0 where
  nothing : Asked
  auth : AuthVerdict → Asked
  signature_good : Asked
  features_there : Asked
  features_missing : Asked
  reconnect_accepted : Asked
  reconnect_turned_down : Asked

-- an auth verdict by its number
abbrev pub auth_of : ℕ → AuthVerdict
auth_of n = cond (eqb n 0) verdict.Stay (cond (eqb n 1) verdict.More (cond (eqb n 2) verdict.Signature verdict.Standby))

pub record Row : Type 0 where
  pub from : State
  pub tag : ℕ
  pub asked : Asked
  pub to : State

abbrev row : State → ℕ → Asked → State → Row
row from tag asked to = record { from = from; tag = tag; asked = asked; to = to }

-- THE TABLE. Both sides
abbrev pub both_rows : List Row
both_rows =
    row Hello 1 nothing Auth
    ∷ row Signature 7 signature_good Session
    ∷ row Ready 17 nothing Ready
    ∷ row Ready 18 nothing Ready
    ∷ row Ready 19 nothing Ready
    ∷ row Ready 20 nothing Ready
    ∷ []

-- client
abbrev pub client_rows : List Row
client_rows =
    both_rows
    ++ row Auth 3 nothing Auth
    ∷ row Auth 4 nothing Auth
    ∷ row Auth 6 nothing Signature
    ∷ row Session 9 nothing Ready
    ∷ row Session 15 nothing Ready
    ∷ row Session 10 nothing Closed
    ∷ row Session 16 nothing Wait
    ∷ row Session 12 nothing Session
    ∷ row Session 13 nothing Session
    ∷ row Session 14 nothing Session
    ∷ []

-- server
abbrev pub server_rows : List Row
server_rows =
    both_rows
    ++ row Auth 2 (auth verdict.More) More
    ∷ row Auth 2 (auth verdict.Signature) Signature
    ∷ row Auth 2 (auth verdict.Standby) Standby
    ∷ row Auth 2 (auth verdict.Stay) Auth
    ∷ row More 5 (auth verdict.More) More
    ∷ row More 5 (auth verdict.Signature) Signature
    ∷ row More 5 (auth verdict.Standby) Standby
    ∷ row More 5 (auth verdict.Stay) More
    ∷ row Session 8 features_there Ready
    ∷ row Session 8 features_missing Closed
    ∷ row Session 11 reconnect_accepted Ready
    ∷ row Session 11 reconnect_turned_down Session
    ∷ []

-- ---- what the table has for a state, a tag and a verdict

-- states and auth verdicts by number, to compare them
abbrev pub state_number : State → ℕ
state_number Hello = 0
state_number Auth = 1
state_number More = 2
state_number Signature = 3
state_number Session = 4
state_number Ready = 5
state_number Standby = 6
state_number Wait = 7
state_number Closed = 8

abbrev pub auth_number : AuthVerdict → ℕ
auth_number verdict.Stay = 0
auth_number verdict.More = 1
auth_number verdict.Signature = 2
auth_number verdict.Standby = 3

-- a verdict that the step doesn't ask for isn't looked at
abbrev pub holds : Asked → Verdict → Bool
holds nothing v = true
holds (auth a) v = eqb (auth_number a) (auth_number v.auth)
holds signature_good v = v.signature
holds features_there v = v.features
holds features_missing v = not v.features
holds reconnect_accepted v = v.reconnect
holds reconnect_turned_down v = not v.reconnect

abbrev pub leads : Row → State → ℕ → Verdict → Bool
leads r s tag v = eqb (state_number r.from) (state_number s) && (holds r.asked v && eqb tag r.tag)

unfoldable pub find : List Row → State → ℕ → Verdict → Option State
find [] s tag v = None
find (r ∷ rs) s tag v = cond (leads r s tag v) (Some r.to) (find rs s tag v)

-- a server's auth request by the caller's verdict
abbrev pub led_to : AuthVerdict → State → State
led_to verdict.Stay stay = stay
led_to verdict.More stay = More
led_to verdict.Signature stay = Signature
led_to verdict.Standby stay = Standby
