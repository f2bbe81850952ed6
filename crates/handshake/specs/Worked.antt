-- Worked runs, what each state takes, and worked picks, computed from the definitions as one table. They tell the table apart from near ones.
use Rattle.std.specs.Prelude.{Option, Some, None, Ok, Err, ◌≡◌, Bool, true, false, List, [], ◌∷◌, ◌++◌, ℕ, zero, suc, ◌+◌, replicate}
use Rattle.refusal.specs.Refusals.{row}
use Rattle.handshake.specs.declared.State.{State}
use Rattle.handshake.specs.declared.State.TheVariants.{Hello, Auth, More, Signature, Session, Ready, Standby, Wait, Closed}
use Rattle.handshake.specs.declared.AuthVerdict.{AuthVerdict}
use Rattle.handshake.specs.declared.AuthVerdict.TheVariants as verdict
use Rattle.handshake.specs.declared.Verdict.{Verdict}
use Rattle.handshake.specs.declared.Step.{Step}
use Rattle.handshake.specs.Table.{find}
use Rattle.handshake.specs.Steps.{step_by}
use Rattle.handshake.specs.Runs.{Side, client, server, rows_of}
use Rattle.handshake.specs.Pick.{pick_of}

-- the caller says yes to all, or no to all
abbrev pub yes : AuthVerdict → Verdict
yes a = record { auth = a; signature = true; features = true; reconnect = true }

abbrev pub no : AuthVerdict → Verdict
no a = record { auth = a; signature = false; features = false; reconnect = false }

pub record Came : Type 0 where
  pub tag : ℕ
  pub verdict : Verdict
  pub answer : Step

-- a tag and the verdict on it lead to a state, or are refused
abbrev goes : ℕ → Verdict → State → Came
goes tag v s = record { tag = tag; verdict = v; answer = record { state = s; report = Ok tt } }

abbrev fails : ℕ → Verdict → Came
fails tag v = record { tag = tag; verdict = v; answer = record { state = Closed; report = Err (row 21 tag 0 0) } }

abbrev pub Right : Side → State → List Came → Type 0
Right side s [] = Unit {0}
Right side s (c ∷ cs) = (c.answer ≡ step_by (find (rows_of side) s c.tag c.verdict) c.tag) × Right side c.answer.state cs

pub record Example : Type 0 where
  pub side : Side
  pub steps : List Came

abbrev run : Side → List Came → Example
run side steps = record { side = side; steps = steps }

unfoldable pub examples : List Example
examples =
    -- a client whose first method is turned away; a verdict that is not asked for is not looked at
    run client (goes 1 (no verdict.Standby) Auth ∷ goes 3 (no verdict.Standby) Auth ∷ goes 4 (no verdict.Stay) Auth ∷ goes 6 (no verdict.More) Signature
    ∷ goes 7 (yes verdict.Stay) Session ∷ goes 9 (no verdict.Stay) Ready ∷ goes 17 (no verdict.Stay) Ready ∷ goes 18 (no verdict.Stay) Ready
    ∷ goes 19 (no verdict.Stay) Ready ∷ goes 20 (no verdict.Stay) Ready ∷ fails 16 (yes verdict.Stay) ∷ fails 1 (yes verdict.Stay) ∷ [])
    -- one that reconnects: reset and both retries stay, 15 is ready
    ∷ run client (goes 1 (yes verdict.Stay) Auth ∷ goes 6 (yes verdict.Stay) Signature ∷ goes 7 (yes verdict.Stay) Session ∷ goes 13 (yes verdict.Stay) Session
    ∷ goes 14 (yes verdict.Stay) Session ∷ goes 12 (yes verdict.Stay) Session ∷ goes 15 (yes verdict.Stay) Ready ∷ fails 9 (yes verdict.Stay) ∷ [])
    -- 16 waits, and nothing is taken then; 10 closes with no refusal
    ∷ run client (goes 1 (yes verdict.Stay) Auth ∷ goes 6 (yes verdict.Stay) Signature ∷ goes 7 (yes verdict.Stay) Session ∷ goes 16 (yes verdict.Stay) Wait
    ∷ fails 9 (yes verdict.Stay) ∷ [])
    ∷ run client (goes 1 (yes verdict.Stay) Auth ∷ goes 6 (yes verdict.Stay) Signature ∷ goes 7 (yes verdict.Stay) Session ∷ goes 10 (yes verdict.Stay) Closed
    ∷ fails 10 (yes verdict.Stay) ∷ [])
    -- a signature that the caller calls bad; a server's tag at a client; a tag that comes too early
    ∷ run client (goes 1 (yes verdict.Stay) Auth ∷ goes 6 (yes verdict.Stay) Signature ∷ fails 7 (no verdict.Signature) ∷ [])
    ∷ run client (goes 1 (yes verdict.Stay) Auth ∷ fails 2 (yes verdict.Signature) ∷ [])
    ∷ run client (goes 1 (yes verdict.Stay) Auth ∷ fails 9 (yes verdict.Signature) ∷ [])
    ∷ run client (fails 7 (yes verdict.Signature) ∷ [])
    -- a server: bad method stays, then more, and more again
    ∷ run server (goes 1 (no verdict.Stay) Auth ∷ goes 2 (no verdict.Stay) Auth ∷ goes 2 (no verdict.More) More ∷ goes 5 (no verdict.Stay) More
    ∷ goes 5 (no verdict.More) More ∷ goes 5 (no verdict.Signature) Signature ∷ goes 7 (yes verdict.Stay) Session ∷ goes 8 (yes verdict.Stay) Ready
    ∷ goes 20 (no verdict.Standby) Ready ∷ fails 8 (yes verdict.Stay) ∷ [])
    -- an auth request in more, and more in auth
    ∷ run server (goes 1 (no verdict.Stay) Auth ∷ goes 2 (no verdict.More) More ∷ fails 2 (yes verdict.Signature) ∷ [])
    ∷ run server (goes 1 (no verdict.Stay) Auth ∷ fails 5 (yes verdict.Signature) ∷ [])
    -- standby from both, and nothing is taken then
    ∷ run server (goes 1 (no verdict.Stay) Auth ∷ goes 2 (no verdict.Standby) Standby ∷ fails 2 (yes verdict.Signature) ∷ [])
    ∷ run server (goes 1 (no verdict.Stay) Auth ∷ goes 2 (no verdict.More) More ∷ goes 5 (no verdict.Standby) Standby ∷ fails 5 (yes verdict.Signature) ∷ [])
    -- features missing; a reconnect turned down stays, and one accepted is ready
    ∷ run server (goes 1 (no verdict.Stay) Auth ∷ goes 2 (no verdict.Signature) Signature ∷ goes 7 (yes verdict.Stay) Session ∷ goes 8 (no verdict.Stay) Closed
    ∷ fails 8 (yes verdict.Stay) ∷ [])
    ∷ run server (goes 1 (no verdict.Stay) Auth ∷ goes 2 (no verdict.Signature) Signature ∷ goes 7 (yes verdict.Stay) Session ∷ goes 11 (no verdict.Stay) Session
    ∷ goes 11 (yes verdict.Stay) Ready ∷ goes 19 (no verdict.Stay) Ready ∷ [])
    -- a client's tags at a server
    ∷ run server (goes 1 (no verdict.Stay) Auth ∷ fails 6 (yes verdict.Signature) ∷ [])
    ∷ run server (goes 1 (no verdict.Stay) Auth ∷ goes 2 (no verdict.Signature) Signature ∷ goes 7 (yes verdict.Stay) Session ∷ fails 9 (yes verdict.Stay) ∷ [])
    ∷ []

abbrev pub AllRight : List Example → Type 0
AllRight [] = Unit {0}
AllRight (x ∷ xs) = Right x.side Hello x.steps × AllRight xs

-- ---- each state with every tag that a byte can be: what it takes and where that leads. All else is refused

pub record Transition : Type 0 where
  pub tag : ℕ
  pub to : State

infix 20 ◌⇒◌
abbrev ◌⇒◌ : ℕ → State → Transition
◌⇒◌ tag to = record { tag = tag; to = to }

abbrev added : Option State → ℕ → List Transition → List Transition
added (Some s) tag ws = (tag ⇒ s) ∷ ws
added None tag ws = ws

-- the transitions from a state, of n tags from one on
unfoldable pub transitions_from : ℕ → ℕ → Side → State → Verdict → List Transition
transitions_from zero tag side s v = []
transitions_from (suc n) tag side s v = added (find (rows_of side) s tag v) tag (transitions_from n (tag + 1) side s v)

abbrev takes : Side → State → Verdict → List Transition
takes side s v = transitions_from 256 0 side s v

abbrev none : List Transition
none = []

-- whatever the verdict, where the state asks for none
abbrev pub Unasked : Verdict → Type 0
Unasked v =
    (takes client Hello v ≡ (1 ⇒ Auth) ∷ [])
    × (takes client Auth v ≡ (3 ⇒ Auth) ∷ (4 ⇒ Auth) ∷ (6 ⇒ Signature) ∷ [])
    × (takes client More v ≡ none)
    × (takes client Session v ≡ (9 ⇒ Ready) ∷ (10 ⇒ Closed) ∷ (12 ⇒ Session) ∷ (13 ⇒ Session) ∷ (14 ⇒ Session) ∷ (15 ⇒ Ready) ∷ (16 ⇒ Wait) ∷ [])
    × (takes client Ready v ≡ (17 ⇒ Ready) ∷ (18 ⇒ Ready) ∷ (19 ⇒ Ready) ∷ (20 ⇒ Ready) ∷ [])
    × (takes client Standby v ≡ none)
    × (takes client Wait v ≡ none)
    × (takes client Closed v ≡ none)
    × (takes server Hello v ≡ (1 ⇒ Auth) ∷ [])
    × (takes server Ready v ≡ (17 ⇒ Ready) ∷ (18 ⇒ Ready) ∷ (19 ⇒ Ready) ∷ (20 ⇒ Ready) ∷ [])
    × (takes server Standby v ≡ none)
    × (takes server Wait v ≡ none)
    × (takes server Closed v ≡ none)

-- by the signature, whatever the rest of the verdict
abbrev pub Signed : AuthVerdict → Bool → Bool → Type 0
Signed a f k =
    (takes client Signature (record { auth = a; signature = true; features = f; reconnect = k }) ≡ (7 ⇒ Session) ∷ [])
    × (takes client Signature (record { auth = a; signature = false; features = f; reconnect = k }) ≡ none)
    × (takes server Signature (record { auth = a; signature = true; features = f; reconnect = k }) ≡ (7 ⇒ Session) ∷ [])
    × (takes server Signature (record { auth = a; signature = false; features = f; reconnect = k }) ≡ none)

-- by where the auth request is to lead
abbrev pub Led : Bool → Bool → Bool → Type 0
Led g f k =
    (takes server Auth (record { auth = verdict.Stay; signature = g; features = f; reconnect = k }) ≡ (2 ⇒ Auth) ∷ [])
    × (takes server Auth (record { auth = verdict.More; signature = g; features = f; reconnect = k }) ≡ (2 ⇒ More) ∷ [])
    × (takes server Auth (record { auth = verdict.Signature; signature = g; features = f; reconnect = k }) ≡ (2 ⇒ Signature) ∷ [])
    × (takes server Auth (record { auth = verdict.Standby; signature = g; features = f; reconnect = k }) ≡ (2 ⇒ Standby) ∷ [])
    × (takes server More (record { auth = verdict.Stay; signature = g; features = f; reconnect = k }) ≡ (5 ⇒ More) ∷ [])
    × (takes server More (record { auth = verdict.More; signature = g; features = f; reconnect = k }) ≡ (5 ⇒ More) ∷ [])
    × (takes server More (record { auth = verdict.Signature; signature = g; features = f; reconnect = k }) ≡ (5 ⇒ Signature) ∷ [])
    × (takes server More (record { auth = verdict.Standby; signature = g; features = f; reconnect = k }) ≡ (5 ⇒ Standby) ∷ [])

-- by the features and by the reconnect
abbrev pub Entered : AuthVerdict → Bool → Type 0
Entered a g =
    (takes server Session (record { auth = a; signature = g; features = true; reconnect = true }) ≡ (8 ⇒ Ready) ∷ (11 ⇒ Ready) ∷ [])
    × (takes server Session (record { auth = a; signature = g; features = true; reconnect = false }) ≡ (8 ⇒ Ready) ∷ (11 ⇒ Session) ∷ [])
    × (takes server Session (record { auth = a; signature = g; features = false; reconnect = true }) ≡ (8 ⇒ Closed) ∷ (11 ⇒ Ready) ∷ [])
    × (takes server Session (record { auth = a; signature = g; features = false; reconnect = false }) ≡ (8 ⇒ Closed) ∷ (11 ⇒ Session) ∷ [])

unfoldable pub Transitions : Type 0
Transitions =
    ((v : Verdict) → Unasked v)
    × ((a : AuthVerdict) (f k : Bool) → Signed a f k)
    × ((g f k : Bool) → Led g f k)
    × ((a : AuthVerdict) (g : Bool) → Entered a g)

-- ---- picks

pub record Chosen : Type 0 where
  pub preferred : List ℕ
  pub allowed : List ℕ
  pub mode : Option ℕ

abbrev choice : List ℕ → List ℕ → Option ℕ → Chosen
choice xs ys m = record { preferred = xs; allowed = ys; mode = m }

-- the client's order decides and not the server's; the lists may be of any length, and hold a mode twice
unfoldable pub choices : List Chosen
choices =
    choice (2 ∷ 1 ∷ []) (1 ∷ 2 ∷ []) (Some 2)
    ∷ choice (3 ∷ 1 ∷ 2 ∷ []) (2 ∷ 1 ∷ []) (Some 1)
    ∷ choice (1 ∷ 1 ∷ []) (5 ∷ 1 ∷ 1 ∷ []) (Some 1)
    ∷ choice (3 ∷ 4 ∷ []) (1 ∷ 2 ∷ []) None
    ∷ choice [] (1 ∷ []) None
    ∷ choice (1 ∷ []) [] None
    ∷ choice (0 ∷ []) (0 ∷ []) (Some 0)
    ∷ choice (replicate {A = ℕ} 40 3 ++ 7 ∷ 8 ∷ []) (replicate {A = ℕ} 40 4 ++ 8 ∷ 7 ∷ []) (Some 7)
    ∷ []

abbrev pub AllChosen : List Chosen → Type 0
AllChosen [] = Unit {0}
AllChosen (x ∷ xs) = (pick_of x.preferred x.allowed ≡ x.mode) × AllChosen xs

unfoldable pub Worked : Type 0
Worked = AllRight examples × Transitions × AllChosen choices
