-- Every run of one side's steps from hello, each given the last one's state: one claim (02, K7).
use Rattle.std.specs.Prelude.{◌≡◌, true, List, [], ◌∷◌, ℕ}
use Rattle.handshake.specs.declared.State.{State}
use Rattle.handshake.specs.declared.State.TheVariants.{Hello, Session, Ready, Standby, Wait, Closed}
use Rattle.handshake.specs.declared.Verdict.{Verdict}
use Rattle.handshake.specs.declared.Step.{Step}
use Rattle.handshake.specs.Table.{Row, client_rows, server_rows, holds}
use Rattle.handshake.specs.Steps.{Stepped, taken, refused_at}

pub data Side : Type 0 where
  client : Side
  server : Side

abbrev pub rows_of : Side → List Row
rows_of client = client_rows
rows_of server = server_rows

-- ---- runs

-- a tag that came, the caller's verdict, and what the step answered
pub record Entry : Type 0 where
  pub tag : ℕ
  pub verdict : Verdict
  pub step : Step

-- each step met its promise, from the state that the last one led to
abbrev pub Chained : List Row → State → List Entry → Type 0
Chained rs s [] = Unit {0}
Chained rs s (e ∷ es) = Stepped rs s e.tag e.verdict e.step × Chained rs e.step.state es

abbrev pub state_by : State → List Entry → State
state_by s [] = s
state_by s (e ∷ es) = state_by e.step.state es

-- ---- walks in a table, with no step in sight

pub data In (r : Row) : List Row → Type 0 where
  here : {rs : List Row} → In r (r ∷ rs)
  there : {x : Row} {rs : List Row} → In r rs → In r (x ∷ rs)

-- a row that a state, a tag and a verdict meet
pub record Meets (r : Row) (s : State) (t : ℕ) (v : Verdict) : Type 0 where
  pub from : r.from ≡ s
  pub tag : r.tag ≡ t
  pub asked : holds r.asked v ≡ true

pub data Walk (rs : List Row) : State → List Entry → State → Type 0 where
  end : {s : State} → Walk rs s [] s
  -- along a row of the table
  along : {s u : State} {e : Entry} {es : List Entry} (r : Row) → In r rs → Meets r s e.tag e.verdict → e.step ≡ taken r.to
      → Walk rs r.to es u → Walk rs s (e ∷ es) u
  -- no row is met: refused, and closed
  off : {s u : State} {e : Entry} {es : List Entry} → ((r : Row) → In r rs → Meets r s e.tag e.verdict → ⊥) → e.step ≡ refused_at e.tag
      → Walk rs Closed es u → Walk rs s (e ∷ es) u

-- among the steps is one that took a 7 which the caller called good
pub data PastSignature : List Entry → Type 0 where
  here : {e : Entry} {es : List Entry} → e.tag ≡ 7 → e.verdict.signature ≡ true → e.step ≡ taken Session → PastSignature (e ∷ es)
  later : {e : Entry} {es : List Entry} → PastSignature es → PastSignature (e ∷ es)

-- each of the steps was refused
abbrev pub AllRefused : List Entry → Type 0
AllRefused [] = Unit {0}
AllRefused (e ∷ es) = (e.step ≡ refused_at e.tag) × AllRefused es

-- states that take nothing
pub data Final : State → Type 0 where
  closed : Final Closed
  wait : Final Wait
  standby : Final Standby

-- THE CLAIM
unfoldable pub EveryRun : Type 0
EveryRun =
    -- a run from hello is a walk in the side's table
    ((side : Side) (es : List Entry) → Chained (rows_of side) Hello es → Walk (rows_of side) Hello es (state_by Hello es))
    -- which reaches ready only past a 7 that the caller called good
    × ((side : Side) (es : List Entry) → Chained (rows_of side) Hello es → state_by Hello es ≡ Ready → PastSignature es)
    -- closed, wait and standby take nothing, and closed stays closed
    × ((side : Side) (s : State) (es : List Entry) → Final s → Chained (rows_of side) s es → AllRefused es)
    × ((side : Side) (es : List Entry) → Chained (rows_of side) Closed es → state_by Closed es ≡ Closed)
