-- The handshake's steps over words: states and tags as numbers, the caller's verdict as four. A word beyond its field is 26, and the state stays.
use Rattle.std.specs.Prelude.{Result, Ok, Err, Option, Some, None, ◌≡◌, List, [], ◌∷◌, Bool, cond, ◌&&◌, ℕ, eqb, leb, get_or}
use Rattle.refusal.specs.declared.Numbers.{Numbers}
use Rattle.refusal.specs.declared.Refusal.TheVariants.{StateContradicts}
use Rattle.refusal.specs.Refusals.{numbers_of, no_refusal}
use Rattle.handshake.specs.declared.State.{State}
use Rattle.handshake.specs.declared.State.TheVariants as state
use Rattle.handshake.specs.declared.Verdict.{Verdict}
use Rattle.handshake.specs.declared.Step.{Step}
use Rattle.handshake.specs.Table.{Row, auth_of, client_rows, server_rows, state_number, find}
use Rattle.handshake.specs.Steps.{step_by}
use Rattle.abi.specs.Words.{within, max_u8, mark_of, refusal_words}

-- ---- states, tags and verdicts

-- 8, and any number above it, which `fits` rules out
unfoldable pub state_of : ℕ → State
state_of n =
    cond (eqb n 0) state.Hello
    (cond (eqb n 1) state.Auth
    (cond (eqb n 2) state.More
    (cond (eqb n 3) state.Signature
    (cond (eqb n 4) state.Session
    (cond (eqb n 5) state.Ready
    (cond (eqb n 6) state.Standby
    (cond (eqb n 7) state.Wait state.Closed)))))))

-- 0 auth, 1 signature, 2 features, 3 reconnect
abbrev pub verdict_of : List ℕ → Verdict
verdict_of ws = record { auth = auth_of (get_or ws 0 0); signature = mark_of (get_or ws 1 0); features = mark_of (get_or ws 2 0); reconnect = mark_of (get_or ws 3 0) }

abbrev pub verdict_limits : List ℕ
verdict_limits = 3 ∷ 1 ∷ 1 ∷ 1 ∷ []

abbrev pub fits : ℕ → ℕ → List ℕ → Bool
fits s tag ws = leb s 8 && (leb tag max_u8 && within verdict_limits 0 ws)

-- ---- steps: the next state, and a refusal or zeros

pub record AbiStep : Type 0 where
  pub state : ℕ
  pub refusal : List ℕ

abbrev pub step_with : ℕ → List ℕ → AbiStep
step_with s r = record { state = s; refusal = r }

abbrev pub report_words : Result (Unit {0}) Numbers → List ℕ
report_words (Ok u) = refusal_words no_refusal
report_words (Err n) = refusal_words n

abbrev pub abi_step : Step → AbiStep
abi_step s = step_with (state_number s.state) (report_words s.report)

abbrev pub rows_by : Bool → List Row
rows_by atServer = cond atServer server_rows client_rows

-- WHAT A STEP OF THE SIDE THAT HAS THESE ROWS ANSWERS
unfoldable pub step_from : List Row → ℕ → ℕ → List ℕ → AbiStep
step_from rs s tag ws =
    cond (fits s tag ws) (abi_step (step_by (find rs (state_of s) tag (verdict_of ws)) tag)) (step_with s (refusal_words (numbers_of StateContradicts)))

-- THE PROMISE OF A STEP
pub record AbiStepped (rs : List Row) (s tag : ℕ) (ws : List ℕ) (n : ℕ) (r : List ℕ) : Type 0 where
  pub step : step_with n r ≡ step_from rs s tag ws

-- ---- the mode: a number of 32 bits, or one beyond them where there is none

abbrev pub mode_number : Option ℕ → ℕ
mode_number (Some m) = m
mode_number None = 4294967296
