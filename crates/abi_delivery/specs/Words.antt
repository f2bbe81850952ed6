-- `deliver` over words: those of a connection and of a session, and what was done to the session as six. An effect is an answer of the session, or 0 where nothing is
-- asked, or 5 and refusal 20 where a body is malformed.
use Rattle.std.specs.Prelude.{◌≡◌, List, ℕ}
use Rattle.refusal.specs.Refusals.{no_refusal}
use Rattle.delivery.specs.declared.Effect.{Effect}
use Rattle.delivery.specs.declared.Effect.TheVariants as effect
use Rattle.delivery.specs.declared.Applied.{Applied}
use Rattle.delivery.specs.Requests.{request_by_report, done_to}
use Rattle.abi_session.specs.Words.{AbiSession, abi_session, session_of, abi_of, answering, answer_words}
use Rattle.abi_connection.specs.Words.{AbiConnection, AbiReceived, report_by, ReceivedBy}

abbrev pub effect_words : Effect → List ℕ
effect_words effect.Nothing = answering 0 0 no_refusal
effect_words (effect.Malformed n) = answering 5 0 n
effect_words (effect.Answer r) = answer_words r

-- what is left of a session, and what was done to it
pub record AbiApplied : Type 0 where
  pub session : AbiSession
  pub effect : List ℕ

abbrev pub applied_with : List ℕ → List ℕ → List ℕ → AbiApplied
applied_with ws hs e = record { session = abi_session ws hs; effect = e }

abbrev pub abi_applied : Applied → AbiApplied
abi_applied d = record { session = abi_of d.session; effect = effect_words d.effect }

-- THE PROMISE OF `abi_deliver`: what a call of the connection promises, and what its report asks of the session, read from the store as the call left it
pub record AbiDelivers (p : AbiConnection) (q : AbiSession) (s piece : List ℕ) (n : ℕ) (o : AbiReceived) (d : AbiApplied) (s' : List ℕ) : Type 0 where
  pub received : ReceivedBy p s piece n o s'
  pub done : d ≡ abi_applied (done_to (session_of q) (request_by_report (report_by p s piece) s'))
