-- The session's calls over words: a session as two numbers and its 64 handles, an answer as six. All of them are as wide as a word is, so any words stand for a session.
use Rattle.std.specs.Prelude.{Result, Ok, Err, Option, Some, None, ◌≡◌, List, [], ◌∷◌, cond, ℕ, eqb, get_or}
use Rattle.refusal.specs.declared.Numbers.{Numbers}
use Rattle.refusal.specs.Refusals.{no_refusal}
use Rattle.session.specs.declared.Session.{Session}
use Rattle.session.specs.declared.Message.{Message}
use Rattle.session.specs.declared.Answer.{Answer}
use Rattle.session.specs.declared.Answer.TheVariants as answer
use Rattle.session.specs.declared.Outcome.{Outcome}
use Rattle.session.specs.Calls.{held_at}
use Rattle.session.specs.Laws.{Call, accept, ack, reconnect, reset, call_of}
use Rattle.abi.specs.Words.{mark_of, refusal_words}

-- ---- sessions: 0 the last number released, 1 the last one given; and the handles

pub record AbiSession : Type 0 where
  pub numbers : List ℕ
  pub handles : List ℕ

abbrev pub abi_session : List ℕ → List ℕ → AbiSession
abi_session ws hs = record { numbers = ws; handles = hs }

abbrev pub session_of : AbiSession → Session
session_of p = record { handles = p.handles; released = get_or p.numbers 0 0; last = get_or p.numbers 1 0 }

abbrev pub session_numbers : Session → List ℕ
session_numbers s = s.released ∷ s.last ∷ []

abbrev pub abi_of : Session → AbiSession
abi_of s = abi_session (session_numbers s) s.handles

-- ---- answers: 0 kind (1 done, 2 accepted, 3 to be sent again, 4 refused), 1 a message's number, or how many are to be sent again, 2 to 5 refusal

abbrev pub answering : ℕ → ℕ → Numbers → List ℕ
answering kind n r = kind ∷ n ∷ refusal_words r

abbrev pub answer_words : Result Answer Numbers → List ℕ
answer_words (Ok answer.Done) = answering 1 0 no_refusal
answer_words (Ok (answer.Accepted n)) = answering 2 n no_refusal
answer_words (Ok (answer.Resend n)) = answering 3 n no_refusal
answer_words (Err r) = answering 4 0 r

-- ---- THE PROMISE OF A CALL: the session and the answer that its outcome says

pub record AbiOutcome : Type 0 where
  pub session : AbiSession
  pub answer : List ℕ

abbrev pub outcome_with : List ℕ → List ℕ → List ℕ → AbiOutcome
outcome_with ws hs a = record { session = abi_session ws hs; answer = a }

abbrev pub abi_outcome : Outcome → AbiOutcome
abi_outcome o = record { session = abi_of o.session; answer = answer_words o.answer }

-- the calls by number: 0 accept, 1 ack, 2 reconnect, and any other reset, full where its number is not 0
abbrev pub call_by : ℕ → ℕ → Call
call_by k n = cond (eqb k 0) (accept n) (cond (eqb k 1) (ack n) (cond (eqb k 2) (reconnect n) (reset (mark_of n))))

pub record AbiCalled (p : AbiSession) (c : Call) (n : ℕ) (o : AbiOutcome) : Type 0 where
  pub kind : n ≡ get_or o.answer 0 0
  pub outcome : o ≡ abi_outcome (call_of (session_of p) c)

-- ---- what is held: 0 where the place is beyond, 1 and the message, or 26

pub record AbiHeld : Type 0 where
  pub found : ℕ
  pub message : List ℕ

abbrev pub held_with : ℕ → List ℕ → AbiHeld
held_with n m = record { found = n; message = m }

abbrev pub abi_held : Result (Option Message) Numbers → AbiHeld
abi_held (Ok (Some m)) = held_with 1 (m.number ∷ m.handle ∷ [])
abi_held (Ok None) = held_with 0 (0 ∷ 0 ∷ [])
abi_held (Err r) = held_with r.number (0 ∷ 0 ∷ [])

-- THE PROMISE OF A LOOK at a place of those held
pub record AbiFound (p : AbiSession) (i n : ℕ) (m : List ℕ) : Type 0 where
  pub found : held_with n m ≡ abi_held (held_at (session_of p) i)
