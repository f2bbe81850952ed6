-- Worked histories, computed from the definitions as one table. The second program has the same calls and prints the same lines by its own reading of the rules.
use Rattle.std.specs.Prelude.{Result, Ok, Err, Option, Some, None, ◌≡◌, List, [], ◌∷◌, ◌++◌, true, false, ℕ, zero, suc, ◌+◌, replicate}
use Rattle.refusal.specs.declared.Numbers.{Numbers}
use Rattle.refusal.specs.Refusals.{row}
use Rattle.session.specs.declared.Session.{Session}
use Rattle.session.specs.declared.Message.{Message}
use Rattle.session.specs.declared.Answer.{Answer}
use Rattle.session.specs.declared.Answer.TheVariants as answer
use Rattle.session.specs.Calls.{places, message, held_of, refusing, accept_of, ack_of, reconnect_of, reset_of, held_at}
use Rattle.session.specs.Laws.{Call, accept, ack, reconnect, reset, call_of}

-- ---- what a call answers, in one word

abbrev pub Accepted : ℕ → Result Answer Numbers
Accepted n = Ok (answer.Accepted n)

abbrev pub Done : Result Answer Numbers
Done = Ok answer.Done

abbrev pub Resend : ℕ → Result Answer Numbers
Resend k = Ok (answer.Resend k)

abbrev pub Refused : Numbers → Result Answer Numbers
Refused n = Err n

abbrev pub At : Message → Result (Option Message) Numbers
At m = Ok (Some m)

abbrev pub Beyond : Result (Option Message) Numbers
Beyond = Ok None

-- ---- histories

infix 70 ◌⇒◌
pub data Act : Type 0 where
  -- k messages with the handles h, h + 1, .. get the numbers n, n + 1, ..
  sends : ℕ → ℕ → ℕ → Act
  -- a call and its answer
  ◌⇒◌ : Call → Result Answer Numbers → Act
  -- a place and what `held_at` gives there
  finds : ℕ → Result (Option Message) Numbers → Act

-- k messages with the numbers n, n + 1, .. and the handles h, h + 1, ..
abbrev pub run : ℕ → ℕ → ℕ → List Message
run zero n h = []
run (suc k) n h = message n h ∷ run k (n + 1) (h + 1)

pub record Example : Type 0 where
  -- the last number given before the first call
  pub start : ℕ
  pub acts : List Act
  -- what is held in the end
  pub held : List Message

abbrev history : ℕ → List Act → List Message → Example
history n acts ms = record { start = n; acts = acts; held = ms }

-- ---- what an example says of the definitions

pub data Reply : Type 0 where
  said : Result Answer Numbers → Reply
  gave : Result (Option Message) Numbers → Reply

abbrev pub accepts : ℕ → ℕ → List Reply
accepts zero n = []
accepts (suc k) n = said (Accepted n) ∷ accepts k (n + 1)

abbrev pub expected : List Act → List Reply
expected [] = []
expected (sends k h n ∷ acts) = accepts k n ++ expected acts
expected ((c ⇒ r) ∷ acts) = said r ∷ expected acts
expected (finds i h ∷ acts) = gave h ∷ expected acts

-- what the calls answer, and what is held after them
pub record Played : Type 0 where
  pub replies : List Reply
  pub held : List Message

abbrev pub played : List Reply → List Message → Played
played replies ms = record { replies = replies; held = ms }

abbrev pub saying : Reply → Played → Played
saying a p = played (a ∷ p.replies) p.held

abbrev pub sending : ℕ → ℕ → Session → (Session → Played) → Played
sending zero h s then = then s
sending (suc k) h s then =
    let o = accept_of s h in
    saying (said o.answer) (sending k (h + 1) o.session then)

abbrev pub play : List Act → Session → Played
play [] s = played [] (held_of s)
play (sends k h n ∷ acts) s = sending k h s (play acts)
play ((c ⇒ r) ∷ acts) s =
    let o = call_of s c in
    saying (said o.answer) (play acts o.session)
play (finds i h ∷ acts) s = saying (gave (held_at s i)) (play acts s)

abbrev pub session : ℕ → ℕ → Session
session released last = record { handles = replicate places 0; released = released; last = last }

abbrev pub Holds : Example → Type 0
Holds e = play e.acts (session e.start e.start) ≡ played (expected e.acts) e.held

abbrev pub Each : List Example → Type 0
Each [] = Unit {0}
Each (e ∷ es) = Holds e × Each es

-- every call of a session that contradicts itself
abbrev pub Contradicts : Session → Type 0
Contradicts s =
    (accept_of s 7 ≡ refusing s (row 26 0 0 0))
    × (ack_of s 0 ≡ refusing s (row 26 0 0 0))
    × (reconnect_of s 0 ≡ refusing s (row 26 0 0 0))
    × (reset_of s true ≡ refusing s (row 26 0 0 0))
    × (held_at s 0 ≡ Err (row 26 0 0 0))

-- THE TABLE
unfoldable pub examples : List Example
examples =
    -- the first number is 1
    history 0 (sends 1 7 1 ∷ finds 0 (At (message 1 7)) ∷ finds 1 Beyond ∷ []) (run 1 1 7)
    -- an ack covers all up to its number
    ∷ history 0 (sends 3 10 1 ∷ ack 2 ⇒ Done ∷ finds 0 (At (message 3 12)) ∷ finds 1 Beyond ∷ []) (run 1 3 12)
    -- an ack of nothing, and one above the last number
    ∷ history 0 (ack 0 ⇒ Done ∷ ack 1 ⇒ Refused (row 23 0 0 0) ∷ sends 2 10 1 ∷ ack 3 ⇒ Refused (row 23 0 0 0) ∷ []) (run 2 1 10)
    -- an ack at or below the last one
    ∷ history 0 (sends 4 10 1 ∷ ack 3 ⇒ Done ∷ ack 2 ⇒ Done ∷ ack 3 ⇒ Done ∷ ack 0 ⇒ Done ∷ []) (run 1 4 13)
    -- a full table, and a place that an ack frees
    ∷ history 0 (sends 64 100 1 ∷ accept 164 ⇒ Refused (row 22 0 0 0) ∷ ack 1 ⇒ Done ∷ sends 1 7 65 ∷ accept 8 ⇒ Refused (row 22 0 0 0) ∷ []) (run 63 2 101 ++ run 1 65 7)
    -- all places used again
    ∷ history 0 (sends 40 100 1 ∷ ack 40 ⇒ Done ∷ sends 64 500 41 ∷ accept 564 ⇒ Refused (row 22 0 0 0) ∷ ack 100 ⇒ Done ∷ sends 1 9 105 ∷ []) (run 4 101 560 ++ run 1 105 9)
    -- a reconnect is an ack, and what is held is sent again
    ∷ history 0 (sends 5 10 1 ∷ reconnect 2 ⇒ Resend 3 ∷ finds 0 (At (message 3 12)) ∷ finds 2 (At (message 5 14)) ∷ finds 3 Beyond ∷ []) (run 3 3 12)
    -- nothing is sent again on 23
    ∷ history 0 (sends 2 10 1 ∷ reconnect 3 ⇒ Refused (row 23 0 0 0) ∷ reconnect 0 ⇒ Resend 2 ∷ reconnect 2 ⇒ Resend 0 ∷ []) ([])
    -- a full reset, and numbers go on
    ∷ history 0 (sends 3 10 1 ∷ ack 1 ⇒ Done ∷ reset true ⇒ Done ∷ finds 0 Beyond ∷ ack 2 ⇒ Done ∷ sends 1 7 4 ∷ []) (run 1 4 7)
    -- another reset
    ∷ history 0 (sends 3 10 1 ∷ reset false ⇒ Done ∷ sends 1 7 4 ∷ reconnect 1 ⇒ Resend 3 ∷ []) (run 2 2 11 ++ run 1 4 7)
    -- a full table is emptied by a full reset
    ∷ history 0 (sends 64 1 1 ∷ reset false ⇒ Done ∷ accept 7 ⇒ Refused (row 22 0 0 0) ∷ reset true ⇒ Done ∷ sends 1 8 65 ∷ []) (run 1 65 8)
    -- the last number of all
    ∷ history 18446744073709551614 (sends 1 7 18446744073709551615 ∷ accept 8 ⇒ Refused (row 25 0 0 0) ∷ ack 18446744073709551615 ⇒ Done ∷ accept 9 ⇒ Refused (row 25 0 0 0) ∷ []) ([])
    -- 25 before 22
    ∷ history 18446744073709551551 (sends 64 1 18446744073709551552 ∷ accept 65 ⇒ Refused (row 25 0 0 0) ∷ reconnect 18446744073709551614 ⇒ Resend 1 ∷ []) (run 1 18446744073709551615 64)
    -- handles of any size
    ∷ history 0 (sends 1 18446744073709551615 1 ∷ sends 1 0 2 ∷ sends 1 18446744073709551615 3 ∷ []) (run 1 1 18446744073709551615 ++ run 1 2 0 ++ run 1 3 18446744073709551615)
    -- made-up calls
    ∷ history 18446744073709551585 (ack 18446744073709551582 ⇒ Done ∷ ack 18446744073709551587 ⇒ Refused (row 23 0 0 0) ∷ sends 2 35838 18446744073709551586 ∷ ack 18446744073709551590 ⇒ Refused (row 23 0 0 0) ∷ sends 16 25864 18446744073709551588 ∷ ack 18446744073709551600 ⇒ Done ∷ finds 27 Beyond ∷ sends 1 35258 18446744073709551604 ∷ ack 18446744073709551604 ⇒ Done ∷ sends 3 4924 18446744073709551605 ∷ ack 18446744073709551605 ⇒ Done ∷ sends 3 40854 18446744073709551608 ∷ sends 2 59640 18446744073709551611 ∷ finds 52 Beyond ∷ ack 18446744073709551612 ⇒ Done ∷ sends 3 2914 18446744073709551613 ∷ accept 5051 ⇒ Refused (row 25 0 0 0) ∷ ack 18446744073709551612 ⇒ Done ∷ ack 18446744073709551613 ⇒ Done ∷ accept 32569 ⇒ Refused (row 25 0 0 0) ∷ accept 3761 ⇒ Refused (row 25 0 0 0) ∷ accept 20904 ⇒ Refused (row 25 0 0 0) ∷ accept 504 ⇒ Refused (row 25 0 0 0) ∷ accept 7425 ⇒ Refused (row 25 0 0 0) ∷ []) (run 2 18446744073709551614 2915)
    -- made-up calls
    ∷ history 0 (ack 1 ⇒ Refused (row 23 0 0 0) ∷ sends 1 52479 1 ∷ ack 5 ⇒ Refused (row 23 0 0 0) ∷ ack 1 ⇒ Done ∷ sends 3 38613 2 ∷ sends 3 2020 5 ∷ reset true ⇒ Done ∷ sends 2 40484 8 ∷ ack 12 ⇒ Refused (row 23 0 0 0) ∷ reconnect 10 ⇒ Refused (row 23 0 0 0) ∷ ack 6 ⇒ Done ∷ sends 3 50592 10 ∷ ack 8 ⇒ Done ∷ reset true ⇒ Done ∷ sends 1 24712 13 ∷ sends 16 10288 14 ∷ sends 16 64103 30 ∷ sends 1 64651 46 ∷ ack 47 ⇒ Refused (row 23 0 0 0) ∷ sends 1 5876 47 ∷ reset false ⇒ Done ∷ sends 1 43716 48 ∷ sends 1 57828 49 ∷ finds 12 (At (message 25 10299)) ∷ []) (run 1 13 24712 ++ run 16 14 10288 ++ run 16 30 64103 ++ run 1 46 64651 ++ run 1 47 5876 ++ run 1 48 43716 ++ run 1 49 57828)
    -- made-up calls
    ∷ history 0 (reconnect 4 ⇒ Refused (row 23 0 0 0) ∷ sends 1 61050 1 ∷ sends 2 40899 2 ∷ sends 2 1704 4 ∷ ack 8 ⇒ Refused (row 23 0 0 0) ∷ reset false ⇒ Done ∷ sends 2 33649 6 ∷ reset false ⇒ Done ∷ sends 1 19664 8 ∷ finds 16 Beyond ∷ ack 8 ⇒ Done ∷ reset false ⇒ Done ∷ sends 1 61271 9 ∷ sends 16 40511 10 ∷ sends 3 65147 26 ∷ ack 23 ⇒ Done ∷ reconnect 26 ⇒ Resend 2 ∷ ack 27 ⇒ Done ∷ ack 31 ⇒ Refused (row 23 0 0 0) ∷ reset true ⇒ Done ∷ sends 3 27790 29 ∷ sends 16 48665 32 ∷ sends 16 11514 48 ∷ sends 2 9844 64 ∷ []) (run 3 29 27790 ++ run 16 32 48665 ++ run 16 48 11514 ++ run 2 64 9844)
    -- made-up calls
    ∷ history 0 (sends 1 58849 1 ∷ finds 69 Beyond ∷ sends 2 46633 2 ∷ ack 5 ⇒ Refused (row 23 0 0 0) ∷ ack 0 ⇒ Done ∷ sends 2 38925 4 ∷ ack 3 ⇒ Done ∷ sends 1 57949 6 ∷ ack 7 ⇒ Refused (row 23 0 0 0) ∷ reset true ⇒ Done ∷ reconnect 7 ⇒ Refused (row 23 0 0 0) ∷ sends 16 56888 7 ∷ sends 3 53886 23 ∷ finds 51 Beyond ∷ reconnect 24 ⇒ Resend 1 ∷ sends 2 45197 26 ∷ finds 11 Beyond ∷ reset true ⇒ Done ∷ reset false ⇒ Done ∷ sends 3 37564 28 ∷ sends 1 52052 31 ∷ reconnect 34 ⇒ Refused (row 23 0 0 0) ∷ finds 3 (At (message 31 52052)) ∷ sends 1 49666 32 ∷ []) (run 3 28 37564 ++ run 1 31 52052 ++ run 1 32 49666)
    -- made-up calls
    ∷ history 18446744073709551585 (finds 2 Beyond ∷ ack 18446744073709551589 ⇒ Refused (row 23 0 0 0) ∷ sends 16 35579 18446744073709551586 ∷ ack 18446744073709551596 ⇒ Done ∷ finds 22 Beyond ∷ sends 1 14563 18446744073709551602 ∷ sends 3 21430 18446744073709551603 ∷ ack 18446744073709551595 ⇒ Done ∷ sends 2 59119 18446744073709551606 ∷ ack 18446744073709551609 ⇒ Refused (row 23 0 0 0) ∷ reconnect 18446744073709551596 ⇒ Resend 11 ∷ ack 18446744073709551609 ⇒ Refused (row 23 0 0 0) ∷ reconnect 18446744073709551601 ⇒ Resend 6 ∷ sends 3 21907 18446744073709551608 ∷ ack 18446744073709551613 ⇒ Refused (row 23 0 0 0) ∷ sends 3 38013 18446744073709551611 ∷ sends 2 58052 18446744073709551614 ∷ accept 58054 ⇒ Refused (row 25 0 0 0) ∷ reconnect 18446744073709551600 ⇒ Resend 14 ∷ reconnect 18446744073709551603 ⇒ Resend 12 ∷ ack 18446744073709551604 ⇒ Done ∷ accept 59864 ⇒ Refused (row 25 0 0 0) ∷ reset false ⇒ Done ∷ ack 18446744073709551607 ⇒ Done ∷ accept 3519 ⇒ Refused (row 25 0 0 0) ∷ []) (run 3 18446744073709551608 21907 ++ run 3 18446744073709551611 38013 ++ run 2 18446744073709551614 58052)
    -- made-up calls
    ∷ history 18446744073709551585 (reset true ⇒ Done ∷ sends 2 28414 18446744073709551586 ∷ sends 2 439 18446744073709551588 ∷ sends 3 48916 18446744073709551590 ∷ sends 1 56869 18446744073709551593 ∷ ack 18446744073709551587 ⇒ Done ∷ sends 16 18205 18446744073709551594 ∷ reconnect 18446744073709551609 ⇒ Resend 0 ∷ sends 2 64774 18446744073709551610 ∷ ack 18446744073709551608 ⇒ Done ∷ ack 18446744073709551607 ⇒ Done ∷ sends 2 5472 18446744073709551612 ∷ reset true ⇒ Done ∷ finds 60 Beyond ∷ ack 18446744073709551615 ⇒ Refused (row 23 0 0 0) ∷ sends 1 52903 18446744073709551614 ∷ finds 41 Beyond ∷ sends 1 31400 18446744073709551615 ∷ accept 31401 ⇒ Refused (row 25 0 0 0) ∷ reconnect 18446744073709551615 ⇒ Resend 0 ∷ ack 18446744073709551615 ⇒ Done ∷ accept 34013 ⇒ Refused (row 25 0 0 0) ∷ reset false ⇒ Done ∷ accept 27210 ⇒ Refused (row 25 0 0 0) ∷ accept 14082 ⇒ Refused (row 25 0 0 0) ∷ []) ([])
    ∷ []

-- THE CLAIM: each of them holds; and sessions that released more than they gave, or hold more than 64
unfoldable pub Worked : Type 0
Worked = Each examples × Contradicts (session 1 0) × Contradicts (session 5 4) × Contradicts (session 0 65)
