-- Tries to switch by C, and the bytes of a stream with a switch in it. Each exported call is a call of the connection in ABI form, so what is claimed of those holds of it.
use Rattle.std.specs.Prelude.{◌≡◌, List, true, false, ℕ}
use Rattle.refusal.specs.Refusals.{judged_by, contradiction}
use Rattle.banner.specs.declared.Features.{Features}
use Rattle.banner.specs.Banner.{judge_own}
use Rattle.sealed_builder.specs.Build.{refused_sending}
use Rattle.connection.specs.declared.Switched.{Switched}
use Rattle.connection.specs.Step.{begun, SwitchedWith}
use Rattle.connection.specs.Calls.{Call, Chained, list_of, switch_by}
use Rattle.connection.specs.Every.{SoundSwitch}
use Rattle.sealed_ends.specs.Adds.{AddsWith}
use Rattle.abi_connection.specs.Words.{AbiConnection, connection_of, fits, AbiStarted, sending_words, AbiSwitched, switched, switched_by, AbiSwitchedWith}
use Rattle.mahuixen.specs.Calls.{AbiCall, AbiChained, abi_calls}

-- ---- demand 1: one try to switch

-- the try of the connection that it is, of which `SoundSwitch` holds
pub record InnerSwitch (p : AbiConnection) (key receiving sending : List ℕ) (r : AbiSwitched) : Type 0 where
  pub made : Switched
  pub abi : r ≡ switched_by (judged_by made.judgement) p key receiving sending
  pub meets : SwitchedWith (connection_of p) key receiving sending made
  pub sound : SoundSwitch (connection_of p) made

pub record AbiSoundSwitch (p : AbiConnection) (key receiving sending : List ℕ) (r : AbiSwitched) : Type 0 where
  -- a number beyond its field: 26, the words as they came, and a sending state with which nothing can be built
  pub beyond : fits p ≡ false → r ≡ switched contradiction.number p (sending_words refused_sending)
  pub inner : fits p ≡ true → InnerSwitch p key receiving sending r

-- THE CLAIM
unfoldable pub AbiEverySwitch : Type 0
AbiEverySwitch =
    (p : AbiConnection) (key receiving sending : List ℕ) (r : AbiSwitched) → AbiSwitchedWith p key receiving sending r → AbiSoundSwitch p key receiving sending r

-- ---- bytes add up, with a switch among the calls

-- the calls of the connection that calls by C are, and what holds of them
pub record AsConnectionCalls (own : Features) (stream store : List ℕ) (ps : List AbiCall) (Holds : List Call → Type 0) : Type 0 where
  pub calls : List Call
  pub abi : ps ≡ abi_calls calls
  pub chained : Chained stream (begun own) store 0 calls
  pub holds : Holds calls

-- THE CLAIM, of the reports of every list of calls and tries to switch by C
unfoldable pub AbiAddUp : Type 0
AbiAddUp =
    (own : Features) (n : ℕ) (p : AbiConnection) → AbiStarted own n p
    → (stream store : List ℕ) (ps : List AbiCall) → AbiChained stream p store 0 ps
    → AsConnectionCalls own stream store ps (λ cs. AddsWith (switch_by 0 cs) (list_of (judge_own own.supported own.required) cs))
