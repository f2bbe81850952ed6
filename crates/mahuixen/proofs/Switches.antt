-- Tries to switch by C, and bytes that add up, from what is claimed of the calls that they are.
use mathlib.Core.Path.{◌≡◌, refl, sym, ap, ◌∙◌}
use mathlib.Core.List.{List}
use mathlib.Core.Bool.{true}
use Prim.Native.Nat.{ℕ}
use Rattle.refusal.specs.Refusals.{Judged}
use Rattle.banner.specs.declared.Features.{Features}
use Rattle.connection.specs.Step.{begun, SwitchedWith}
use Rattle.connection.specs.Calls.{Call, Chained}
use Rattle.connection.specs.Every.{EveryCall}
use Rattle.sealed_ends.specs.Adds.{SwitchedAddUp}
use Rattle.abi_connection.specs.Words.{AbiConnection, connection_of, fits, AbiStarted, AbiSwitched, switched_by, judge_words, abi_switch, AbiSwitchedWith}
use Rattle.abi_connection.proofs.Calls.{judged-within}
use Rattle.mahuixen.specs.Calls.{AbiCall, AbiChained}
use Rattle.mahuixen.specs.Switches.{InnerSwitch, AbiSoundSwitch, AbiEverySwitch, AsConnectionCalls, AbiAddUp}
use Rattle.mahuixen.proofs.Chain.{judged, answered, as_calls}

pub by_words : {p : AbiConnection} {key receiving sending : List ℕ} {r : AbiSwitched} → AbiSwitchedWith p key receiving sending r
    → r ≡ switched_by (judge_words p) p key receiving sending
unfolding abi_switch
by_words h = h.promise

module _ (every : EveryCall) (p : AbiConnection) (key receiving sending : List ℕ) (r : AbiSwitched) (h : AbiSwitchedWith p key receiving sending r) where
  inner : fits p ≡ true → InnerSwitch p key receiving sending r
  unfolding EveryCall
  inner f =
      let st = connection_of p in
      let d : SwitchedWith st key receiving sending (answered st key receiving sending) = record { judgement = judged st; state = refl; sends = refl } in
      record {
        made = answered st key receiving sending;
        abi = by_words h ∙ ap (λ (j : Judged). switched_by j p key receiving sending) (judged-within p key receiving sending f ∙ sym (judged st));
        meets = d;
        sound = every.2 st key receiving sending (answered st key receiving sending) d;
      }

  pub sound-switch : AbiSoundSwitch p key receiving sending r
  unfolding judge_words
  sound-switch = record { beyond = λ e. by_words h ∙ rw e; inner = inner }

pub switches_in_c : EveryCall → AbiEverySwitch
unfolding AbiEverySwitch
switches_in_c every p key receiving sending r h = sound-switch every p key receiving sending r h

-- ---- lists of calls

-- what holds of the calls of the connection holds of those by C
pub of_calls : (Holds : List Call → Type 0) (own : Features) (n : ℕ) (p : AbiConnection) → AbiStarted own n p
    → (stream store : List ℕ) (ps : List AbiCall) → AbiChained stream p store 0 ps
    → ((cs : List Call) → Chained stream (begun own) store 0 cs → Holds cs) → AsConnectionCalls own stream store ps Holds
of_calls Holds own n p b stream store ps h claim =
    let found = as_calls stream (begun own) p store 0 ps b.state h in
    record { calls = found.calls; abi = found.abi; chained = found.chained; holds = claim found.calls found.chained }

pub adds_in_c : SwitchedAddUp → AbiAddUp
unfolding SwitchedAddUp AbiAddUp
adds_in_c adds own n p b stream store ps h = of_calls _ own n p b stream store ps h (adds own stream store)
