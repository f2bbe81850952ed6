-- What a call promises, on each of its two ways.
use mathlib.Core.Path.{◌≡◌, sym, ap, subst, ◌∙◌}
use mathlib.Core.List.{List}
use mathlib.Core.Bool.{true, false}
use Prim.Native.Nat.{ℕ}
use native.Mathlib.Omega.{arith}
use lib.ListN.{get_or}
use Rattle.receiver.specs.declared.State.{State}
use Rattle.receiver.specs.declared.Received.{Received}
use Rattle.receiver.specs.Step.{answer, Answered}
use Rattle.abi_receiver.specs.Words.{AbiState, abi_state, state_of, fits, AbiOf, ReportOf, AbiReceived, handed, abi_received, contradicts, abi_answer_of, abi_answer, AbiAnswered}

pub answer-beyond : (p : AbiState) (s piece : List ℕ) → fits p.numbers ≡ false → abi_answer p s piece ≡ record { received = contradicts p; store = s }
unfolding abi_answer
answer-beyond p s piece e = rw e

pub answer-within : (p : AbiState) (s piece : List ℕ) → fits p.numbers ≡ true → abi_answer p s piece ≡ abi_answer_of (answer (state_of p) s piece)
unfolding abi_answer
answer-within p s piece e = rw e

differ : false ≡ true → ⊥
differ e = let z : ◌≡◌ {A = ℕ} 0 1 = cc in omega arith

pub words-refused : (ws b s piece r : List ℕ) → fits ws ≡ false → r ≡ (contradicts (abi_state ws b)).report → AbiAnswered (abi_state ws b) s piece (handed ws b r) s
words-refused ws b s piece r e d =
    let a = answer-beyond (abi_state ws b) s piece e in
    record { received = rw a (ap (handed ws b) d); store = rw a; back = λ t. absurd (differ (sym e ∙ t)); tells = rw (e, d) }

joined : {p q : AbiState} {r u : List ℕ} → p ≡ q → r ≡ u → ◌≡◌ {A = AbiReceived} (record { state = p; report = r }) (record { state = q; report = u })
joined e f = rw (e, f)

pub answered : (p : AbiState) (s piece ws r s' : List ℕ) (st : State) (o : Received) → fits p.numbers ≡ true → st ≡ state_of p → Answered st s piece o s'
    → AbiOf o.state (abi_state ws o.state.position.block) → ReportOf o.taken o.report r
    → AbiAnswered p s piece (handed ws o.state.position.block r) s'
answered p s piece ws r s' st o e d h w t =
    let a = answer-within p s piece e in
    let f : o ≡ (answer (state_of p) s piece).received = h.received ∙ rw d in
    let g : o.state ≡ (answer (state_of p) s piece).received.state = ap (λ (x : Received). x.state) f in
    record {
      received = rw a (joined w.words t.words ∙ ap abi_received f);
      store = rw a (h.store ∙ rw d);
      back = λ _. subst (λ (x : State). AbiOf x (abi_state ws o.state.position.block)) g w;
      tells = rw e (t.back ∙ ap (λ (x : Received). x.report) f);
    }

-- the bytes taken, by the words of a report
abbrev pub taken_in : AbiReceived → ℕ
taken_in o = get_or o.report 1 0
