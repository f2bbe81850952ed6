-- The part for sealed frames read back from its words.
use mathlib.Core.Path.{◌≡◌, refl, ap, ◌∙◌}
use mathlib.Core.Bool.{Bool, true}
use mathlib.Core.List.{List, [], ◌∷◌}
use Prim.Native.Nat.{ℕ, ◌≤◌}
use native.Mathlib.Omega.{arith}
use Rattle.refusal.specs.Refusals.{row}
use Rattle.preamble.specs.declared.Header.{Header}
use Rattle.sealed_receiver.specs.declared.Stage.{Stage}
use Rattle.sealed_receiver.specs.declared.Stage.TheVariants as stage
use Rattle.sealed_receiver.specs.declared.State.{State}
use Rattle.sealed_receiver.specs.State.{receiving_state}
use Rattle.abi.specs.Words.{max_u8, low_u8, header_limits}
use Rattle.abi.proofs.Limits.{tested, joined}
use Rattle.abi.proofs.Headers.{small8}
use Rattle.abi.proofs.Back.{mark-back, mark_known, header_in_lem}
use Rattle.abi_connection.specs.Secure.{stage_number, stage_of, secure_of, secure_numbers, with_bytes, abi_of, secure_limits, fits, Typed, AbiOf}

stage-back : (s : Stage) → stage_of (stage_number s) ≡ s
unfolding stage_of
stage-back stage.First = refl
stage-back stage.Second = refl
stage-back stage.Last = refl
stage-back stage.Refused = refl

stage_known : (s : Stage) → stage_number s ≤ 3
stage_known stage.First = omega arith
stage_known stage.Second = omega arith
stage_known stage.Last = omega arith
stage_known stage.Refused = omega arith

abbrev made : Stage → Bool → Header → ℕ → State → State
made stage exhausted header number st = record {
  position = record { stage = stage; got = st.position.got; block = st.position.block };
  known = record {
    receiving = receiving_state st.known.receiving.key st.known.receiving.nonce st.known.receiving.opened exhausted;
    header = header;
    refusal = row number st.known.refusal.first st.known.refusal.second st.known.refusal.third;
  };
}

same : {s s' : Stage} {m m' : Bool} {h h' : Header} {n n' : ℕ} (st : State) → s ≡ s' → m ≡ m' → h ≡ h' → n ≡ n' → made s m h n st ≡ made s' m' h' n' st
same st e f g i = rw (e, f, g, i)

module _ (st : State) (h : Typed st) where
  number_small : low_u8 st.known.refusal.number ≡ st.known.refusal.number
  number_small = let l = h.refusal in small8 st.known.refusal.number (omega arith)

  words-fit : fits (secure_numbers st) ≡ true
  unfolding secure_numbers
  words-fit =
      tested secure_limits 0 (secure_numbers st)
      (stage_known st.position.stage, (mark_known st.known.receiving.exhausted, joined header_limits (max_u8 ∷ []) 2 (secure_numbers st) h.header (h.refusal, tt)))

  state-back : secure_of (abi_of st) ≡ st
  unfolding secure_of secure_numbers
  state-back =
      same st (stage-back st.position.stage) (mark-back st.known.receiving.exhausted) (header_in_lem st.known.header h.header) number_small

pub abi_of_lem : (st : State) (ws : List ℕ) → Typed st → ws ≡ secure_numbers st → AbiOf st (with_bytes ws st)
abi_of_lem st ws h e =
    let f : with_bytes ws st ≡ abi_of st = ap (λ (l : List ℕ). with_bytes l st) e in
    record { words = f; back = ap secure_of f ∙ state-back st h; fit = ap fits e ∙ words-fit st h }
