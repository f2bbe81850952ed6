-- What a sealed build answers, what it leaves in the send buffer, and the sending state then (02, K4: the builder's order, 18, 27 and "none spent").
use Rattle.std.specs.Prelude.{◌≡◌, ℕ, ◌+◌, ◌%◌, ◌^◌, Bool, true, false, cond, not, ◌&&◌, ◌||◌, List, [], ◌∷◌, length, replicate, ◌==◌, nat_le}
use Rattle.buffer.specs.Splice.{splice}
use Rattle.refusal.specs.declared.Refusal.TheVariants as refusal
use Rattle.refusal.specs.Refusals.{Judged, fine, refused, or_else, first_of, unless}
use Rattle.refusal.specs.Writes.{WriteOutcome, wrote, refused_for, outcome_of}
use Rattle.banner.specs.declared.Revision.TheVariants.{Msgr21}
use Rattle.preamble.specs.declared.Header.{Header}
use Rattle.preamble.specs.Layout.{total}
use Rattle.preamble.specs.Judge.{judge_header}
use Rattle.builder.specs.Build.{judge_source, judge_abort, judge_room}
use Rattle.aes.specs.Aes.{key_expansion}
use Rattle.secure.specs.Layout.{all_nonces, nonce_after, Part, frame_parts, sealed_parts, sealed_length, part_count}
use Rattle.buffer.specs.Zeros.{all_zero}
use Rattle.sealed_builder.specs.declared.Sending.{Sending}
use Rattle.sealed_builder.specs.declared.Sealed.{Sealed}

-- ---- sending states

-- how many nonces are spent: one number more than 64 bits can say, for all of them
abbrev pub spent_of : Sending → ℕ
spent_of s = cond s.exhausted all_nonces s.spent

abbrev pub sending_state : List ℕ → List ℕ → ℕ → Bool → Bool → Sending
sending_state key nonce spent exhausted mark =
    record { key = key; nonce = nonce; spent = spent; exhausted = exhausted; refused = mark }

-- what a switch hands back: its key and the nonce of the first part
unfoldable pub fresh_sending : List ℕ → List ℕ → Sending
fresh_sending key nonce = sending_state key nonce 0 false false

-- and what a refused one does: nothing but that it was refused
unfoldable pub refused_sending : Sending
refused_sending = sending_state (replicate 16 0) (replicate 12 0) 0 false true

-- the rules of 26 (docs/STATE.md)
abbrev pub spent_rule : Sending → Bool
spent_rule s = not s.exhausted || s.spent == 0

abbrev pub refused_rule : Sending → Bool
refused_rule s = not s.refused || (all_zero s.key && (all_zero s.nonce && (s.spent == 0 && not s.exhausted)))

unfoldable pub agrees : Sending → Bool
agrees s = spent_rule s && refused_rule s

-- behind k parts more, of those that were left
unfoldable pub sent_more : Sending → ℕ → Sending
sent_more s k =
    sending_state s.key (nonce_after k s.nonce) ((s.spent + k) % 2 ^ 64) (nat_le all_nonces (s.spent + k)) s.refused

-- ---- judgements

abbrev pub judge_sending : Sending → Judged
judge_sending s = unless (agrees s) refusal.StateContradicts

abbrev pub judge_switched : Sending → Judged
judge_switched s = unless (not s.refused) refusal.SwitchRefused

-- the frame's nonces are left
abbrev pub judge_nonces : Sending → ℕ → Judged
judge_nonces s k = unless (nat_le (spent_of s + k) all_nonces) refusal.NoncesSpent

-- THE ORDER: 26, 27, then 6, 8, 9 of the header, 13, 15, 14, and 18 last
abbrev pub judgements : Sending → Header → Bool → ℕ → ℕ → ℕ → List Judged
judgements s h abort source space queued =
    judge_sending s
    ∷ judge_switched s
    ∷ judge_header h
    ∷ judge_source source (total h)
    ∷ judge_abort Msgr21 h.count abort
    ∷ judge_room (sealed_length h) space queued
    ∷ []

unfoldable pub judge_earlier : Sending → Header → Bool → ℕ → ℕ → ℕ → Judged
judge_earlier s h abort source space queued = first_of (judgements s h abort source space queued)

unfoldable pub judge_sealed : Sending → Header → Bool → ℕ → ℕ → ℕ → Judged
judge_sealed s h abort source space queued =
    or_else (judge_earlier s h abort source space queued) (judge_nonces s (part_count h))

-- ---- the answer, in 01's numbers, the sending state and the buffer

pub record Done : Type 0 where
  pub answer : WriteOutcome
  pub sending : Sending
  pub buffer : List ℕ

abbrev pub done : WriteOutcome → Sending → List ℕ → Done
done a s b = record { answer = a; sending = s; buffer = b }

-- a refused build changes nothing and spends no nonce; another one puts its bytes behind the queued ones
abbrev pub outcome : Judged → Sending → Header → List ℕ → ℕ → List ℕ → Done
outcome fine s h buf queued bytes = done (wrote (sealed_length h)) (sent_more s (part_count h)) (splice buf queued bytes)
outcome (refused r) s h buf queued bytes = done (refused_for r) s buf

-- the parts that a build seals, with their nonces
abbrev pub sent_parts : Sending → Header → Bool → List ℕ → List Part
sent_parts s h abort source = frame_parts s.nonce h abort source

-- WHAT BUILDING A SEALED FRAME COMES TO
unfoldable pub sealed_done : Sending → Header → Bool → List ℕ → List ℕ → ℕ → Done
sealed_done s h abort source buf queued =
    outcome (judge_sealed s h abort (length source) (length buf) queued) s h buf queued
    (sealed_parts (key_expansion s.key) (sent_parts s h abort source))

-- THE PROMISE of the builder: a buffer buf with so many bytes queued, the answer, and the buffer then
pub record BuiltSealed (s : Sending) (h : Header) (abort : Bool) (source buf : List ℕ) (queued : ℕ) (answer : Sealed) (after : List ℕ) : Type 0 where
  pub promise : done (outcome_of answer.built) answer.sending after ≡ sealed_done s h abort source buf queued
