-- The two directions of a link under one key (02, K11, in the setting of two ends): what the caller owes for them, since the starting nonces are the caller's.
use Rattle.std.specs.Prelude.{◌≡◌, List, [], ◌∷◌, ℕ, ◌+◌, ◌%◌, ◌^◌, ◌<◌, length, get_or}
use Rattle.buffer.specs.Le.{number_at}
use Rattle.refusal.specs.declared.Numbers.{Numbers}
use Rattle.refusal.specs.declared.Refusal.TheVariants.{SwitchRefused}
use Rattle.refusal.specs.Refusals.{refused, numbers_of, judged_by}
use Rattle.refusal.specs.Writes.{refused_for, outcome_of}
use Rattle.sealed_builder.specs.Build.{spent_of}
use Rattle.sealed_builder.specs.Nonces.{Build, Meets, Chained, used, sending_after, NoneIs, AllDifferent}
use Rattle.connection.specs.declared.State.{State}
use Rattle.connection.specs.Step.{SwitchedWith}
use Rattle.connection.specs.Calls.{Try}
use Rattle.connection.specs.Every.{AnyCall, Handed}
use Rattle.sealed_ends.specs.Openings.{openings, opening_nonces, Made}

-- a nonce's first 4 bytes, and its counter so many parts on
abbrev pub fixed_part : List ℕ → List ℕ
fixed_part nonce = get_or nonce 0 0 ∷ get_or nonce 1 0 ∷ get_or nonce 2 0 ∷ get_or nonce 3 0 ∷ []

abbrev pub counter_at : List ℕ → ℕ → ℕ
counter_at nonce i = (number_at 8 4 nonce + i) % 2 ^ 64

-- the fixed parts of two starting nonces differ, or the counters that m and k parts from them on have
pub data Apart (a : List ℕ) (m : ℕ) (b : List ℕ) (k : ℕ) : Type 0 where
  fixed : (fixed_part a ≡ fixed_part b → ⊥) → Apart a m b k
  ranges : ((i j : ℕ) → i < m → j < k → counter_at a i ≡ counter_at b j → ⊥) → Apart a m b k

-- none of some nonces is among others
abbrev pub NoneShared : List (List ℕ) → List (List ℕ) → Type 0
NoneShared [] ys = Unit {0}
NoneShared (x ∷ xs) ys = NoneIs x ys × NoneShared xs ys

pub record TwoDirections : Type 0 where
  -- any builds from a switch on, refused ones among them: the nonces are all different, as many are spent as were used, and the key is the switch's
  pub once : (st : State) (c : Try) (bs : List Build) → Made st c → Chained c.switched.sending bs → AllDifferent (used c.switched.sending bs)
  pub spent : (st : State) (c : Try) (bs : List Build) → Made st c → Chained c.switched.sending bs
      → spent_of (sending_after c.switched.sending bs) ≡ length (used c.switched.sending bs)
  pub key : (st : State) (c : Try) (bs : List Build) → Made st c → Chained c.switched.sending bs → (sending_after c.switched.sending bs).key ≡ c.key
  -- from a switch on: any builds with its sending state, and any calls
  pub opened : (st : State) (c : Try) (bs : List Build) (cs : List AnyCall) → Made st c → Chained c.switched.sending bs → Handed c.switched.state cs
      → Apart c.sending (length (used c.switched.sending bs)) c.receiving (length (opening_nonces (openings c.switched.state cs)))
      → NoneShared (used c.switched.sending bs) (opening_nonces (openings c.switched.state cs))
  -- and what the two ends seal, each from its own switch on, whether it has come in or not
  pub sealed : (st st' : State) (c c' : Try) (bs bs' : List Build) → Made st c → Made st' c'
      → Chained c.switched.sending bs → Chained c'.switched.sending bs'
      → Apart c.sending (length (used c.switched.sending bs)) c'.sending (length (used c'.switched.sending bs'))
      → NoneShared (used c.switched.sending bs) (used c'.switched.sending bs')
  -- nothing is sealed with what a refused try hands back: every build gives 27 and changes nothing
  pub none : (st : State) (c : Try) (n : Numbers) (b : Build) → SwitchedWith st c.key c.receiving c.sending c.switched → judged_by c.switched.judgement ≡ refused n
      → Meets c.switched.sending b
      → (outcome_of b.answer.built ≡ refused_for (numbers_of SwitchRefused)) × (b.answer.sending ≡ c.switched.sending) × (b.after ≡ b.buffer)
