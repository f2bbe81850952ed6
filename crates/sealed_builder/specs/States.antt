-- What holds of every sending state and every build: 26 exactly for a state that contradicts itself, and never for one from a switch or from a build that gave no 26 (01, refusal 26).
use Rattle.std.specs.Prelude.{◌≡◌, ℕ, true, false, List, ◌≢◌}
use Rattle.refusal.specs.declared.Refusal.TheVariants as refusal
use Rattle.refusal.specs.Refusals.{numbers_of}
use Rattle.refusal.specs.Writes.{refused_for, outcome_of}
use Rattle.sealed_builder.specs.declared.Sending.{Sending}
use Rattle.sealed_builder.specs.Build.{fresh_sending, refused_sending, agrees}
use Rattle.sealed_builder.specs.Nonces.{Build, Meets}

pub record Sound (s : Sending) (b : Build) : Type 0 where
  -- the state is handed back and the buffer stays
  pub contradicts : agrees s ≡ false → (outcome_of b.answer.built ≡ refused_for (numbers_of refusal.StateContradicts)) × (b.answer.sending ≡ s) × (b.after ≡ b.buffer)
  pub never26 : agrees s ≡ true → outcome_of b.answer.built ≢ refused_for (numbers_of refusal.StateContradicts)
  pub agreeing : agrees s ≡ true → agrees b.answer.sending ≡ true

pub record EveryBuild : Type 0 where
  pub fresh : (key nonce : List ℕ) → agrees (fresh_sending key nonce) ≡ true
  pub refused_one : agrees refused_sending ≡ true
  pub each : (s : Sending) (b : Build) → Meets s b → Sound s b
