-- Judgements whose refusals all pass a test.
use mathlib.Core.Path.{◌≡◌}
use mathlib.Core.Bool.{Bool, true, false, cond}
use Rattle.refusal.specs.declared.Numbers.{Numbers}
use Rattle.refusal.specs.Refusals.{Judged, fine, refused, or_else}

module _ (test : Numbers → Bool) where
  pub record Allowed (j : Judged) : Type 0 where
    pub gives : (n : Numbers) → j ≡ refused n → test n ≡ true

  pub allowed-fine : Allowed fine
  allowed-fine = record { gives = λ m e. cc }

  pub allowed-refused : (n : Numbers) → test n ≡ true → Allowed (refused n)
  allowed-refused n g = record { gives = λ m e. (let k : n ≡ m = cc in rw k at g) }

  pub allowed_cond : (b : Bool) (n : Numbers) → test n ≡ true → Allowed (cond b fine (refused n))
  allowed_cond true n g = allowed-fine
  allowed_cond false n g = allowed-refused n g

  pub allowed_or : {a b : Judged} → Allowed a → Allowed b → Allowed (or_else a b)
  allowed_or {a = fine} ka kb = kb
  allowed_or {a = refused n} ka kb = ka
