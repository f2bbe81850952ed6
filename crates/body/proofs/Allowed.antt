-- Ends of a body whose refusals all pass a test.
use mathlib.Core.Path.{◌≡◌, refl}
use mathlib.Core.Bool.{Bool, true}
use Rattle.refusal.specs.declared.Numbers.{Numbers}
use Rattle.refusal.specs.Refusals.{Judged, fine, refused}
use Rattle.refusal.proofs.Allowed.{Allowed}
use Rattle.body.specs.End.{Ended, whole, dropped, refused_for, ended_by, end_unless_refused}

module _ (test : Numbers → Bool) where
  pub record AllowedEnd (x : Ended) : Type 0 where
    pub gives : (n : Numbers) → x ≡ refused_for n → test n ≡ true

  pub end_whole : AllowedEnd whole
  end_whole = record { gives = λ m e. cc }

  pub end-dropped : AllowedEnd dropped
  end-dropped = record { gives = λ m e. cc }

  pub end-turned : (n : Numbers) → test n ≡ true → AllowedEnd (refused_for n)
  end-turned n g = record { gives = λ m e. (let k : n ≡ m = cc in rw k at g) }

  pub end_by_lem : (j : Judged) → Allowed test j → AllowedEnd (ended_by j)
  end_by_lem fine k = end_whole
  end_by_lem (refused n) k = end-turned n (k.gives n refl)

  pub end_or : (j : Judged) {x : Ended} → Allowed test j → AllowedEnd x → AllowedEnd (end_unless_refused j x)
  end_or fine k l = l
  end_or (refused n) k l = end-turned n (k.gives n refl)
