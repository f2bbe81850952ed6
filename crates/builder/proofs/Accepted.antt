-- What is known of a request that nothing is wrong with.
use mathlib.Core.Path.{◌≡◌}
use mathlib.Core.Bool.{Bool}
use mathlib.Core.List.{[], ◌∷◌}
use Prim.Native.Nat.{ℕ, ◌+◌, ◌≤◌}
use borrow.Author.Tests.{leb-true, eqb-true}
use lib.Dec.{leb, eqb}
use Rattle.refusal.specs.declared.Refusal.TheVariants.{SourceLength, NoRoom}
use Rattle.refusal.specs.Refusals.{fine}
use Rattle.refusal.proofs.Judgements.{all-fine, passed}
use Rattle.banner.specs.declared.Revision.{Revision}
use Rattle.preamble.specs.declared.Header.{Header}
use Rattle.preamble.specs.Layout.{total}
use Rattle.preamble.specs.Judge.{judge_header}
use Rattle.banner.specs.Banner.{judge_own}
use Rattle.body.specs.Body.{wire_length}
use Rattle.builder.specs.Build.{judge_frame, judge_banner, judge_source, judge_abort, judge_room, banner_length}

room : (n space queued : ℕ) → judge_room n space queued ≡ fine → queued + n ≤ space
room n space queued e = leb-true (queued + n) space (passed (leb (queued + n) space) (NoRoom n) e)

pub record Accepted (revision : Revision) (h : Header) (abort : Bool) (source space queued : ℕ) : Type 0 where
  pub header : judge_header h ≡ fine
  pub whole : source ≡ total h
  pub late : judge_abort revision h.count abort ≡ fine
  pub fits : queued + wire_length revision h ≤ space

pub accepted : (revision : Revision) (h : Header) (abort : Bool) (source space queued : ℕ)
    → judge_frame revision h abort source space queued ≡ fine
    → Accepted revision h abort source space queued
unfolding judge_frame
accepted revision h abort source space queued e =
    let f = all-fine (judge_header h ∷ judge_source source (total h) ∷ judge_abort revision h.count abort ∷ judge_room (wire_length revision h) space queued ∷ []) e in
    record {
      header = f.0;
      whole = eqb-true source (total h) (passed (eqb source (total h)) SourceLength f.1.0);
      late = f.1.1.0;
      fits = room (wire_length revision h) space queued f.1.1.1.0;
    }

pub banner-fits : (supported required space queued : ℕ) → judge_banner supported required space queued ≡ fine → queued + banner_length ≤ space
unfolding judge_banner
banner-fits supported required space queued e =
    room banner_length space queued (all-fine (judge_own supported required ∷ judge_room banner_length space queued ∷ []) e).1.0
