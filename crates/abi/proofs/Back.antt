-- Revisions, marks, headers and refusals that are read back from their words, and those words from them.
use mathlib.Core.Path.{◌≡◌, refl}
use mathlib.Core.Bool.{Bool, true, false}
use Prim.Native.Nat.{ℕ, zero, suc, ◌≤◌}
use native.Mathlib.Omega.{arith}
use Rattle.refusal.specs.declared.Numbers.{Numbers}
use Rattle.refusal.specs.Refusals.{row}
use Rattle.banner.specs.declared.Revision.{Revision}
use Rattle.banner.specs.declared.Revision.TheVariants.{Msgr20, Msgr21}
use Rattle.preamble.specs.declared.Header.{Header}
use Rattle.abi.specs.Words.{Within, revision_number, revision_by_number, mark_number, mark_of, low_u8, header_words, header_at, header_limits}
use Rattle.abi.proofs.Headers.{small8, header_typed, header-back}

pub revision-back : (v : Revision) → revision_by_number (revision_number v) ≡ v
revision-back Msgr20 = refl
revision-back Msgr21 = refl

pub mark-back : (b : Bool) → mark_of (mark_number b) ≡ b
mark-back true = refl
mark-back false = refl

pub revision_known : (v : Revision) → revision_number v ≤ 1
revision_known Msgr20 = omega arith
revision_known Msgr21 = omega arith

pub mark_known : (b : Bool) → mark_number b ≤ 1
mark_known true = omega arith
mark_known false = omega arith

pub revision-number-back : (n : ℕ) → n ≤ 1 → revision_number (revision_by_number n) ≡ n
revision-number-back zero h = refl
revision-number-back (suc n) h =
    let e : n ≡ 0 = omega arith in
    rw e

pub mark-number-back : (n : ℕ) → n ≤ 1 → mark_number (mark_of n) ≡ n
mark-number-back zero h = refl
mark-number-back (suc n) h =
    let e : n ≡ 0 = omega arith in
    rw e

pub header_in_lem : (h : Header) → Within header_limits 0 (header_words h) → header_at 0 (header_words h) ≡ h
header_in_lem h w = header-back h (header_typed h w)

pub refusal_in : (n : Numbers) → n.number ≤ 255 → row (low_u8 n.number) n.first n.second n.third ≡ n
refusal_in n h = rw (small8 n.number (omega arith))
