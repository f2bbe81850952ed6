-- What a build promises, in words.
use mathlib.Core.Path.{◌≡◌, ap, ◌∙◌}
use mathlib.Core.List.{List}
use mathlib.Core.Bool.{Bool, true, false}
use Prim.Native.Nat.{ℕ}
use Rattle.refusal.specs.declared.Refusal.TheVariants.{StateContradicts}
use Rattle.refusal.specs.Refusals.{numbers_of}
use Rattle.banner.specs.declared.Revision.{Revision}
use Rattle.preamble.specs.declared.Header.{Header}
use Rattle.std.specs.Prelude.{Result}
use Rattle.refusal.specs.declared.Refusal.{Refusal}
use Rattle.refusal.specs.Writes.{outcome_of}
use Rattle.builder.specs.Build.{frame_done, BuiltBanner, BuiltFrame}
use Rattle.abi.specs.declared.Written.{Written}
use Rattle.abi.specs.Words.{within, revision_by_number, abi_refused, abi_done, header_at, header_limits, in_abi, abi_result}
use Rattle.abi_builder.specs.Words.{abi_frame, AbiBuiltBanner, AbiBuiltFrame}

pub banner-written : {supported required : ℕ} {buf : List ℕ} {queued : ℕ} {b : Result ℕ Refusal} {w : Written} {after : List ℕ}
    → BuiltBanner supported required buf queued b after → w ≡ abi_result (outcome_of b) → AbiBuiltBanner supported required buf queued w after
banner-written {after = after} h e = record { promise = ap (λ (x : Written). abi_done x after) e ∙ ap in_abi h.promise }

-- a word of the header is beyond its field
pub frame-beyond : (revision : ℕ) (ws : List ℕ) (abort : Bool) (source buf : List ℕ) (queued : ℕ) (w : Written)
    → within header_limits 0 ws ≡ false → w ≡ abi_refused (numbers_of StateContradicts) → AbiBuiltFrame revision ws abort source buf queued w buf
unfolding abi_frame
frame-beyond revision ws abort source buf queued w k e = record { promise = rw k (ap (λ (x : Written). abi_done x buf) e) }

pub frame-written : (revision : ℕ) (ws : List ℕ) (abort : Bool) (source buf : List ℕ) (queued : ℕ) (v : Revision) (h : Header) (b : Result ℕ Refusal) (w : Written) (after : List ℕ)
    → within header_limits 0 ws ≡ true → v ≡ revision_by_number revision → h ≡ header_at 0 ws → BuiltFrame v h abort source buf queued b after → w ≡ abi_result (outcome_of b)
    → AbiBuiltFrame revision ws abort source buf queued w after
unfolding abi_frame
frame-written revision ws abort source buf queued v h b w after k p q d e =
    let r : in_abi (frame_done v h abort source buf queued) ≡ in_abi (frame_done (revision_by_number revision) (header_at 0 ws) abort source buf queued) = rw (p, q) in
    record { promise = rw k (ap (λ (x : Written). abi_done x after) e ∙ ap in_abi d.promise ∙ r) }
