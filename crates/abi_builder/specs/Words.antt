-- The builder's calls over words: a header as ten of them, the bytes written, and a refusal as four. Each promises the words of what `banner_done` and `frame_done` say.
use Rattle.std.specs.Prelude.{◌≡◌, List, Bool, cond, ℕ}
use Rattle.refusal.specs.declared.Refusal.TheVariants.{StateContradicts}
use Rattle.refusal.specs.Refusals.{numbers_of}
use Rattle.builder.specs.Build as build
use Rattle.abi.specs.declared.Written.{Written}
use Rattle.abi.specs.Words.{within, revision_by_number, abi_refused, AbiDone, abi_done, header_at, header_limits, in_abi}

-- WHAT BUILDING A FRAME COMES TO: 26, and every byte as it was, where a word of the header is beyond its field
unfoldable pub abi_frame : ℕ → List ℕ → Bool → List ℕ → List ℕ → ℕ → AbiDone
abi_frame revision ws abort source buf queued =
    cond (within header_limits 0 ws) (in_abi (build.frame_done (revision_by_number revision) (header_at 0 ws) abort source buf queued))
    (abi_done (abi_refused (numbers_of StateContradicts)) buf)

-- THE PROMISES: a buffer with so many bytes queued, the answer, and the buffer then
pub record AbiBuiltBanner (supported required : ℕ) (buf : List ℕ) (queued : ℕ) (r : Written) (after : List ℕ) : Type 0 where
  pub promise : abi_done r after ≡ in_abi (build.banner_done supported required buf queued)

pub record AbiBuiltFrame (revision : ℕ) (ws : List ℕ) (abort : Bool) (source buf : List ℕ) (queued : ℕ) (r : Written) (after : List ℕ) : Type 0 where
  pub promise : abi_done r after ≡ abi_frame revision ws abort source buf queued
