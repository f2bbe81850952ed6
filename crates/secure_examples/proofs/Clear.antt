-- The stream up to the frame behind which the switch is made, whatever follows it.
use mathlib.Core.List.{List, ◌++◌}
use mathlib.Core.Path.{◌≡◌, refl}
use Prim.Native.Nat.{ℕ}
use Rattle.buffer.specs.Le.{number_at}
use Rattle.crc32c.specs.Crc.{crc_of, steps, step}
use Rattle.banner.specs.Bits.{missing, lowest_bit, bit_count}
use Rattle.banner.specs.Banner.{judge_features}
use Rattle.preamble.specs.Judge.{shape_fault, limit_fault, header_of, judge_fields, judge_preamble}
use Rattle.body.specs.End.{ending}
use Rattle.stream.specs.Stream.{Trace, frames, stream_trace, trace_of}
use Rattle.stream.specs.Rows.{features, frame_at}
use Rattle.connection.specs.Switched.{entered, spliced}
use Rattle.secure_examples.specs.Parts.{none0}
use Rattle.secure_examples.specs.Examples.{none, store, clear, banner_entry}

pub up-to-switch : (next : ℕ → List ℕ → Trace)
    → spliced 1 next (trace_of (features 1 0) (clear ++ none0) store).entries (trace_of (features 1 0) (clear ++ none0) store).store
    ≡ entered banner_entry (entered (frame_at 58 none store) (next 58 store))
unfolding number_at crc_of steps step missing lowest_bit bit_count judge_features shape_fault limit_fault header_of judge_fields judge_preamble ending frames stream_trace trace_of spliced
up-to-switch next = refl
