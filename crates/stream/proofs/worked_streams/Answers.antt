use Rattle.std.proofs.Common.{refl}
use Rattle.buffer.specs.Le.{number_at}
use Rattle.crc32c.specs.Crc.{crc_of, steps, step}
use Rattle.banner.specs.Bits.{missing, lowest_bit, bit_count}
use Rattle.banner.specs.Banner.{judge_features}
use Rattle.preamble.specs.Judge.{shape_fault, limit_fault, header_of, judge_fields, judge_preamble}
use Rattle.body.specs.End.{ending}
use Rattle.stream.specs.Stream.{frames, stream_trace, trace_of}
use Rattle.stream.specs.Worked.{Worked, frame_rows, banner_rows, preamble_rows, end_rows, spelling_rows, cut_rows}
use Rattle.stream.proofs.worked_streams.Goals as goal

-- each stream computes
pub returns : goal.returns
unfolding Worked frame_rows banner_rows preamble_rows end_rows spelling_rows cut_rows number_at crc_of steps step missing lowest_bit bit_count judge_features shape_fault limit_fault header_of judge_fields judge_preamble ending frames stream_trace trace_of
returns c = (refl, refl, refl, refl, refl, refl)
