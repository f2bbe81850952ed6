use mathlib.Core.Path.{refl}
use Rattle.buffer.specs.Le.{number_at}
use Rattle.crc32c.specs.Crc.{crc_of, steps, step}
use Rattle.banner.specs.Bits.{missing, lowest_bit, bit_count}
use Rattle.banner.specs.Banner.{judge_features}
use Rattle.preamble.specs.Judge.{shape_fault, limit_fault, header_of, judge_fields, judge_preamble}
use Rattle.body.specs.End.{ending}
use Rattle.stream.specs.Stream.{frames, stream_trace, trace_of}
use Rattle.stream.specs.Rows.{Holds}
use Rattle.text.specs.Line.{decimal_by, text_of}
use Rattle.link.specs.Lines.{lines_of, end_of}
use Rattle.link.specs.File.{sum_of, link_text}
use Rattle.link.specs.Worked.{Worked, file_rows}
use Rattle.link.proofs.worked_files.Goals as goal

file_rows_hold : Holds file_rows
unfolding file_rows number_at crc_of steps step missing lowest_bit bit_count judge_features shape_fault limit_fault header_of judge_fields judge_preamble ending frames stream_trace trace_of decimal_by text_of lines_of end_of sum_of link_text
file_rows_hold = refl

pub returns : goal.returns
unfolding Worked
returns c = file_rows_hold
