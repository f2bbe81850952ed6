use Rattle.std.proofs.Common.{refl}
use Rattle.crc32c.specs.Crc.{crc_of, steps, step}
use Rattle.buffer.specs.Le.{number_at}
use Rattle.banner.specs.Bits.{missing, lowest_bit, bit_count}
use Rattle.banner.specs.Banner.{judge_features}
use Rattle.preamble.specs.Layout.{preamble_front, preamble_bytes}
use Rattle.preamble.specs.Judge.{shape_fault, limit_fault, judge_header, header_of, judge_fields, judge_preamble}
use Rattle.body.specs.Body.{body, frame_bytes}
use Rattle.body.specs.End.{ending}
use Rattle.builder.specs.Build.{judge_frame, judge_banner, frame_done, banner_done}
use Rattle.examples.specs.Examples.{Worked, numbers, revisions, banners, preambles, headers, builds, ends, bytes, buffers}
use Rattle.examples.proofs.worked.Goals as goal

-- each table computes
pub returns : goal.returns
unfolding Worked numbers revisions banners preambles headers builds ends bytes buffers number_at crc_of steps step missing lowest_bit bit_count judge_features shape_fault limit_fault judge_header header_of judge_fields judge_preamble judge_frame judge_banner ending preamble_front preamble_bytes body frame_bytes frame_done banner_done
returns c = (refl, refl, refl, refl, refl, refl, refl, refl, refl)
