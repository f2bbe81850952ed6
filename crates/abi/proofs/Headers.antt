-- Headers of words.
use mathlib.Core.Path.{◌≡◌}
use mathlib.Core.List.{List}
use Prim.Native.Nat.{ℕ, ◌<◌}
use native.Mathlib.Omega.{arith}
use lib.Dec.{lit<}
use Rattle.preamble.specs.declared.Header.{Header}
use Rattle.preamble.specs.Reading.{SegmentFits, HeaderFits}
use Rattle.abi.specs.Words.{Within, low_u8, low_u16, low_u32, segment_at, header_at, header_words, header_limits}
use Rattle.abi.proofs.Limits.{bound}

-- words within their limits are their own low bits
pub small8 : (n : ℕ) → n < 256 → low_u8 n ≡ n
small8 n h = omega arith

pub small16 : (n : ℕ) → n < 65536 → low_u16 n ≡ n
small16 n h = omega arith

pub small32 : (n : ℕ) → n < 4294967296 → low_u32 n ≡ n
small32 n h = omega arith

segment-fits : (i : ℕ) (ws : List ℕ) → SegmentFits (segment_at i ws)
segment-fits i ws = record { len = omega arith; align = omega arith }

-- the header that any words stand for is of its types
pub header-fits : (i : ℕ) (ws : List ℕ) → HeaderFits (header_at i ws)
header-fits i ws = record {
  tag = omega arith;
  count = omega arith;
  s1 = segment-fits _ ws;
  s2 = segment-fits _ ws;
  s3 = segment-fits _ ws;
  s4 = segment-fits _ ws;
}

pub header_typed : (h : Header) → Within header_limits 0 (header_words h) → HeaderFits h
header_typed h w =
    let at = bound header_limits 0 (header_words h) w in
    record {
      tag = omega (arith, at 0 (lit< tt));
      count = omega (arith, at 1 (lit< tt));
      s1 = record { len = omega (arith, at 2 (lit< tt)); align = omega (arith, at 3 (lit< tt)) };
      s2 = record { len = omega (arith, at 4 (lit< tt)); align = omega (arith, at 5 (lit< tt)) };
      s3 = record { len = omega (arith, at 6 (lit< tt)); align = omega (arith, at 7 (lit< tt)) };
      s4 = record { len = omega (arith, at 8 (lit< tt)); align = omega (arith, at 9 (lit< tt)) };
    }

-- a header from its words
pub header-back : (h : Header) → HeaderFits h → header_at 0 (header_words h) ≡ h
header-back h f =
    rw (
      small8 h.tag f.tag,
      small8 h.count f.count,
      small32 h.s1.len f.s1.len,
      small16 h.s1.align f.s1.align,
      small32 h.s2.len f.s2.len,
      small16 h.s2.align f.s2.align,
      small32 h.s3.len f.s3.len,
      small16 h.s3.align f.s3.align,
      small32 h.s4.len f.s4.len,
      small16 h.s4.align f.s4.align,
    )
