-- Worked streams: the definition computed on a few dozen bytes each, as one table.
use Rattle.std.specs.Prelude.{List, [], ◌∷◌, ◌++◌, ℕ, length, take, drop, set, replicate}
use Rattle.refusal.specs.Refusals.{row}
use Rattle.banner.specs.declared.Features.{Features}
use Rattle.banner.specs.declared.Revision.{Revision}
use Rattle.banner.specs.declared.Revision.TheVariants.{Msgr20, Msgr21}
use Rattle.banner.specs.Banner.{banner_bytes}
use Rattle.preamble.specs.declared.Header.{Header}
use Rattle.stream.specs.declared.Event.TheVariants.{Banner, First, Refused}
use Rattle.stream.specs.Stream.{Entry, entry, Trace, trace_of}
use Rattle.stream.specs.Rows.{Row, ◌⇒◌, Holds, features, segment, header, frame_at, drop_at, refusal_at}

-- ---- entries, and a stream's row: our features, the stream, the store; the entries, and the store at the end

abbrev banner_at : ℕ → Features → Revision → List ℕ → Entry
banner_at at peer revision store = entry (Banner peer revision) at store

-- segment 1 early
abbrev first_at : ℕ → Header → List ℕ → Entry
first_at at h store = entry (First h) at store

abbrev missing_at : ℕ → ℕ → ℕ → ℕ → ℕ → List ℕ → Entry
missing_at at number bits lowest count store = entry (Refused (row number bits lowest count)) at store

abbrev worked : Features → List ℕ → List ℕ → List Entry → List ℕ → Row Trace
worked own stream store entries final = trace_of own stream store ⇒ record { entries = entries; store = final }

-- ---- what the rows are made of

-- our features, the banners of a msgr2.1 and of a msgr2.0 peer, a store, and the store with bytes at its front
abbrev ours : Features
ours = features 1 0

abbrev sent21 : List ℕ
sent21 = banner_bytes 1 0

abbrev sent20 : List ℕ
sent20 = banner_bytes 0 0

abbrev store : List ℕ
store = replicate 8 0xAA

abbrev front : List ℕ → List ℕ
front bytes = bytes ++ drop (length bytes) store

-- a stream behind either banner
abbrev in21 : List ℕ → List Entry → List ℕ → Row Trace
in21 stream entries final = worked ours (sent21 ++ stream) store (banner_at 26 (features 1 0) Msgr21 store ∷ entries) final

abbrev in20 : List ℕ → List Entry → List ℕ → Row Trace
in20 stream entries final = worked ours (sent20 ++ stream) store (banner_at 26 (features 0 0) Msgr20 store ∷ entries) final

-- headers, and bytes of segments
abbrev one : Header
one = header 18 1 (segment 2 8) (segment 0 0) (segment 0 0) (segment 0 0)

abbrev two : Header
two = header 17 2 (segment 1 8) (segment 2 8) (segment 0 0) (segment 0 0)

abbrev four : Header
four = header 17 4 (segment 0 8) (segment 1 8) (segment 0 8) (segment 1 4096)

abbrev none : Header
none = header 16 1 (segment 0 8) (segment 0 0) (segment 0 0) (segment 0 0)

abbrev bytes2 : List ℕ
bytes2 = 0x61 ∷ 0x62 ∷ []

abbrev bytes3 : List ℕ
bytes3 = 0x61 ∷ 0x62 ∷ 0x63 ∷ []

-- frames as bytes: with frames of one, two, four and no segments, and the second one aborted
abbrev one_preamble : List ℕ
one_preamble = 0x12 ∷ 0x01 ∷ 0x02 ∷ 0x00 ∷ 0x00 ∷ 0x00 ∷ 0x08 ∷ 0x00 ∷ 0x00 ∷ 0x00 ∷ 0x00 ∷ 0x00 ∷ 0x00 ∷ 0x00 ∷ 0x00 ∷ 0x00 ∷ 0x00 ∷ 0x00 ∷ 0x00 ∷ 0x00 ∷ 0x00 ∷ 0x00 ∷ 0x00 ∷ 0x00 ∷ 0x00 ∷ 0x00 ∷ 0x00 ∷ 0x00 ∷ 0x4F ∷ 0x8B ∷ 0x30 ∷ 0xAA ∷ []

abbrev two_preamble : List ℕ
two_preamble = 0x11 ∷ 0x02 ∷ 0x01 ∷ 0x00 ∷ 0x00 ∷ 0x00 ∷ 0x08 ∷ 0x00 ∷ 0x02 ∷ 0x00 ∷ 0x00 ∷ 0x00 ∷ 0x08 ∷ 0x00 ∷ 0x00 ∷ 0x00 ∷ 0x00 ∷ 0x00 ∷ 0x00 ∷ 0x00 ∷ 0x00 ∷ 0x00 ∷ 0x00 ∷ 0x00 ∷ 0x00 ∷ 0x00 ∷ 0x00 ∷ 0x00 ∷ 0x4E ∷ 0x9B ∷ 0x30 ∷ 0x3A ∷ []

abbrev four_preamble : List ℕ
four_preamble = 0x11 ∷ 0x04 ∷ 0x00 ∷ 0x00 ∷ 0x00 ∷ 0x00 ∷ 0x08 ∷ 0x00 ∷ 0x01 ∷ 0x00 ∷ 0x00 ∷ 0x00 ∷ 0x08 ∷ 0x00 ∷ 0x00 ∷ 0x00 ∷ 0x00 ∷ 0x00 ∷ 0x08 ∷ 0x00 ∷ 0x01 ∷ 0x00 ∷ 0x00 ∷ 0x00 ∷ 0x00 ∷ 0x10 ∷ 0x00 ∷ 0x00 ∷ 0x14 ∷ 0xF5 ∷ 0x75 ∷ 0xF0 ∷ []

abbrev none_preamble : List ℕ
none_preamble = 0x10 ∷ 0x01 ∷ 0x00 ∷ 0x00 ∷ 0x00 ∷ 0x00 ∷ 0x08 ∷ 0x00 ∷ 0x00 ∷ 0x00 ∷ 0x00 ∷ 0x00 ∷ 0x00 ∷ 0x00 ∷ 0x00 ∷ 0x00 ∷ 0x00 ∷ 0x00 ∷ 0x00 ∷ 0x00 ∷ 0x00 ∷ 0x00 ∷ 0x00 ∷ 0x00 ∷ 0x00 ∷ 0x00 ∷ 0x00 ∷ 0x00 ∷ 0xC8 ∷ 0xE3 ∷ 0xAA ∷ 0xB0 ∷ []

abbrev three : Header
three = header 17 3 (segment 2 8) (segment 0 8) (segment 1 8) (segment 0 0)

abbrev three_preamble : List ℕ
three_preamble = 0x11 ∷ 0x03 ∷ 0x02 ∷ 0x00 ∷ 0x00 ∷ 0x00 ∷ 0x08 ∷ 0x00 ∷ 0x00 ∷ 0x00 ∷ 0x00 ∷ 0x00 ∷ 0x08 ∷ 0x00 ∷ 0x01 ∷ 0x00 ∷ 0x00 ∷ 0x00 ∷ 0x08 ∷ 0x00 ∷ 0x00 ∷ 0x00 ∷ 0x00 ∷ 0x00 ∷ 0x00 ∷ 0x00 ∷ 0x00 ∷ 0x00 ∷ 0xCD ∷ 0xD4 ∷ 0xA7 ∷ 0x6E ∷ []

abbrev three21 : List ℕ
three21 = three_preamble ++ (0x61 ∷ 0x62 ∷ 0xC9 ∷ 0xD6 ∷ 0x5D ∷ 0x1D ∷ 0x63 ∷ 0x0E ∷ 0xFF ∷ 0xFF ∷ 0xFF ∷ 0xFF ∷ 0x38 ∷ 0xCC ∷ 0x14 ∷ 0xDF ∷ 0x00 ∷ 0x00 ∷ 0x00 ∷ 0x00 ∷ [])

abbrev three20 : List ℕ
three20 = three_preamble ++ (0x61 ∷ 0x62 ∷ 0x63 ∷ 0x00 ∷ 0xC9 ∷ 0xD6 ∷ 0x5D ∷ 0x1D ∷ 0xFF ∷ 0xFF ∷ 0xFF ∷ 0xFF ∷ 0x38 ∷ 0xCC ∷ 0x14 ∷ 0xDF ∷ 0x00 ∷ 0x00 ∷ 0x00 ∷ 0x00 ∷ [])

abbrev one21 : List ℕ
one21 = one_preamble ++ (0x61 ∷ 0x62 ∷ 0xC9 ∷ 0xD6 ∷ 0x5D ∷ 0x1D ∷ [])

abbrev one20 : List ℕ
one20 = one_preamble ++ (0x61 ∷ 0x62 ∷ 0x00 ∷ 0xC9 ∷ 0xD6 ∷ 0x5D ∷ 0x1D ∷ 0x00 ∷ 0x00 ∷ 0x00 ∷ 0x00 ∷ 0x00 ∷ 0x00 ∷ 0x00 ∷ 0x00 ∷ 0x00 ∷ 0x00 ∷ 0x00 ∷ 0x00 ∷ [])

abbrev two21 : List ℕ
two21 = two_preamble ++ (0x61 ∷ 0xCF ∷ 0xBC ∷ 0x2F ∷ 0x3E ∷ 0x62 ∷ 0x63 ∷ 0x0E ∷ 0x53 ∷ 0xFD ∷ 0xD1 ∷ 0xDB ∷ 0x00 ∷ 0x00 ∷ 0x00 ∷ 0x00 ∷ 0x00 ∷ 0x00 ∷ 0x00 ∷ 0x00 ∷ [])

abbrev two20 : List ℕ
two20 = two_preamble ++ (0x61 ∷ 0x62 ∷ 0x63 ∷ 0x00 ∷ 0xCF ∷ 0xBC ∷ 0x2F ∷ 0x3E ∷ 0x53 ∷ 0xFD ∷ 0xD1 ∷ 0xDB ∷ 0x00 ∷ 0x00 ∷ 0x00 ∷ 0x00 ∷ 0x00 ∷ 0x00 ∷ 0x00 ∷ 0x00 ∷ [])

abbrev dropped21 : List ℕ
dropped21 = two_preamble ++ (0x61 ∷ 0xCF ∷ 0xBC ∷ 0x2F ∷ 0x3E ∷ 0x00 ∷ 0x00 ∷ 0x01 ∷ 0x2D ∷ 0x88 ∷ 0x9E ∷ 0x0E ∷ 0x00 ∷ 0x00 ∷ 0x00 ∷ 0x00 ∷ 0x00 ∷ 0x00 ∷ 0x00 ∷ 0x00 ∷ [])

abbrev dropped20 : List ℕ
dropped20 = two_preamble ++ (0x61 ∷ 0x00 ∷ 0x00 ∷ 0x01 ∷ 0xCF ∷ 0xBC ∷ 0x2F ∷ 0x3E ∷ 0x2D ∷ 0x88 ∷ 0x9E ∷ 0x0E ∷ 0x00 ∷ 0x00 ∷ 0x00 ∷ 0x00 ∷ 0x00 ∷ 0x00 ∷ 0x00 ∷ 0x00 ∷ [])

abbrev four21 : List ℕ
four21 = four_preamble ++ (0x64 ∷ 0x65 ∷ 0x0E ∷ 0xD3 ∷ 0xA8 ∷ 0xDE ∷ 0x0B ∷ 0xFF ∷ 0xFF ∷ 0xFF ∷ 0xFF ∷ 0xD0 ∷ 0x2B ∷ 0xB5 ∷ 0xF9 ∷ [])

abbrev four20 : List ℕ
four20 = four_preamble ++ (0x64 ∷ 0x65 ∷ 0x00 ∷ 0xFF ∷ 0xFF ∷ 0xFF ∷ 0xFF ∷ 0xD3 ∷ 0xA8 ∷ 0xDE ∷ 0x0B ∷ 0xFF ∷ 0xFF ∷ 0xFF ∷ 0xFF ∷ 0xD0 ∷ 0x2B ∷ 0xB5 ∷ 0xF9 ∷ [])

abbrev none21 : List ℕ
none21 = none_preamble

abbrev none20 : List ℕ
none20 = none_preamble ++ (0x00 ∷ 0xFF ∷ 0xFF ∷ 0xFF ∷ 0xFF ∷ 0x00 ∷ 0x00 ∷ 0x00 ∷ 0x00 ∷ 0x00 ∷ 0x00 ∷ 0x00 ∷ 0x00 ∷ 0x00 ∷ 0x00 ∷ 0x00 ∷ 0x00 ∷ [])

-- ---- tables. A row with two numbers has both faults at once: the order decides

-- frames and drops
unfoldable pub frame_rows : List (Row Trace)
frame_rows =
    -- one segment, msgr2.1
    in21 one21 (frame_at 64 one (front bytes2) ∷ []) (front bytes2)
    -- the same in msgr2.0, which the peer's banner chooses
    ∷ in20 one20 (frame_at 77 one (front bytes2) ∷ []) (front bytes2)
    -- two segments, the first one reported early, then a frame with an empty first segment and four in all, which has no early report
    ∷ in21 (two21 ++ four21) (first_at 63 two (front (0x61 ∷ [])) ∷ frame_at 78 two (front bytes3) ∷ frame_at 125 four (front (0x64 ∷ 0x65 ∷ 0x63 ∷ [])) ∷ []) (front (0x64 ∷ 0x65 ∷ 0x63 ∷ []))
    -- four segments, an empty first one, in msgr2.0
    ∷ in20 four20 (frame_at 77 four (front (0x64 ∷ 0x65 ∷ [])) ∷ []) (front (0x64 ∷ 0x65 ∷ []))
    -- an empty frame, reported at the preamble's last byte
    ∷ in21 none21 (frame_at 58 none store ∷ []) store
    -- and in msgr2.0, where it has an epilogue
    ∷ in20 none20 (frame_at 75 none store ∷ []) store
    -- a drop, then a frame
    ∷ in21 (dropped21 ++ one21) (first_at 63 two (front (0x61 ∷ [])) ∷ drop_at 78 two (front (0 ∷ 0 ∷ 0 ∷ [])) ∷ frame_at 116 one (front (0x61 ∷ 0x62 ∷ 0 ∷ [])) ∷ []) (front (0x61 ∷ 0x62 ∷ 0 ∷ []))
    -- the same in msgr2.0
    ∷ in20 (dropped20 ++ one20) (drop_at 78 two (front (0 ∷ 0 ∷ 0 ∷ [])) ∷ frame_at 129 one (front (0x61 ∷ 0x62 ∷ 0 ∷ [])) ∷ []) (front (0x61 ∷ 0x62 ∷ 0 ∷ []))
    -- three segments, the second one empty: segment 1 is reported early at its own checksum's last byte
    ∷ in21 three21 (first_at 64 three (front bytes2) ∷ frame_at 78 three (front bytes3) ∷ []) (front bytes3)
    ∷ in20 three20 (frame_at 78 three (front bytes3) ∷ []) (front bytes3)
    ∷ []

-- banners, and refusals 1 to 4 and 16
unfoldable pub banner_rows : List (Row Trace)
banner_rows =
    -- payloads of 17 and 1,024 bytes, of which the first 16 are read
    worked ours (set sent21 8 17 ++ (0xFF ∷ []) ++ none21) store (banner_at 27 (features 1 0) Msgr21 store ∷ frame_at 59 none store ∷ []) store
    ∷ worked ours (set (set sent21 8 0x00) 9 0x04 ++ replicate 1008 0xFF ++ none21) store (banner_at 1034 (features 1 0) Msgr21 store ∷ frame_at 1066 none store ∷ []) store
    -- 1, with more bytes behind it
    ∷ worked ours (set sent21 7 0x0B ++ bytes3) store (refusal_at 8 1 0 store ∷ []) store
    -- 1 and 2
    ∷ worked ours (set (set sent21 0 0x43) 8 15) store (refusal_at 8 1 0 store ∷ []) store
    -- 2, below and above
    ∷ worked ours (set sent21 8 15) store (refusal_at 10 2 15 store ∷ []) store
    ∷ worked ours (set (set sent21 8 0x01) 9 0x04) store (refusal_at 10 2 1025 store ∷ []) store
    -- 2 and 3
    ∷ worked ours (set (banner_bytes 1 2) 8 15) store (refusal_at 10 2 15 store ∷ []) store
    -- 3
    ∷ worked ours (banner_bytes 3 2) store (missing_at 26 3 2 1 1 store ∷ []) store
    -- 3, at a longer payload's last byte
    ∷ worked ours (set (banner_bytes 1 2) 8 17 ++ (0x00 ∷ [])) store (missing_at 27 3 2 1 1 store ∷ []) store
    -- 3 and 4
    ∷ worked (features 1 1) (banner_bytes 0 2) store (missing_at 26 3 2 1 1 store ∷ []) store
    -- 4
    ∷ worked (features 1 1) sent20 store (missing_at 26 4 1 0 1 store ∷ []) store
    -- starts refused with 16: no entry
    ∷ worked (features 2 0) sent21 store [] store
    ∷ worked (features 0 1) sent21 store [] store
    -- the peer's features are 64 bits each, little-endian, and the revision is by their bit 0
    ∷ worked ours (take 10 sent21 ++ (0x11 ∷ 0x22 ∷ 0x33 ∷ 0x44 ∷ 0x55 ∷ 0x66 ∷ 0x77 ∷ 0x88 ∷ 0x01 ∷ 0x00 ∷ 0x00 ∷ 0x00 ∷ 0x00 ∷ 0x00 ∷ 0x00 ∷ 0x00 ∷ [])) store (banner_at 26 (features 0x8877665544332211 1) Msgr21 store ∷ []) store
    ∷ worked ours (take 18 sent21 ++ (0x01 ∷ 0x02 ∷ 0x03 ∷ 0x04 ∷ 0x05 ∷ 0x06 ∷ 0x07 ∷ 0x88 ∷ [])) store (missing_at 26 3 0x8807060504030200 9 13 store ∷ []) store
    -- msgr2.0 where we do not support bit 0 ourselves
    ∷ worked (features 0 0) (sent21 ++ none20) store (banner_at 26 (features 1 0) Msgr20 store ∷ frame_at 75 none store ∷ []) store
    -- 4, at a longer payload's last byte
    ∷ worked (features 1 1) (set sent20 8 17 ++ (0xFF ∷ [])) store (missing_at 27 4 1 0 1 store ∷ []) store
    ∷ []

-- refusals 5 to 10
unfoldable pub preamble_rows : List (Row Trace)
preamble_rows =
    -- 5
    in21 (set one21 28 0) (refusal_at 58 5 28 store ∷ []) store
    -- 5 and 6
    ∷ in21 (set (replicate 40 0) 31 1) (refusal_at 58 5 28 store ∷ []) store
    -- 6: a preamble of zeros
    ∷ in21 (replicate 40 0) (refusal_at 58 6 1 store ∷ []) store
    -- 6 and 7
    ∷ in21 (0x11 ∷ 0x00 ∷ 0x00 ∷ 0x00 ∷ 0x00 ∷ 0x00 ∷ 0x00 ∷ 0x00 ∷ 0x00 ∷ 0x00 ∷ 0x00 ∷ 0x00 ∷ 0x00 ∷ 0x00 ∷ 0x00 ∷ 0x00 ∷ 0x00 ∷ 0x00 ∷ 0x00 ∷ 0x00 ∷ 0x00 ∷ 0x00 ∷ 0x00 ∷ 0x00 ∷ 0x00 ∷ 0x00 ∷ 0x01 ∷ 0x00 ∷ 0x69 ∷ 0xFA ∷ 0x54 ∷ 0xB4 ∷ []) (refusal_at 58 6 1 store ∷ []) store
    -- 7 and 8
    ∷ in21 (0x15 ∷ 0x01 ∷ 0x00 ∷ 0x00 ∷ 0x00 ∷ 0x00 ∷ 0x00 ∷ 0x00 ∷ 0x00 ∷ 0x00 ∷ 0x00 ∷ 0x00 ∷ 0x00 ∷ 0x00 ∷ 0x00 ∷ 0x00 ∷ 0x00 ∷ 0x00 ∷ 0x00 ∷ 0x00 ∷ 0x00 ∷ 0x00 ∷ 0x00 ∷ 0x00 ∷ 0x00 ∷ 0x00 ∷ 0x01 ∷ 0x01 ∷ 0xF8 ∷ 0x2A ∷ 0x8F ∷ 0x9B ∷ []) (refusal_at 58 7 26 store ∷ []) store
    -- 8 and 9
    ∷ in20 (0x15 ∷ 0x04 ∷ 0x00 ∷ 0x00 ∷ 0x00 ∷ 0x40 ∷ 0x00 ∷ 0x00 ∷ 0x00 ∷ 0x00 ∷ 0x00 ∷ 0x40 ∷ 0x00 ∷ 0x00 ∷ 0x00 ∷ 0x00 ∷ 0x00 ∷ 0x40 ∷ 0x00 ∷ 0x00 ∷ 0x00 ∷ 0x00 ∷ 0x00 ∷ 0x40 ∷ 0x00 ∷ 0x00 ∷ 0x00 ∷ 0x00 ∷ 0x0C ∷ 0x35 ∷ 0xE1 ∷ 0xB4 ∷ []) (refusal_at 58 8 21 store ∷ []) store
    -- 9 and 10, by lengths whose sum is 0 in 32 bits (bench case 12)
    ∷ in20 (0x11 ∷ 0x04 ∷ 0x00 ∷ 0x00 ∷ 0x00 ∷ 0x40 ∷ 0x00 ∷ 0x00 ∷ 0x00 ∷ 0x00 ∷ 0x00 ∷ 0x40 ∷ 0x00 ∷ 0x00 ∷ 0x00 ∷ 0x00 ∷ 0x00 ∷ 0x40 ∷ 0x00 ∷ 0x00 ∷ 0x00 ∷ 0x00 ∷ 0x00 ∷ 0x40 ∷ 0x00 ∷ 0x00 ∷ 0x00 ∷ 0x00 ∷ 0x3E ∷ 0xF4 ∷ 0x6F ∷ 0x37 ∷ []) (refusal_at 58 9 2 store ∷ []) store
    -- 10: one byte short
    ∷ worked ours (sent21 ++ one21) (0xAA ∷ []) (banner_at 26 (features 1 0) Msgr21 (0xAA ∷ []) ∷ refusal_at 58 10 2 (0xAA ∷ []) ∷ []) (0xAA ∷ [])
    -- a store with no byte to spare
    ∷ worked ours (sent21 ++ one21) (0xAA ∷ 0xAA ∷ []) (banner_at 26 (features 1 0) Msgr21 (0xAA ∷ 0xAA ∷ []) ∷ frame_at 64 one bytes2 ∷ []) bytes2
    ∷ []

-- the end of a body: 24, 12, drop, 11
unfoldable pub end_rows : List (Row Trace)
end_rows =
    -- msgr2.1: 11 at segment 1's checksum, although the late byte is wrong too
    in21 (set (set two21 32 0) 39 0x0F) (refusal_at 63 11 1 (front (0 ∷ 0 ∷ 0 ∷ [])) ∷ []) (front (0 ∷ 0 ∷ 0 ∷ []))
    -- 11 at the end
    ∷ in21 (set two21 38 0) (first_at 63 two (front (0x61 ∷ [])) ∷ refusal_at 78 11 2 (front (0 ∷ 0 ∷ 0 ∷ [])) ∷ []) (front (0 ∷ 0 ∷ 0 ∷ []))
    -- 11: segments 2 and 4, then 4 alone
    ∷ in21 (set (set four21 32 0) 33 0) (refusal_at 73 11 2 (front (0 ∷ 0 ∷ [])) ∷ []) (front (0 ∷ 0 ∷ []))
    ∷ in21 (set four21 46 0) (refusal_at 73 11 4 (front (0 ∷ 0 ∷ [])) ∷ []) (front (0 ∷ 0 ∷ []))
    -- 12
    ∷ in21 (set two21 39 0x0F) (first_at 63 two (front (0x61 ∷ [])) ∷ refusal_at 78 12 0x0F (front (0 ∷ 0 ∷ 0 ∷ [])) ∷ []) (front (0 ∷ 0 ∷ 0 ∷ []))
    -- 12 and 11, with a frame behind it
    ∷ in21 (set (set two21 38 0) 39 0x1F ++ none21) (first_at 63 two (front (0x61 ∷ [])) ∷ refusal_at 78 12 0x1F (front (0 ∷ 0 ∷ 0 ∷ [])) ∷ []) (front (0 ∷ 0 ∷ 0 ∷ []))
    -- a drop and 11
    ∷ in21 (set (set two21 38 0) 39 0xE1) (first_at 63 two (front (0x61 ∷ [])) ∷ drop_at 78 two (front (0 ∷ 0 ∷ 0 ∷ [])) ∷ []) (front (0 ∷ 0 ∷ 0 ∷ []))
    -- what is not looked at: the high four bits of late_status
    ∷ in21 (set two21 39 0x1E) (first_at 63 two (front (0x61 ∷ [])) ∷ frame_at 78 two (front bytes3) ∷ []) (front bytes3)
    -- msgr2.0: 11 at the end for segment 1, where segment 2 differs too
    ∷ in20 (set (set two20 36 0) 40 0) (refusal_at 78 11 1 (front (0 ∷ 0 ∷ 0 ∷ [])) ∷ []) (front (0 ∷ 0 ∷ 0 ∷ []))
    -- 11 at segment 4
    ∷ in20 (set four20 33 0) (refusal_at 77 11 4 (front (0 ∷ 0 ∷ [])) ∷ []) (front (0 ∷ 0 ∷ []))
    -- a drop and 11
    ∷ in20 (set (set two20 32 0) 35 0x01) (drop_at 78 two (front (0 ∷ 0 ∷ 0 ∷ [])) ∷ []) (front (0 ∷ 0 ∷ 0 ∷ []))
    -- 11: the checksum of an empty used segment, and the last of three
    ∷ in21 (set three21 40 0) (first_at 64 three (front bytes2) ∷ refusal_at 78 11 2 (front (0 ∷ 0 ∷ 0 ∷ [])) ∷ []) (front (0 ∷ 0 ∷ 0 ∷ []))
    ∷ in21 (set three21 38 0) (first_at 64 three (front bytes2) ∷ refusal_at 78 11 3 (front (0 ∷ 0 ∷ 0 ∷ [])) ∷ []) (front (0 ∷ 0 ∷ 0 ∷ []))
    -- 11 at segment 1's checksum: its last byte
    ∷ in21 (set two21 36 0) (refusal_at 63 11 1 (front (0 ∷ 0 ∷ 0 ∷ [])) ∷ []) (front (0 ∷ 0 ∷ 0 ∷ []))
    -- 11 of a single segment in msgr2.1
    ∷ in21 (set one21 33 0) (refusal_at 64 11 1 (front (0 ∷ 0 ∷ [])) ∷ []) (front (0 ∷ 0 ∷ []))
    ∷ []

-- the end of a body: 24 (02, K10), before all else there
unfoldable pub spelling_rows : List (Row Trace)
spelling_rows =
    -- 24: the fields of segments 3 and 4, then that of 4 alone, with 12 and 11 at once
    in21 (set (set two21 44 0x01) 48 0x01) (first_at 63 two (front (0x61 ∷ [])) ∷ refusal_at 78 24 3 (front (0 ∷ 0 ∷ 0 ∷ [])) ∷ []) (front (0 ∷ 0 ∷ 0 ∷ []))
    ∷ in21 (set (set (set two21 38 0) 39 0x0F) 51 0x80) (first_at 63 two (front (0x61 ∷ [])) ∷ refusal_at 78 24 4 (front (0 ∷ 0 ∷ 0 ∷ [])) ∷ []) (front (0 ∷ 0 ∷ 0 ∷ []))
    -- 24 of an aborted frame
    ∷ in21 (set (set two21 39 0x01) 47 0x01) (first_at 63 two (front (0x61 ∷ [])) ∷ refusal_at 78 24 3 (front (0 ∷ 0 ∷ 0 ∷ [])) ∷ []) (front (0 ∷ 0 ∷ 0 ∷ []))
    -- 24: late_flags 2, and 3, with 11 at once
    ∷ in20 (set two20 35 0x02) (refusal_at 78 24 0 (front (0 ∷ 0 ∷ 0 ∷ [])) ∷ []) (front (0 ∷ 0 ∷ 0 ∷ []))
    ∷ in20 (set (set two20 32 0) 35 0x03) (refusal_at 78 24 0 (front (0 ∷ 0 ∷ 0 ∷ [])) ∷ []) (front (0 ∷ 0 ∷ 0 ∷ []))
    -- 24: the field of segment 4 before late_flags, that of segment 3 of an aborted frame, and a frame behind it
    ∷ in20 (set (set two20 35 0xFE) 48 0x01) (refusal_at 78 24 4 (front (0 ∷ 0 ∷ 0 ∷ [])) ∷ []) (front (0 ∷ 0 ∷ 0 ∷ []))
    ∷ in20 (set (set two20 35 0x01) 44 0x01 ++ two20) (refusal_at 78 24 3 (front (0 ∷ 0 ∷ 0 ∷ [])) ∷ []) (front (0 ∷ 0 ∷ 0 ∷ []))
    -- 24 and 11 of a complete frame, by a field and by late_flags
    ∷ in21 (set (set two21 38 0) 44 0x01) (first_at 63 two (front (0x61 ∷ [])) ∷ refusal_at 78 24 3 (front (0 ∷ 0 ∷ 0 ∷ [])) ∷ []) (front (0 ∷ 0 ∷ 0 ∷ []))
    ∷ in20 (set (set two20 32 0) 44 0x01) (refusal_at 78 24 3 (front (0 ∷ 0 ∷ 0 ∷ [])) ∷ []) (front (0 ∷ 0 ∷ 0 ∷ []))
    ∷ in20 (set (set two20 32 0) 35 0x02) (refusal_at 78 24 0 (front (0 ∷ 0 ∷ 0 ∷ [])) ∷ []) (front (0 ∷ 0 ∷ 0 ∷ []))
    -- 24 in msgr2.0: the lowest of two fields
    ∷ in20 (set (set two20 44 0x01) 48 0x01) (refusal_at 78 24 3 (front (0 ∷ 0 ∷ 0 ∷ [])) ∷ []) (front (0 ∷ 0 ∷ 0 ∷ []))
    -- 24 in msgr2.0: each other bit of late_flags
    ∷ in20 (set two20 35 0x04) (refusal_at 78 24 0 (front (0 ∷ 0 ∷ 0 ∷ [])) ∷ []) (front (0 ∷ 0 ∷ 0 ∷ []))
    ∷ in20 (set two20 35 0x08) (refusal_at 78 24 0 (front (0 ∷ 0 ∷ 0 ∷ [])) ∷ []) (front (0 ∷ 0 ∷ 0 ∷ []))
    ∷ in20 (set two20 35 0x10) (refusal_at 78 24 0 (front (0 ∷ 0 ∷ 0 ∷ [])) ∷ []) (front (0 ∷ 0 ∷ 0 ∷ []))
    ∷ in20 (set two20 35 0x21) (refusal_at 78 24 0 (front (0 ∷ 0 ∷ 0 ∷ [])) ∷ []) (front (0 ∷ 0 ∷ 0 ∷ []))
    ∷ in20 (set two20 35 0x41) (refusal_at 78 24 0 (front (0 ∷ 0 ∷ 0 ∷ [])) ∷ []) (front (0 ∷ 0 ∷ 0 ∷ []))
    ∷ in20 (set two20 35 0x80) (refusal_at 78 24 0 (front (0 ∷ 0 ∷ 0 ∷ [])) ∷ []) (front (0 ∷ 0 ∷ 0 ∷ []))
    -- 24 of a single segment in msgr2.0: an empty segment's checksum in segment 2's field
    ∷ in20 (take 39 one20 ++ replicate 4 0xFF ++ drop 43 one20) (refusal_at 77 24 2 (front (0 ∷ 0 ∷ [])) ∷ []) (front (0 ∷ 0 ∷ []))
    -- 24 of three segments
    ∷ in21 (set three21 50 0x01) (first_at 64 three (front bytes2) ∷ refusal_at 78 24 4 (front (0 ∷ 0 ∷ 0 ∷ [])) ∷ []) (front (0 ∷ 0 ∷ 0 ∷ []))
    ∷ in20 (set three20 49 0x01) (refusal_at 78 24 4 (front (0 ∷ 0 ∷ 0 ∷ [])) ∷ []) (front (0 ∷ 0 ∷ 0 ∷ []))
    ∷ []

-- streams that end before a judgement
unfoldable pub cut_rows : List (Row Trace)
cut_rows =
    -- one byte before 1, 2 and 3
    worked ours (take 7 (set sent21 0 0)) store [] store
    ∷ worked ours (take 9 (set sent21 8 15)) store [] store
    ∷ worked ours (take 25 (banner_bytes 1 2)) store [] store
    -- in the banner
    ∷ worked ours (take 25 sent21) store [] store
    -- one byte before 5
    ∷ in21 (replicate 31 0xFF) [] store
    -- one byte before 11 at segment 1
    ∷ in21 (take 36 (set two21 32 0)) [] (front (0 ∷ []))
    -- one byte before segment 1 is reported
    ∷ in21 (take 36 two21) [] (front (take 1 bytes3))
    -- before and behind the first byte of segment 2
    ∷ in21 (take 37 two21) (first_at 63 two (front (0x61 ∷ [])) ∷ []) (front (take 1 bytes3))
    ∷ in21 (take 38 two21) (first_at 63 two (front (0x61 ∷ [])) ∷ []) (front (take 2 bytes3))
    -- in an epilogue
    ∷ in21 (take 51 two21) (first_at 63 two (front (0x61 ∷ [])) ∷ []) (front bytes3)
    ∷ in20 (take 51 two20) [] (front bytes3)
    ∷ []

-- THE CLAIM: the definition gives the entries of each row
unfoldable pub Worked : Type 0
Worked = Holds frame_rows × Holds banner_rows × Holds preamble_rows × Holds end_rows × Holds spelling_rows × Holds cut_rows
