-- Worked files: the definition computed on 02's own example and on one for each end.
use Rattle.std.specs.Prelude.{List, [], ◌∷◌, ◌++◌, ℕ, take, set, replicate}
use Prim.Native.String.{String}
use Rattle.buffer.specs.Le.{le}
use Rattle.banner.specs.Banner.{banner_bytes}
use Rattle.stream.specs.Rows.{Row, ◌⇒◌, Holds}
use Rattle.text.specs.Line.{codes}
use Rattle.link.specs.File.{link_text}

abbrev store : List ℕ
store = replicate 8 0

-- a file, and its lines
abbrev prints : List ℕ → String → Row (List ℕ)
prints file text = link_text file store ⇒ codes text

-- a file of one piece, and of two
abbrev one : ℕ → List ℕ → List ℕ
one n body = 1 ∷ 0 ∷ le 4 n ++ body

abbrev two : ℕ → ℕ → List ℕ → List ℕ
two m n bodies = 2 ∷ 0 ∷ le 4 m ++ le 4 n ++ bodies

-- our banner, an empty msgr2.1 frame with tag 16, and an aborted frame with tag 17
abbrev banner : List ℕ
banner = banner_bytes 1 0

abbrev empty : List ℕ
empty = 0x10 ∷ 0x01 ∷ replicate 26 0 ++ (0x8A ∷ 0x7B ∷ 0xDD ∷ 0x5B ∷ [])

abbrev aborted : List ℕ
aborted = 0x11 ∷ 0x02 ∷ 0x01 ∷ 0x00 ∷ 0x00 ∷ 0x00 ∷ 0x08 ∷ 0x00 ∷ 0x02 ∷ 0x00 ∷ 0x00 ∷ 0x00 ∷ 0x08 ∷ 0x00 ∷ replicate 14 0 ++ (0x4E ∷ 0x9B ∷ 0x30 ∷ 0x3A ∷ 0x61 ∷ 0xCF ∷ 0xBC ∷ 0x2F ∷ 0x3E ∷ 0x00 ∷ 0x00 ∷ 0x01 ∷ 0x2D ∷ 0x88 ∷ 0x9E ∷ 0x0E ∷ replicate 8 0)

-- a preamble with tag 17 and one segment of nine bytes, more than the store has
abbrev long : List ℕ
long = 0x11 ∷ 0x01 ∷ 0x09 ∷ 0x00 ∷ 0x00 ∷ 0x00 ∷ 0x08 ∷ replicate 21 0 ++ (0x7A ∷ 0xBA ∷ 0x89 ∷ 0x57 ∷ [])

unfoldable pub file_rows : List (Row (List ℕ))
file_rows =
    -- 02's own example, in one piece and cut in the banner
    prints (one 58 (banner ++ empty)) "banner supported 1 required 0 revision 1\nframe 1 tag 16 segments 1 bytes 0\nend ok 58\n"
    ∷ prints (two 7 51 (banner ++ empty)) "banner supported 1 required 0 revision 1\nframe 1 tag 16 segments 1 bytes 0\nend ok 58\n"
    -- two frames
    ∷ prints (one 90 (banner ++ empty ++ empty)) "banner supported 1 required 0 revision 1\nframe 1 tag 16 segments 1 bytes 0\nframe 2 tag 16 segments 1 bytes 0\nend ok 90\n"
    -- a drop, numbered together with frames; its early report is not printed
    ∷ prints (one 110 (banner ++ aborted ++ empty)) "banner supported 1 required 0 revision 1\ndrop 1 tag 17 segments 2 bytes 3\nframe 2 tag 16 segments 1 bytes 0\nend ok 110\n"
    ∷ prints (one 78 (banner ++ aborted)) "banner supported 1 required 0 revision 1\ndrop 1 tag 17 segments 2 bytes 3\nend ok 78\n"
    -- a msgr2.0 peer
    ∷ prints (one 26 (banner_bytes 0 0)) "banner supported 0 required 0 revision 0\nend ok 26\n"
    -- cut in the banner, in a preamble, behind an early report, and behind a drop
    ∷ prints (one 25 banner) "end cut 25\n"
    ∷ prints (one 30 (banner ++ empty)) "banner supported 1 required 0 revision 1\nend cut 4\n"
    ∷ prints (one 64 (banner ++ aborted)) "banner supported 1 required 0 revision 1\nend cut 38\n"
    ∷ prints (one 82 (banner ++ aborted ++ empty)) "banner supported 1 required 0 revision 1\ndrop 1 tag 17 segments 2 bytes 3\nend cut 4\n"
    -- refused
    ∷ prints (one 58 (set banner 0 0 ++ empty)) "end refused 1 at 8\n"
    ∷ prints (one 60 (banner ++ replicate 34 0)) "banner supported 1 required 0 revision 1\nend refused 6 at 58\n"
    ∷ prints (one 58 (banner ++ long)) "banner supported 1 required 0 revision 1\nend refused 10 at 58\n"
    ∷ prints (one 78 (banner ++ set aborted 51 1)) "banner supported 1 required 0 revision 1\nend refused 24 at 78\n"
    -- 512 pieces, all but the last without a byte
    ∷ prints (0 ∷ 2 ∷ replicate 2044 0 ++ le 4 26 ++ banner) "banner supported 1 required 0 revision 1\nend ok 26\n"
    -- bodies without a byte, and bytes behind the last body
    ∷ prints (0 ∷ 0 ∷ []) "end ok 0\n"
    ∷ prints (two 0 0 banner) "end ok 0\n"
    ∷ prints (one 26 (banner ++ empty)) "banner supported 1 required 0 revision 1\nend ok 26\n"
    -- bad files: no count, a count above 512, no table, and a body that is not all there, of which what is there is walked
    ∷ prints [] "end bad file\n"
    ∷ prints (1 ∷ []) "end bad file\n"
    ∷ prints (1 ∷ 2 ∷ replicate 40 0) "end bad file\n"
    ∷ prints (1 ∷ 2 ∷ replicate 2052 0) "end bad file\n"
    ∷ prints (take 5 (one 26 banner)) "end bad file\n"
    ∷ prints (one 16777216 banner) "banner supported 1 required 0 revision 1\nend bad file\n"
    ∷ prints (two 4294967295 1 banner) "banner supported 1 required 0 revision 1\nend bad file\n"
    ∷ prints (one 58 (take 30 (banner ++ empty))) "banner supported 1 required 0 revision 1\nend bad file\n"
    ∷ prints (one 4294967295 banner) "banner supported 1 required 0 revision 1\nend bad file\n"
    -- a refusal in it wins
    ∷ prints (one 4294967295 (set banner 0 0)) "end refused 1 at 8\n"
    ∷ []

-- THE CLAIM: each file gives its lines
unfoldable pub Worked : Type 0
Worked = Holds file_rows
