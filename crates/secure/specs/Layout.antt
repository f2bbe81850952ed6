-- Sealed frames (000, "msgr2.1-secure mode"; 02, K4): up to three parts, each sealed by itself with a nonce of its own.
use Rattle.std.specs.Prelude.{ℕ, zero, suc, ◌+◌, ◌-◌, ◌%◌, ◌^◌, Bool, cond, List, [], ◌∷◌, ◌++◌, length, take, drop, replicate, nat_le, slice_index}
use Rattle.buffer.specs.Le.{le, number_at}
use Rattle.banner.specs.declared.Revision.TheVariants.{Msgr21}
use Rattle.preamble.specs.declared.Header.{Header}
use Rattle.preamble.specs.Layout.{preamble_bytes}
use Rattle.body.specs.Body.{no_epilogue, late_byte, rest_sent}
use Rattle.aes.specs.Aes.{State}
use Rattle.gcm.specs.Gcm.{sealed_by}

-- ---- nonces

-- as many as the counter has values: the starting one is never used again
abbrev pub all_nonces : ℕ
all_nonces = 2 ^ 64

-- the nonce behind another: its first 4 bytes are fixed, its last 8 a little-endian counter that goes up by one and wraps
abbrev pub nonce_of : List ℕ → ℕ → List ℕ
nonce_of nonce counter = slice_index nonce 0 ∷ slice_index nonce 1 ∷ slice_index nonce 2 ∷ slice_index nonce 3 ∷ le 8 counter

unfoldable pub next_nonce : List ℕ → List ℕ
next_nonce nonce = nonce_of nonce ((number_at 8 4 nonce + 1) % 2 ^ 64)

-- so many parts further on
unfoldable pub nonce_after : ℕ → List ℕ → List ℕ
nonce_after zero nonce = nonce
nonce_after (suc n) nonce = nonce_after n (next_nonce nonce)

-- ---- padding

-- the zeros behind n bytes, out to a multiple of 16, and n with them
abbrev pub padding : ℕ → ℕ
padding n = (16 - n % 16) % 16

abbrev pub round_up : ℕ → ℕ
round_up n = n + padding n

abbrev pub padded : List ℕ → List ℕ
padded bytes = bytes ++ replicate (padding (length bytes)) 0

-- ---- the texts of the parts, before they are sealed

-- the inline buffer: segment 1 as far as it goes in, and zeros
abbrev pub inline_length : ℕ
inline_length = 48

abbrev pub inlined : List ℕ → List ℕ
inlined first = take inline_length first ++ replicate (inline_length - length first) 0

unfoldable pub first_text : Header → List ℕ → List ℕ
first_text h first = preamble_bytes h ++ inlined first

-- what of segment 1 did not go in
abbrev pub second_text : List ℕ → List ℕ
second_text first = padded (drop inline_length first)

-- the epilogue: late_status and 15 zeros
abbrev pub epilogue16 : ℕ → List ℕ
epilogue16 late = late ∷ replicate 15 0

-- segments of these lengths, each padded, and the epilogue behind them
abbrev pub padded_from : List ℕ → ℕ → List ℕ → List ℕ
padded_from [] late rest = epilogue16 late
padded_from (n ∷ ns) late rest = padded (take n rest) ++ padded_from ns late (drop n rest)

abbrev pub last_lengths : Header → List ℕ
last_lengths h = h.s2.len ∷ h.s3.len ∷ h.s4.len ∷ []

unfoldable pub last_text : Header → ℕ → List ℕ → List ℕ
last_text h late rest = padded_from (last_lengths h) late rest

-- there is no second part where segment 1 fits into the inline buffer, and no last part where there is one segment only
abbrev pub no_second_part : Header → Bool
no_second_part h = nat_le h.s1.len inline_length

abbrev pub no_last_part : Header → Bool
no_last_part h = no_epilogue Msgr21 h

abbrev pub unless_none : Bool → List ℕ → List (List ℕ)
unless_none none text = cond none [] (text ∷ [])

unfoldable pub later_texts : Header → ℕ → List ℕ → List ℕ → List (List ℕ)
later_texts h late first rest = unless_none (no_second_part h) (second_text first) ++ unless_none (no_last_part h) (last_text h late rest)

-- THE TEXTS OF A FRAME, whole or aborted, of segments whose bytes, one behind the other, are source
unfoldable pub texts : Header → Bool → List ℕ → List (List ℕ)
texts h abort source =
    first_text h (take h.s1.len source)
    ∷ later_texts h (late_byte Msgr21 abort) (take h.s1.len source) (rest_sent abort (drop h.s1.len source))

-- ---- the parts, and the frame on the wire

pub record Part : Type 0 where
  pub nonce : List ℕ
  pub text : List ℕ

abbrev pub part : List ℕ → List ℕ → Part
part nonce text = record { nonce = nonce; text = text }

-- each text with a nonce, from the one given on
abbrev pub parts_from : List ℕ → List (List ℕ) → List Part
parts_from nonce [] = []
parts_from nonce (t ∷ ts) = part nonce t ∷ parts_from (next_nonce nonce) ts

abbrev pub nonces_of : List Part → List (List ℕ)
nonces_of [] = []
nonces_of (p ∷ ps) = p.nonce ∷ nonces_of ps

-- w are the round keys of the key
abbrev pub sealed_parts : List State → List Part → List ℕ
sealed_parts w [] = []
sealed_parts w (p ∷ ps) = sealed_by w p.nonce p.text ++ sealed_parts w ps

-- THE SEALED FRAME
abbrev pub frame_parts : List ℕ → Header → Bool → List ℕ → List Part
frame_parts nonce h abort source = parts_from nonce (texts h abort source)

unfoldable pub sealed_frame : List State → List ℕ → Header → Bool → List ℕ → List ℕ
sealed_frame w nonce h abort source = sealed_parts w (frame_parts nonce h abort source)

-- ---- lengths, with the tags, and how many parts there are

-- the preamble, the inline bytes, the tag
abbrev pub first_length : ℕ
first_length = 32 + inline_length + 16

abbrev pub second_part : Header → ℕ
second_part h = round_up (h.s1.len - inline_length) + 16

abbrev pub second_part_length : Header → ℕ
second_part_length h = cond (no_second_part h) 0 (second_part h)

abbrev pub last_part : Header → ℕ
last_part h = round_up h.s2.len + round_up h.s3.len + round_up h.s4.len + 32

abbrev pub last_part_length : Header → ℕ
last_part_length h = cond (no_last_part h) 0 (last_part h)

-- on the wire
unfoldable pub sealed_length : Header → ℕ
sealed_length h = first_length + second_part_length h + last_part_length h

unfoldable pub part_count : Header → ℕ
part_count h = 1 + cond (no_second_part h) 0 1 + cond (no_last_part h) 0 1

-- in a reader's store
unfoldable pub needed : Header → ℕ
needed h = round_up h.s1.len + round_up h.s2.len + round_up h.s3.len + round_up h.s4.len + 32
