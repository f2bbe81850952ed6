-- Sealed frames read from a stream (02, K4): which entries its bytes give, at which byte, and the store then.
-- It is written from the layouts alone: no receiver, no state and no call is in sight.
use Rattle.std.specs.Prelude.{ℕ, zero, suc, ◌+◌, ◌-◌, cond, List, [], ◌∷◌, ◌++◌, length, take, drop, replicate, nat_lt, slice_index}
use Rattle.buffer.specs.Splice.{replace_front, splice}
use Rattle.buffer.specs.Zeros.{all_zero}
use Rattle.refusal.specs.declared.Refusal.TheVariants as refusal
use Rattle.refusal.specs.Refusals.{Judged, fine, refused, numbers_of, first_of, unless}
use Rattle.banner.specs.declared.Revision.TheVariants.{Msgr21}
use Rattle.preamble.specs.declared.Header.{Header}
use Rattle.preamble.specs.Judge.{header_of, preamble_of, preamble_judgements, judge_store}
use Rattle.body.specs.declared.Late.{Late}
use Rattle.body.specs.declared.Late.TheVariants as late
use Rattle.body.specs.End.{Ended, whole, dropped, refused_for, ended_by, late_of}
use Rattle.stream.specs.declared.Event.TheVariants.{Frame, Dropped}
use Rattle.stream.specs.Stream.{Trace, ended, after, refused_at, unless_refused}
use Rattle.aes.specs.Aes.{State, key_expansion}
use Rattle.gcm.specs.Gcm.{Opened, plain, fail, opened_by}
use Rattle.secure.specs.Layout.{all_nonces, next_nonce, padding, round_up, inline_length, last_lengths, first_length, no_second_part, no_last_part, second_part, last_part, needed}

-- ---- judgements

-- a nonce that was not used before: n parts were sealed with those before it
abbrev pub judge_nonce : ℕ → Judged
judge_nonce n = unless (nat_lt n all_nonces) refusal.NoncesSpent

abbrev pub judge_padding : List ℕ → Judged
judge_padding bytes = unless (all_zero bytes) refusal.Padding

-- THE ORDER at byte 96, behind 18 and 17: 5 to 9, the store (10), then the inline buffer's padding (19)
unfoldable pub judge_first : List ℕ → ℕ → Judged
judge_first text store =
    first_of
    (preamble_judgements (preamble_of text) text
    ++ (judge_store (needed (header_of text)) store ∷ judge_padding (drop (32 + (header_of text).s1.len) text) ∷ []))

-- the segments in the text of a last part, one behind the other, what pads them and the epilogue, and the late byte
abbrev pub unpadded : List ℕ → List ℕ → List ℕ
unpadded [] text = []
unpadded (n ∷ ns) text = take n text ++ unpadded ns (drop (round_up n) text)

abbrev pub padding_of : List ℕ → List ℕ → List ℕ
padding_of [] text = drop 1 text
padding_of (n ∷ ns) text = drop n (take (round_up n) text) ++ padding_of ns (drop (round_up n) text)

abbrev pub late_byte_in : List ℕ → List ℕ → ℕ
late_byte_in [] text = slice_index text 0
late_byte_in (n ∷ ns) text = late_byte_in ns (drop (round_up n) text)

-- THE ORDER at the end of a last part, behind 18 and 17: 12, 19, drop
abbrev pub dropped_by : Judged → Ended
dropped_by fine = dropped
dropped_by (refused n) = refused_for n

abbrev pub by_late_status : Late → ℕ → Judged → Ended
by_late_status late.Wrong b j = refused_for (numbers_of (refusal.LateStatus b))
by_late_status late.Aborted b j = dropped_by j
by_late_status late.Complete b j = ended_by j

unfoldable pub last_ended : Header → List ℕ → Ended
last_ended h text =
    by_late_status (late_of Msgr21 (late_byte_in (last_lengths h) text)) (late_byte_in (last_lengths h) text) (judge_padding (padding_of (last_lengths h) text))

-- ---- the store

-- zeros in what the frame needs of it
abbrev pub zeroed : Header → List ℕ → List ℕ
zeroed h store = replace_front (replicate (needed h) 0) store

-- the segments, and zeros behind them in what the frame needs
abbrev pub holding : Header → List ℕ → List ℕ → List ℕ
holding h payload store = replace_front (payload ++ replicate (needed h - length payload) 0) store

-- ---- parts

-- a part at its last byte: 18 in place of opening it, 17, or its text and what follows. store is what a refusal leaves
abbrev pub by_opening : Opened → ℕ → List ℕ → (List ℕ → Trace) → Trace
by_opening (plain text) at store next = next text
by_opening fail at store next = refused_at (numbers_of refusal.AuthTag) at store

abbrev pub part_trace : List State → List ℕ → ℕ → List ℕ → ℕ → List ℕ → (List ℕ → Trace) → Trace
part_trace w nonce n bytes at store next = unless_refused (judge_nonce n) at store (by_opening (opened_by w nonce bytes) at store next)

-- what follows a frame: from its nonce, the parts before it, its place, its bytes and its store on
abbrev pub Continuation : Type 0
Continuation = List ℕ → ℕ → ℕ → List ℕ → List ℕ → Trace

abbrev pub at_end : Ended → Header → ℕ → List ℕ → List ℕ → (List ℕ → Trace) → Trace
at_end whole h at payload store next = after (Frame h) at (holding h payload store) (next (holding h payload store))
at_end dropped h at payload store next = after (Dropped h) at (zeroed h store) (next (zeroed h store))
at_end (refused_for n) h at payload store next = refused_at n at (zeroed h store)

-- the last part, from P on, where the frame has one; first is segment 1. Its sealed bytes go behind segment 1
abbrev pub last_trace : List State → Header → List ℕ → ℕ → ℕ → List ℕ → List ℕ → List ℕ → Continuation → Trace
last_trace w h nonce n P rest first store next =
    cond (no_last_part h) (at_end whole h P first store (next nonce n P rest))
    (cond (nat_lt (length rest) (last_part h)) (ended (splice store h.s1.len rest))
    (part_trace w nonce n (take (last_part h) rest) (P + last_part h) (zeroed h store)
    (λ text. at_end (last_ended h text) h (P + last_part h) (first ++ unpadded (last_lengths h) text) store
    (next (next_nonce nonce) (suc n) (P + last_part h) (drop (last_part h) rest)))))

-- the rest of segment 1, from P on, where there is one; first is what the inline buffer had of it. Its sealed bytes go behind that
abbrev pub second_trace : List State → Header → List ℕ → ℕ → ℕ → List ℕ → List ℕ → List ℕ → Continuation → Trace
second_trace w h nonce n P rest first store next =
    cond (no_second_part h) (last_trace w h nonce n P rest first (replace_front first store) next)
    (cond (nat_lt (length rest) (second_part h)) (ended (splice (replace_front first store) inline_length rest))
    (part_trace w nonce n (take (second_part h) rest) (P + second_part h) (zeroed h store)
    (λ text. unless_refused (judge_padding (drop (h.s1.len - inline_length) text)) (P + second_part h) (zeroed h store)
    (last_trace w h (next_nonce nonce) (suc n) (P + second_part h) (drop (second_part h) rest)
    (first ++ take (h.s1.len - inline_length) text)
    (replace_front (first ++ take (h.s1.len - inline_length) text ++ replicate (padding (h.s1.len - inline_length) + 16) 0) store)
    next))))

-- the frames from P on, of which rest is left, the next part's nonce and how many parts there were before it. A frame has at least 96 bytes, so what is left bounds how many there are: the first argument is only that bound
unfoldable pub frames : ℕ → List State → List ℕ → ℕ → ℕ → List ℕ → List ℕ → Trace
frames zero w nonce n P rest store = ended store
frames (suc f) w nonce n P rest store =
    cond (nat_lt (length rest) first_length) (ended store)
    (part_trace w nonce n (take first_length rest) (P + first_length) store
    (λ text. unless_refused (judge_first text (length store)) (P + first_length) store
    (second_trace w (header_of text) (next_nonce nonce) (suc n) (P + first_length) (drop first_length rest)
    (take (header_of text).s1.len (drop 32 text)) store (frames f w))))

-- THE DEFINITION: the stream's bytes from P on, read with a key and a nonce, of which n parts are already spent
unfoldable pub sealed_trace : List ℕ → List ℕ → ℕ → ℕ → List ℕ → List ℕ → Trace
sealed_trace key nonce n P rest store = frames (length rest) (key_expansion key) nonce n P rest store
