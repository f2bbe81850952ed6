-- Worked states for refusal 26: which states agree with themselves (State.antt), and for each rule some that break it alone.
use Rattle.std.specs.Prelude.{ℕ, Bool, true, false, List, [], ◌∷◌, replicate, slice_set}
use Rattle.refusal.specs.Refusals.{row}
use Rattle.preamble.specs.declared.Header.{Header}
use Rattle.stream.specs.Rows.{Row, ◌⇒◌, Holds, sized, header, segment}
use Rattle.preamble.specs.Layout.{no_header}
use Rattle.sealed_receiver.specs.declared.Stage.TheVariants as stage
use Rattle.sealed_receiver.specs.declared.Receiving.{Receiving}
use Rattle.sealed_receiver.specs.declared.Known.{Known}
use Rattle.sealed_receiver.specs.declared.State.{State}
use Rattle.sealed_receiver.specs.State.{receiving_state, no_receiving, agrees}
use Rattle.sealed_receiver.specs.Step.{blank, state_at, at, knowing, refused_state}

-- a key and a nonce, with so many parts opened
abbrev receiving : ℕ → Bool → Receiving
receiving opened exhausted = receiving_state (replicate 16 1) (replicate 12 2) opened exhausted

-- before a frame, and in one
abbrev begun : Known
begun = knowing (receiving 0 false) no_header

abbrev within : ℕ → Header → Known
within opened h = knowing (receiving opened false) h

-- a frame of three parts, of 96, 32 and 48 bytes, and one of 96 bytes
abbrev three : Header
three = sized 2 49 1 0 0

abbrev one : Header
one = sized 1 0 0 0 0

unfoldable pub part_rows : List (Row Bool)
part_rows =
    -- fewer bytes came than the part has
    agrees (state_at stage.First 95 blank begun) ⇒ true
    ∷ agrees (state_at stage.First 96 blank begun) ⇒ false
    ∷ agrees (state_at stage.Second 31 blank (within 1 three)) ⇒ true
    ∷ agrees (state_at stage.Second 32 blank (within 1 three)) ⇒ false
    ∷ agrees (state_at stage.Last 47 blank (within 2 three)) ⇒ true
    ∷ agrees (state_at stage.Last 48 blank (within 2 three)) ⇒ false
    -- the frame has the part
    ∷ agrees (at stage.Second (within 1 three)) ⇒ true
    ∷ agrees (at stage.Last (within 2 three)) ⇒ true
    ∷ agrees (at stage.Second (within 1 one)) ⇒ false
    ∷ agrees (at stage.Last (within 1 one)) ⇒ false
    ∷ agrees (at stage.Second (within 1 (sized 2 48 1 0 0))) ⇒ false
    ∷ agrees (at stage.Last (within 2 (sized 1 49 0 0 0))) ⇒ false
    -- the block: zeros behind what came of a first part, and all zeros in a later one
    ∷ agrees (state_at stage.First 1 (slice_set blank 0 7) begun) ⇒ true
    ∷ agrees (state_at stage.First 1 (slice_set blank 1 7) begun) ⇒ false
    ∷ agrees (state_at stage.First 1 (slice_set blank 95 7) begun) ⇒ false
    ∷ agrees (state_at stage.Second 1 (slice_set blank 0 7) (within 1 three)) ⇒ false
    ∷ agrees (state_at stage.Last 1 (slice_set blank 0 7) (within 2 three)) ⇒ false
    ∷ []

unfoldable pub known_rows : List (Row Bool)
known_rows =
    -- the header: none in a first part, and one that was accepted in a later one
    agrees (at stage.First begun) ⇒ true
    ∷ agrees (at stage.First (within 1 three)) ⇒ false
    ∷ agrees (at stage.Second (within 1 (header 21 2 (segment 49 0) (segment 1 0) (segment 0 0) (segment 0 0)))) ⇒ false
    ∷ agrees (at stage.Last (within 2 (sized 2 49 1 1 0))) ⇒ false
    ∷ agrees (at stage.Second (within 1 (sized 1 1048577 0 0 0))) ⇒ false
    -- a nonce was used for each part of the frame that came before
    ∷ agrees (at stage.Second (within 0 three)) ⇒ false
    ∷ agrees (at stage.Last (within 1 three)) ⇒ false
    ∷ agrees (at stage.Last (within 1 (sized 2 48 1 0 0))) ⇒ true
    ∷ agrees (at stage.Last (within 0 (sized 2 48 1 0 0))) ⇒ false
    ∷ agrees (at stage.Second (knowing (receiving 0 true) three)) ⇒ true
    ∷ agrees (at stage.Last (knowing (receiving 0 true) three)) ⇒ true
    -- all nonces are used: opened is 0
    ∷ agrees (at stage.First (knowing (receiving 0 true) no_header)) ⇒ true
    ∷ agrees (at stage.First (knowing (receiving 1 true) no_header)) ⇒ false
    ∷ agrees (at stage.Second (knowing (receiving 1 true) three)) ⇒ false
    ∷ agrees (at stage.Last (knowing (receiving 1 true) three)) ⇒ false
    -- a refusal before the stream is refused
    ∷ agrees (at stage.First (record { receiving = receiving 0 false; header = no_header; refusal = row 17 0 0 0 })) ⇒ false
    ∷ agrees (at stage.Second (record { receiving = receiving 1 false; header = three; refusal = row 17 0 0 0 })) ⇒ false
    ∷ agrees (at stage.Last (record { receiving = receiving 2 false; header = three; refusal = row 17 0 0 0 })) ⇒ false
    ∷ []

-- a refused stream with something left of what was known
abbrev left : Receiving → Header → Known
left r h = record { receiving = r; header = h; refusal = row 17 0 0 0 }

-- a refusal's number, with no detail
abbrev number : ℕ → State
number n = refused_state (row n 0 0 0)

unfoldable pub refusal_rows : List (Row Bool)
refusal_rows =
    -- 5 to 10, 12, and 17 to 19
    agrees (number 4) ⇒ false
    ∷ agrees (number 5) ⇒ true
    ∷ agrees (number 10) ⇒ true
    ∷ agrees (number 11) ⇒ false
    ∷ agrees (number 12) ⇒ true
    ∷ agrees (number 13) ⇒ false
    ∷ agrees (number 16) ⇒ false
    ∷ agrees (number 17) ⇒ true
    ∷ agrees (number 19) ⇒ true
    ∷ agrees (number 20) ⇒ false
    ∷ agrees (number 24) ⇒ false
    ∷ agrees (number 0) ⇒ false
    -- one detail
    ∷ agrees (refused_state (row 10 48 0 0)) ⇒ true
    ∷ agrees (refused_state (row 10 48 1 0)) ⇒ false
    ∷ agrees (refused_state (row 10 48 0 1)) ⇒ false
    -- nothing else is kept
    ∷ agrees (at stage.Refused (left no_receiving no_header)) ⇒ true
    ∷ agrees (at stage.Refused (left (receiving_state (slice_set (replicate 16 0) 15 1) (replicate 12 0) 0 false) no_header)) ⇒ false
    ∷ agrees (at stage.Refused (left (receiving_state (replicate 16 0) (slice_set (replicate 12 0) 11 1) 0 false) no_header)) ⇒ false
    ∷ agrees (at stage.Refused (left (receiving_state (replicate 16 0) (replicate 12 0) 1 false) no_header)) ⇒ false
    ∷ agrees (at stage.Refused (left (receiving_state (replicate 16 0) (replicate 12 0) 0 true) no_header)) ⇒ false
    ∷ agrees (at stage.Refused (left no_receiving three)) ⇒ false
    ∷ agrees (state_at stage.Refused 1 blank (left no_receiving no_header)) ⇒ false
    ∷ agrees (state_at stage.Refused 0 (slice_set blank 0 7) (left no_receiving no_header)) ⇒ false
    ∷ []

-- THE CLAIM
unfoldable pub WorkedStates : Type 0
WorkedStates = Holds part_rows × Holds known_rows × Holds refusal_rows
