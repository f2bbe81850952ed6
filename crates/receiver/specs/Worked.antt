-- Worked states for refusal 26: which states agree with themselves (State.antt), and for each rule some that break it alone.
use Rattle.std.specs.Prelude.{Bool, true, false, List, [], ◌∷◌, set}
use Rattle.refusal.specs.Refusals.{row, no_refusal}
use Rattle.banner.specs.declared.Revision.TheVariants.{Msgr20, Msgr21}
use Rattle.stream.specs.Rows.{Row, ◌⇒◌, Holds, features, sized, header, segment}
use Rattle.receiver.specs.declared.Stage.TheVariants as stage
use Rattle.receiver.specs.declared.Known.{Known}
use Rattle.receiver.specs.State.{blank, agrees}
use Rattle.receiver.specs.Step.{state_at, at, only_own, with_payload, with_peer, with_revision, with_header, with_first}

-- what is known before the first byte, with the payload's length, with the peer's features, and behind a banner
abbrev begun : Known
begun = only_own (features 1 0) no_refusal

abbrev long : Known
long = with_payload begun 16

abbrev met : Known
met = with_revision (with_peer long (features 1 0)) Msgr21

-- in a frame of segments of 1 and 2 bytes, and behind its first one
abbrev header_known : Known
header_known = with_header met (sized 2 1 2 0 0)

abbrev behind : Known
behind = with_first header_known

unfoldable pub own_rows : List (Row Bool)
own_rows =
    agrees (at stage.Magic 0 begun) ⇒ true
    ∷ agrees (at stage.Magic 0 (only_own (features 2 0) no_refusal)) ⇒ false
    ∷ agrees (at stage.Magic 0 (only_own (features 0 1) no_refusal)) ⇒ false
    ∷ agrees (at stage.Refused 0 (only_own (features 2 0) (row 16 0 0 0))) ⇒ true
    ∷ agrees (at stage.Refused 0 (only_own (features 2 0) (row 5 28 0 0))) ⇒ false
    ∷ []

unfoldable pub banner_rows : List (Row Bool)
banner_rows =
    -- the payload's length
    agrees (at stage.Payload 0 long) ⇒ true
    ∷ agrees (at stage.Payload 0 (with_payload begun 15)) ⇒ false
    ∷ agrees (at stage.Magic 0 long) ⇒ false
    -- the peer's features
    ∷ agrees (at stage.Skip 0 (with_peer (with_payload begun 17) (features 1 0))) ⇒ true
    ∷ agrees (at stage.Payload 0 (with_peer long (features 1 0))) ⇒ false
    -- the revision
    ∷ agrees (at stage.Preamble 0 met) ⇒ true
    ∷ agrees (at stage.Preamble 0 (with_revision met Msgr20)) ⇒ false
    ∷ agrees (at stage.Preamble 0 (with_revision (with_peer long (features 0 0)) Msgr21)) ⇒ false
    ∷ agrees (at stage.Preamble 0 (with_revision (with_peer long (features 0 0)) Msgr20)) ⇒ true
    ∷ agrees (at stage.Preamble 0 (with_revision (with_peer long (features 1 2)) Msgr21)) ⇒ false
    ∷ agrees (at stage.Magic 0 (with_revision begun Msgr21)) ⇒ false
    ∷ []

unfoldable pub frame_rows : List (Row Bool)
frame_rows =
    -- the header
    agrees (at stage.First 0 header_known) ⇒ true
    ∷ agrees (at stage.First 0 (with_header met (header 0 2 (segment 1 0) (segment 2 0) (segment 0 0) (segment 0 0)))) ⇒ false
    ∷ agrees (at stage.Preamble 0 header_known) ⇒ false
    -- segment 1 and its checksum: not where it is empty, and not in msgr2.0
    ∷ agrees (at stage.FirstSum 0 header_known) ⇒ true
    ∷ agrees (at stage.FirstSum 0 (with_header met (sized 2 0 2 0 0))) ⇒ false
    ∷ agrees (at stage.First 0 (with_header (with_revision (with_peer long (features 0 0)) Msgr20) (sized 2 1 2 0 0))) ⇒ false
    -- the mark of an early report
    ∷ agrees (at stage.Rest 1 behind) ⇒ true
    ∷ agrees (at stage.Rest 1 header_known) ⇒ false
    ∷ agrees (at stage.Epilogue 0 behind) ⇒ true
    ∷ agrees (at stage.Epilogue 0 header_known) ⇒ false
    ∷ agrees (at stage.First 0 behind) ⇒ false
    ∷ agrees (at stage.Preamble 0 (with_first met)) ⇒ false
    ∷ []

unfoldable pub count_rows : List (Row Bool)
count_rows =
    -- bytes of the stage: fewer than it reads; behind segment 1, at least that one's
    agrees (at stage.Magic 7 begun) ⇒ true
    ∷ agrees (at stage.Magic 8 begun) ⇒ false
    ∷ agrees (at stage.Rest 0 behind) ⇒ false
    ∷ agrees (at stage.Rest 2 behind) ⇒ true
    ∷ agrees (at stage.Rest 3 behind) ⇒ false
    ∷ agrees (at stage.Refused 1 (only_own (features 1 0) (row 5 28 0 0))) ⇒ false
    -- the block: zeros behind what came, and all zeros where nothing goes there
    ∷ agrees (state_at stage.Magic 1 (set blank 0 7) begun) ⇒ true
    ∷ agrees (state_at stage.Magic 1 (set blank 1 7) begun) ⇒ false
    ∷ agrees (state_at stage.Magic 1 (set blank 31 7) begun) ⇒ false
    ∷ agrees (state_at stage.First 0 (set blank 0 7) header_known) ⇒ false
    ∷ []

unfoldable pub refusal_rows : List (Row Bool)
refusal_rows =
    agrees (at stage.Refused 0 (only_own (features 1 0) (row 1 0 0 0))) ⇒ true
    ∷ agrees (at stage.Refused 0 (only_own (features 1 0) (row 12 15 0 0))) ⇒ true
    ∷ agrees (at stage.Refused 0 (only_own (features 1 0) (row 24 3 0 0))) ⇒ true
    ∷ agrees (at stage.Refused 0 (only_own (features 1 0) (row 3 20 2 2))) ⇒ true
    ∷ agrees (at stage.Refused 0 (only_own (features 1 0) (row 5 28 1 0))) ⇒ false
    ∷ agrees (at stage.Refused 0 (only_own (features 1 0) (row 5 28 0 1))) ⇒ false
    ∷ agrees (at stage.Refused 0 (only_own (features 1 0) (row 13 0 0 0))) ⇒ false
    ∷ agrees (at stage.Refused 0 (only_own (features 1 0) (row 26 0 0 0))) ⇒ false
    ∷ agrees (at stage.Refused 0 begun) ⇒ false
    ∷ agrees (at stage.Refused 0 (with_payload (only_own (features 1 0) (row 1 0 0 0)) 16)) ⇒ false
    ∷ agrees (at stage.Magic 0 (only_own (features 1 0) (row 1 0 0 0))) ⇒ false
    ∷ []

-- THE CLAIM
unfoldable pub WorkedStates : Type 0
WorkedStates = Holds own_rows × Holds banner_rows × Holds frame_rows × Holds count_rows × Holds refusal_rows
