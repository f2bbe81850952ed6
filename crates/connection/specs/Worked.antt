-- Worked examples of the switch: behind which frame the sealed entries stand, and which states may be switched.
use Rattle.std.specs.Prelude.{Bool, true, false, List, [], ◌∷◌, ◌++◌, ℕ, ◌+◌, take, replicate}
use Rattle.refusal.specs.Refusals.{Judged, fine, refused, row, no_refusal}
use Rattle.banner.specs.declared.Revision.{Revision}
use Rattle.banner.specs.declared.Revision.TheVariants.{Msgr20, Msgr21}
use Rattle.stream.specs.declared.Event.TheVariants.{Banner, First, Frame, Dropped, Refused}
use Rattle.stream.specs.Stream.{Entry, entry, Trace}
use Rattle.stream.specs.Rows.{Row, ◌⇒◌, Holds, features, sized}
use Rattle.receiver.specs.declared.Known.{Known}
use Rattle.receiver.specs.declared.State as crc-state
use Rattle.receiver.specs.declared.Stage.TheVariants as stage
use Rattle.std.specs.Prelude.{Some, None}
use Rattle.preamble.specs.Layout.{no_header}
use Rattle.receiver.specs.Step as crc
use Rattle.sealed_receiver.specs.declared.Stage.TheVariants as part
use Rattle.sealed_receiver.specs.State.{fresh_receiving}
use Rattle.sealed_receiver.specs.Step as sealed
use Rattle.sealed_builder.specs.declared.Sending.{Sending}
use Rattle.connection.specs.declared.Mode.TheVariants as mode
use Rattle.connection.specs.declared.State.{State}
use Rattle.connection.specs.Switched.{spliced, behind_frame}
use Rattle.connection.specs.Step.{no_secure, begun, ready_after, judge_switch, switched_state, switched_sending}

-- ---- where the sealed entries stand

-- a banner, a frame with its early report, a drop, and another frame, with stores that tell them apart
abbrev five : List Entry
five =
    entry (Banner (features 1 0) Msgr21) 26 (0 ∷ [])
    ∷ entry (First (sized 2 1 2 0 0)) 63 (1 ∷ [])
    ∷ entry (Frame (sized 2 1 2 0 0)) 80 (2 ∷ [])
    ∷ entry (Dropped (sized 2 0 2 0 0)) 130 (3 ∷ [])
    ∷ entry (Frame (sized 1 0 0 0 0)) 162 (4 ∷ [])
    ∷ []

-- what is behind it: one entry that tells the byte and the store it goes on from
abbrev next : ℕ → List ℕ → Trace
next at s = record { entries = entry (Frame (sized 1 0 0 0 0)) (at + 96) s ∷ []; store = s }

abbrev spliced_behind : ℕ → Trace
spliced_behind n = spliced n next five (5 ∷ [])

unfoldable pub spliced_rows : List (Row Trace)
spliced_rows =
    -- neither the banner nor an early report is counted
    spliced_behind 1 ⇒ record {
      entries =
          entry (Banner (features 1 0) Msgr21) 26 (0 ∷ []) ∷ entry (First (sized 2 1 2 0 0)) 63 (1 ∷ []) ∷ entry (Frame (sized 2 1 2 0 0)) 80 (2 ∷ [])
          ∷ entry (Frame (sized 1 0 0 0 0)) 176 (2 ∷ []) ∷ [];
      store = 2 ∷ [];
    }
    -- a drop is
    ∷ spliced_behind 2 ⇒ record {
      entries =
          entry (Banner (features 1 0) Msgr21) 26 (0 ∷ []) ∷ entry (First (sized 2 1 2 0 0)) 63 (1 ∷ []) ∷ entry (Frame (sized 2 1 2 0 0)) 80 (2 ∷ [])
          ∷ entry (Dropped (sized 2 0 2 0 0)) 130 (3 ∷ []) ∷ entry (Frame (sized 1 0 0 0 0)) 226 (3 ∷ []) ∷ [];
      store = 3 ∷ [];
    }
    ∷ spliced_behind 3 ⇒ record {
      entries =
          entry (Banner (features 1 0) Msgr21) 26 (0 ∷ []) ∷ entry (First (sized 2 1 2 0 0)) 63 (1 ∷ []) ∷ entry (Frame (sized 2 1 2 0 0)) 80 (2 ∷ [])
          ∷ entry (Dropped (sized 2 0 2 0 0)) 130 (3 ∷ []) ∷ entry (Frame (sized 1 0 0 0 0)) 162 (4 ∷ []) ∷ entry (Frame (sized 1 0 0 0 0)) 258 (4 ∷ []) ∷ [];
      store = 4 ∷ [];
    }
    -- where there is no such frame, nothing changes
    ∷ spliced_behind 4 ⇒ record { entries = five; store = 5 ∷ [] }
    ∷ spliced_behind 0 ⇒ record { entries = five; store = 5 ∷ [] }
    -- nor where a refusal is in its place
    ∷ spliced 1 next (entry (Refused (row 5 28 0 0)) 58 (0 ∷ []) ∷ []) (0 ∷ []) ⇒ record { entries = entry (Refused (row 5 28 0 0)) 58 (0 ∷ []) ∷ []; store = 0 ∷ [] }
    ∷ []

-- ---- behind which bytes a switch may be made

-- a banner and a frame on a stream of msgr2.0
abbrev older : List Entry
older = entry (Banner (features 0 0) Msgr20) 26 (0 ∷ []) ∷ entry (Frame (sized 1 1 0 0 0)) 80 (1 ∷ []) ∷ []

unfoldable pub behind_rows : List (Row Bool)
behind_rows =
    -- a frame's last byte, a drop's, and a byte of the next frame
    behind_frame 162 five ⇒ true
    ∷ behind_frame 130 (take 4 five) ⇒ true
    ∷ behind_frame 80 (take 3 five) ⇒ true
    ∷ behind_frame 163 five ⇒ false
    -- nothing yet, a banner, an early report, msgr2.0, a refusal
    ∷ behind_frame 0 [] ⇒ false
    ∷ behind_frame 26 (take 1 five) ⇒ false
    ∷ behind_frame 63 (take 2 five) ⇒ false
    ∷ behind_frame 80 older ⇒ false
    ∷ behind_frame 194 (five ++ entry (Refused (row 5 28 0 0)) 194 (4 ∷ []) ∷ []) ⇒ false
    ∷ []

-- ---- which states may be switched

unfoldable pub ready_rows : List (Row Bool)
ready_rows =
    ready_after false 54 (Some (Frame (sized 1 1 0 0 0))) ⇒ true
    ∷ ready_after false 50 (Some (Dropped (sized 2 0 2 0 0))) ⇒ true
    ∷ ready_after true 37 (Some (First (sized 2 1 2 0 0))) ⇒ false
    ∷ ready_after false 26 (Some (Banner (features 1 0) Msgr21)) ⇒ false
    ∷ ready_after true 32 (Some (Refused (row 5 28 0 0))) ⇒ false
    -- it stays so while no byte comes
    ∷ ready_after true 0 None ⇒ true
    ∷ ready_after true 1 None ⇒ false
    ∷ ready_after false 0 None ⇒ false
    ∷ []

-- behind a banner that chose a revision
abbrev met : Revision → Known
met Msgr20 = crc.with_revision (crc.with_peer (crc.with_payload (crc.only_own (features 0 0) no_refusal) 16) (features 0 0)) Msgr20
met Msgr21 = crc.with_revision (crc.with_peer (crc.with_payload (crc.only_own (features 1 0) no_refusal) 16) (features 1 0)) Msgr21

abbrev side : Bool → crc-state.State → State
side ready st = record { mode = mode.Crc; ready = ready; crc = st; sealed = no_secure }

abbrev secured : Bool → State
secured ready = record { mode = mode.Secure; ready = ready; crc = crc.at stage.Preamble 0 (met Msgr21); sealed = sealed.switched (replicate 16 7) (replicate 12 8) }

-- secure, and one of the two parts contradicts itself: that of sealed frames has all bytes of a part that it waits for; that of crc frames, which is not
-- in use, another revision than the features give
abbrev wrong_sealed : State
wrong_sealed = record {
  mode = mode.Secure;
  ready = false;
  crc = crc.at stage.Preamble 0 (met Msgr21);
  sealed = sealed.state_at part.First 96 (replicate 96 0) (sealed.knowing (fresh_receiving (replicate 16 7) (replicate 12 8)) no_header);
}

abbrev wrong_crc : State
wrong_crc = record { mode = mode.Secure; ready = false; crc = crc.at stage.Preamble 0 (crc.with_revision (met Msgr21) Msgr20); sealed = sealed.switched (replicate 16 7) (replicate 12 8) }

-- segment 1 was reported early, and segment 2 is awaited
abbrev behind_early : crc-state.State
behind_early = crc.at stage.Rest 1 (crc.with_first (crc.with_header (met Msgr21) (sized 2 1 2 0 0)))

-- one byte of the next preamble came
abbrev one_byte : crc-state.State
one_byte = crc.state_at stage.Preamble 1 (17 ∷ replicate 31 0) (met Msgr21)

unfoldable pub switch_rows : List (Row Judged)
switch_rows =
    -- behind a frame, before any byte of the next
    judge_switch (side true (crc.at stage.Preamble 0 (met Msgr21))) ⇒ fine
    -- the same place behind the banner alone, or behind an early report
    ∷ judge_switch (side false (crc.at stage.Preamble 0 (met Msgr21))) ⇒ refused (row 27 0 0 0)
    ∷ judge_switch (side false behind_early) ⇒ refused (row 27 0 0 0)
    ∷ judge_switch (side false one_byte) ⇒ refused (row 27 0 0 0)
    -- before the first byte, in a refused stream, in msgr2.0, a second time
    ∷ judge_switch (begun (features 1 0)) ⇒ refused (row 27 0 0 0)
    ∷ judge_switch (begun (features 2 0)) ⇒ refused (row 27 0 0 0)
    ∷ judge_switch (side false (crc.at stage.Refused 0 (crc.only_own (features 1 0) (row 5 28 0 0)))) ⇒ refused (row 27 0 0 0)
    ∷ judge_switch (side true (crc.at stage.Preamble 0 (met Msgr20))) ⇒ refused (row 27 0 0 0)
    ∷ judge_switch (secured false) ⇒ refused (row 27 0 0 0)
    ∷ judge_switch wrong_crc ⇒ refused (row 27 0 0 0)
    -- states that contradict themselves: ready in the middle of a preamble, once refused, or in secure; a part in use that does
    ∷ judge_switch (side true one_byte) ⇒ refused (row 26 0 0 0)
    ∷ judge_switch (side true (crc.at stage.Refused 0 (crc.only_own (features 1 0) (row 5 28 0 0)))) ⇒ refused (row 26 0 0 0)
    ∷ judge_switch (side true behind_early) ⇒ refused (row 26 0 0 0)
    ∷ judge_switch (secured true) ⇒ refused (row 26 0 0 0)
    ∷ judge_switch wrong_sealed ⇒ refused (row 26 0 0 0)
    ∷ judge_switch (side true (crc.at stage.Preamble 0 (crc.with_revision (met Msgr21) Msgr20))) ⇒ refused (row 26 0 0 0)
    ∷ []

-- ---- what a switch hands back

-- with key 7 .. and nonce 8 .., behind a frame: the first part of the next frame is awaited
unfoldable pub state_rows : List (Row State)
state_rows =
    switched_state fine (side true (crc.at stage.Preamble 0 (met Msgr21))) (replicate 16 7) (replicate 12 8) ⇒ record {
      mode = mode.Secure;
      ready = false;
      crc = crc.at stage.Preamble 0 (met Msgr21);
      sealed = record {
        position = record { stage = part.First; got = 0; block = replicate 96 0 };
        known = record { receiving = record { key = replicate 16 7; nonce = replicate 12 8; opened = 0; exhausted = false }; header = no_header; refusal = no_refusal };
      };
    }
    -- refused, the state is the same
    ∷ switched_state (refused (row 27 0 0 0)) (side false one_byte) (replicate 16 7) (replicate 12 8) ⇒ side false one_byte
    ∷ []

unfoldable pub sending_rows : List (Row Sending)
sending_rows =
    switched_sending fine (replicate 16 7) (replicate 12 9) ⇒ record { key = replicate 16 7; nonce = replicate 12 9; spent = 0; exhausted = false; refused = false }
    -- refused, it holds no key, and nothing is built with it
    ∷ switched_sending (refused (row 27 0 0 0)) (replicate 16 7) (replicate 12 9) ⇒ record { key = replicate 16 0; nonce = replicate 12 0; spent = 0; exhausted = false; refused = true }
    ∷ []

pub record WorkedSwitches : Type 0 where
  pub splices : Holds spliced_rows
  pub behind : Holds behind_rows
  pub ready : Holds ready_rows
  pub switches : Holds switch_rows
  pub states : Holds state_rows
  pub sends : Holds sending_rows
