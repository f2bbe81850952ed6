-- Where the bytes of a part go, and that there is room for them.
use Rattle.std.proofs.Common.{◌≡◌, ◌+◌, ◌<◌, ◌≤◌, true, le_refl}
use Rattle.refusal.proofs.Booleans.{wrong}
use Rattle.preamble.specs.declared.Header.{Header}
use Rattle.secure.specs.Layout.{no_second_part, no_last_part, second_part, last_part}
use Rattle.sealed_receiver.specs.declared.Stage.{Stage}
use Rattle.sealed_receiver.specs.declared.Stage.TheVariants as stage
use Rattle.sealed_receiver.specs.State.{is_first, in_frame, size_of, place_of, needed}
use Rattle.secure.proofs.Bounds.{there, rest-size, rest-fits, last-size, last_fits}

-- those of a first part into the block
pub block_room : (k : Stage) (h : Header) → is_first k ≡ true → size_of k h ≤ 96
block_room stage.First h e = le_refl 96
block_room stage.Second h e = wrong e
block_room stage.Last h e = wrong e
block_room stage.Refused h e = wrong e

-- those of a later one into what the frame needs of the store
pub store-room : (k : Stage) (h : Header) → in_frame k ≡ true → 0 < size_of k h → place_of k h + size_of k h ≤ needed k h
store-room stage.First h e i = wrong e
store-room stage.Second h e i = (let t = there (no_second_part h) (second_part h) i in rw (rest-size h t) (rest-fits h t))
store-room stage.Last h e i = rw (last-size h (there (no_last_part h) (last_part h) i)) (last_fits h)
store-room stage.Refused h e i = wrong e
