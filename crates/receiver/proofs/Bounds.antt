-- Where the bytes of a stage go, and that there is room for them.
use Prim.Native.Nat.{ℕ, ◌≤◌, zero-le}
use mathlib.Core.Path.{◌≡◌}
use Rattle.refusal.proofs.Booleans.{at_cond}
use native.Mathlib.Omega.{arith}
use native.Mathlib.Nat.{le_refl}
use lib.Dec.{leb}
use Rattle.banner.specs.declared.Revision.{Revision}
use Rattle.banner.specs.declared.Revision.TheVariants.{Msgr20, Msgr21}
use Rattle.preamble.specs.declared.Header.{Header}
use Rattle.body.specs.Body.{epilogue_length}
use Rattle.receiver.specs.declared.Stage.{Stage}
use Rattle.receiver.specs.declared.Stage.TheVariants as stage
use Rattle.receiver.specs.declared.Place.{Place}
use Rattle.receiver.specs.declared.Place.TheVariants as place
use Rattle.receiver.specs.declared.Known.{Known}
use Rattle.receiver.specs.State.{size_of, place_of, needed}

least-epilogue : (revision : Revision) (h : Header) → epilogue_length revision h ≤ 32
least-epilogue Msgr20 h = omega arith
least-epilogue Msgr21 h = at_cond (λ (n : ℕ). n ≤ 32) (leb h.count 1) zero-le (omega arith)

-- what a stage reads fits its place
abbrev Room : Place → ℕ → ℕ → Type 0
Room place.Block n need = n ≤ 32
Room place.Store n need = n ≤ need
Room place.Nowhere n need = Unit {0}

room : (k : Stage) (v : Known) → Room (place_of k) (size_of k v) (needed k v)
room stage.Magic v = omega arith
room stage.Length v = omega arith
room stage.Payload v = omega arith
room stage.Skip v = tt
room stage.Preamble v = omega arith
room stage.First v = omega arith
room stage.FirstSum v = omega arith
room stage.Rest v = le_refl _
room stage.Epilogue v = least-epilogue v.revision v.header
room stage.Refused v = tt

pub block_room : (k : Stage) (v : Known) → place_of k ≡ place.Block → size_of k v ≤ 32
block_room k v e = rw e at (room k v)

pub store-room : (k : Stage) (v : Known) → place_of k ≡ place.Store → size_of k v ≤ needed k v
store-room k v e = rw e at (room k v)
