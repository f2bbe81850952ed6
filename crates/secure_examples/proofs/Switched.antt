-- The stream with a switch read: in the clear up to it, and its sealed part from there on.
use mathlib.Core.List.{List, [], ◌∷◌, ◌++◌}
use mathlib.Core.Path.{◌≡◌, refl, ap, ◌∙◌}
use Prim.Native.Nat.{ℕ}
use lib.ListN.{drop}
use Rattle.buffer.specs.Le.{number_at}
use Rattle.crc32c.specs.Crc.{crc_of, steps, step}
use Rattle.preamble.specs.Judge.{shape_fault, limit_fault, header_of}
use Rattle.stream.specs.Stream.{Trace}
use Rattle.stream.specs.Rows.{Holds, features, frame_at}
use Rattle.ghash.specs.Ghash.{quad_at, block_at}
use Rattle.gcm.specs.Gcm.{column_number, block_number, block_bytes, same_as}
use Rattle.secure.specs.Layout.{next_nonce, needed}
use Rattle.secure.specs.Reading.{judge_first, last_ended, sealed_trace}
use Rattle.connection.specs.Switched.{behind, entered, trace_with}
use Rattle.secure_examples.specs.Parts.{key, nonce0, none0}
use Rattle.secure_examples.specs.Examples.{zeros, none, store, front, clear, banner_entry, switched_rows}
use Rattle.secure_examples.proofs.Rows.{held, trace_by_lem}
use Rattle.secure_examples.proofs.Clear.{up-to-switch}

sealed-behind : sealed_trace key nonce0 0 58 none0 store ≡ record { entries = frame_at 154 none (front (zeros 32)) ∷ []; store = front (zeros 32) }
unfolding quad_at block_at column_number block_number block_bytes same_as number_at crc_of steps step shape_fault limit_fault header_of next_nonce needed judge_first last_ended
sealed-behind = trace_by_lem 0 58 none0 store

switched_1 : trace_with (behind 1 key nonce0) (features 1 0) (clear ++ none0) store
    ≡ record { entries = banner_entry ∷ frame_at 58 none store ∷ frame_at 154 none (front (zeros 32)) ∷ []; store = front (zeros 32) }
switched_1 =
    up-to-switch (λ (at : ℕ) (s : List ℕ). sealed_trace key nonce0 0 at (drop at (clear ++ none0)) s)
    ∙ ap (λ (t : Trace). entered banner_entry (entered (frame_at 58 none store) t)) sealed-behind

pub switched_rows_hold : Holds switched_rows
unfolding switched_rows
switched_rows_hold = held switched_1 refl
