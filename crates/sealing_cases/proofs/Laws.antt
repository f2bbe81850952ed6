-- Laws of sealing and opening by a record.
use mathlib.Core.Path.{◌≡◌, ◌∙◌}
use mathlib.Core.Bool.{true, ◌&&◌}
use mathlib.Core.List.{List, append-nil}
use Prim.Native.Nat.{ℕ, ◌+◌, ◌-◌, ◌≤◌}
use native.Mathlib.Omega.{arith}
use borrow.Author.Tests.{leb-true}
use lib.Dec.{leb}
use lib.ListN.{length, take, drop, length-drop, drop_of_length-le}
use lib.Seq.{length-take-le}
use Rattle.refusal.proofs.Booleans.{both_left}
use Rattle.buffer.specs.Le.{number_at}
use Rattle.buffer.specs.Splice.{overwrite}
use Rattle.buffer.proofs.Parts.{overwrite-fits}
use Rattle.records.specs.Records.{is_whole, allowed}
use Rattle.records.proofs.Laws.{sized-good, whole-within}
use Rattle.sealing_cases.specs.Sealing.{sealing_size}

-- n bytes from a place on, over as many
pub bytes-all : (s l : List ℕ) (at n : ℕ) → length l ≡ n → at + n ≤ length s → overwrite (take n (drop at s)) l ≡ take n (drop at s)
bytes-all s l at n k h =
    let d : length (drop at s) ≡ length s - at = length-drop at s in
    let m : length (take n (drop at s)) ≡ n = length-take-le n (drop at s) (omega arith) in
    overwrite-fits (take n (drop at s)) l (omega arith) ∙ rw (drop_of_length-le l {i = length (take n (drop at s))} (omega arith), append-nil)

module _ (room : ℕ) (s : List ℕ) (e : is_whole (sealing_size room s) s ≡ true) where
  given : (leb (number_at 4 29 s) room && allowed (number_at 4 34 s)) ≡ true
  given = sized-good (leb (number_at 4 29 s) room && allowed (number_at 4 34 s)) (38 + number_at 4 34 s) s e

  pub sealing-buffer : number_at 4 29 s ≤ room
  sealing-buffer = leb-true (number_at 4 29 s) room (both_left (leb (number_at 4 29 s) room) _ given)

  pub sealing-long : 38 ≤ length s
  sealing-long =
      let h = whole-within (sealing_size room s) s e in
      let t : sealing_size room s ≡ 38 + number_at 4 34 s = rw given in
      omega arith
