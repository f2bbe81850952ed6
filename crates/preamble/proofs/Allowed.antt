-- The refusals of a preamble and of the store, 5 to 10, all pass a test.
use Prim.Native.Nat.{ℕ}
use mathlib.Core.Path.{◌≡◌}
use mathlib.Core.Bool.{Bool, true, ◌&&◌}
use mathlib.Core.List.{List, ◌∷◌, ◌++◌}
use lib.ListN.{take, get_or}
use lib.Dec.{leb, eqb}
use Rattle.buffer.specs.Le.{number_at}
use Rattle.crc32c.specs.Crc.{crc_of}
use Rattle.refusal.specs.declared.Numbers.{Numbers}
use Rattle.refusal.specs.Refusals.{Judged, row, first_of}
use Rattle.refusal.proofs.Allowed.{Allowed, allowed_cond, allowed_or}
use Rattle.preamble.specs.Judge.{shape_fault, flag_fault, limit_fault, header_of, preamble_of, judge_store, preamble_judgements}

module _ (test : Numbers → Bool) (five : test (row 5 28 0 0) ≡ true) (six : (n : ℕ) → test (row 6 n 0 0) ≡ true) (seven : (n : ℕ) → test (row 7 n 0 0) ≡ true)
    (eight : (n : ℕ) → test (row 8 n 0 0) ≡ true) (nine : (n : ℕ) → test (row 9 n 0 0) ≡ true) (ten : (n : ℕ) → test (row 10 n 0 0) ≡ true) where
  pub allowed-preamble : (bs : List ℕ) (needed store : ℕ) (js : List Judged) → Allowed test (first_of js)
      → Allowed test (first_of (preamble_judgements (preamble_of bs) bs ++ (judge_store needed store ∷ js)))
  allowed-preamble bs needed store js later =
      let h = header_of bs in
      let flags : ℕ = flag_fault (get_or bs 26 0) (get_or bs 27 0) in
      allowed_or test (allowed_cond test (eqb (crc_of 0 (take 28 bs)) (number_at 4 28 bs)) (row 5 28 0 0) five)
      (allowed_or test (allowed_cond test (eqb (shape_fault h) 0) (row 6 (shape_fault h) 0 0) (six (shape_fault h)))
      (allowed_or test (allowed_cond test (eqb flags 0) (row 7 flags 0 0) (seven flags))
      (allowed_or test (allowed_cond test (leb 1 h.tag && leb h.tag 20) (row 8 h.tag 0 0) (eight h.tag))
      (allowed_or test (allowed_cond test (eqb (limit_fault h) 0) (row 9 (limit_fault h) 0 0) (nine (limit_fault h)))
      (allowed_or test (allowed_cond test (leb needed store) (row 10 needed 0 0) (ten needed)) later)))))
