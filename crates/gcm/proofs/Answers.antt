-- The answers, case by case.
use mathlib.Core.Bool.{Bool, true, false, cond, ◌&&◌}
use mathlib.Core.List.{List}
use mathlib.Core.Path.{◌≡◌, ap, ap₂, ◌∙◌}
use Prim.Native.Nat.{ℕ, ◌+◌, ◌-◌, ◌<◌, ◌≤◌}
use native.Mathlib.Omega.{arith}
use borrow.Author.Tests.{le-leb, lt-leb}
use lib.ListN.{length, take, replicate}
use lib.Seq.{length-take-le}
use Rattle.buffer.specs.Splice.{replace_front}
use Rattle.refusal.specs.Refusals.{Judged, fine, row}
use Rattle.refusal.specs.Writes.{wrote, refused_for, done}
use Rattle.aes.specs.Aes.{State}
use Rattle.aes.specs.Counter.{gctr}
use Rattle.gcm.specs.Gcm.{plain, fail, sealed_by, tag_fits, opened_by}
use Rattle.gcm.specs.Calls.{limit, judge_open, by_tag, by_both, seal_done, open_done}

module _ (w : List State) (nonce text buf : List ℕ) where
  pub seal_long : limit < length text → seal_done w nonce text buf ≡ done (refused_for (row 9 0 0 0)) buf
  unfolding seal_done
  seal_long h = simp (lt-leb (length text) limit h)

  pub seal_short : length text ≤ limit → length buf < length text + 16
      → seal_done w nonce text buf ≡ done (refused_for (row 14 (length text + 16) 0 0)) buf
  unfolding seal_done
  seal_short h k = simp (le-leb (length text) limit h, lt-leb (length text + 16) (length buf) k)

  pub seal_fits : length text ≤ limit → length text + 16 ≤ length buf
      → seal_done w nonce text buf ≡ done (wrote (length text + 16)) (replace_front (sealed_by w nonce text) buf)
  unfolding seal_done
  seal_fits h k = simp (le-leb (length text) limit h, le-leb (length text + 16) (length buf) k)

-- ---- a text that stands in the buffer, before room for its tag

module _ (w : List State) (nonce buf : List ℕ) where
  text-length : length (take (length buf - 16) buf) ≡ length buf - 16
  text-length = length-take-le (length buf - 16) buf (omega arith)

  pub in-place-short : length buf < 16 → seal_done w nonce (take (length buf - 16) buf) buf ≡ done (refused_for (row 14 16 0 0)) buf
  in-place-short h =
      let e : length (take (length buf - 16) buf) ≡ 0 = text-length ∙ omega arith in
      seal_short w nonce (take (length buf - 16) buf) buf (omega arith) (omega arith)
      ∙ ap (λ (n : ℕ). done (refused_for (row 14 (n + 16) 0 0)) buf) e

  pub in-place-long : limit < length buf - 16 → seal_done w nonce (take (length buf - 16) buf) buf ≡ done (refused_for (row 9 0 0 0)) buf
  in-place-long h = seal_long w nonce (take (length buf - 16) buf) buf (omega (arith, text-length))

  pub in-place-fits : 16 ≤ length buf → length buf - 16 ≤ limit
      → seal_done w nonce (take (length buf - 16) buf) buf ≡ done (wrote (length buf)) (replace_front (sealed_by w nonce (take (length buf - 16) buf)) buf)
  in-place-fits h k =
      let e : length (take (length buf - 16) buf) + 16 ≡ length buf = omega (arith, text-length) in
      seal_fits w nonce (take (length buf - 16) buf) buf (omega (arith, text-length)) (omega (arith, text-length))
      ∙ ap (λ (n : ℕ). done (wrote n) (replace_front (sealed_by w nonce (take (length buf - 16) buf)) buf)) e

module _ (w : List State) (nonce s buf : List ℕ) where
  pub open_none : length s < 16 → open_done w nonce s buf ≡ done (refused_for (row 17 0 0 0)) buf
  unfolding open_done
  open_none h = simp (lt-leb 16 (length s) h)

  pub open_long : 16 ≤ length s → limit < length s - 16 → open_done w nonce s buf ≡ done (refused_for (row 9 0 0 0)) buf
  unfolding open_done
  open_long h k = simp (le-leb 16 (length s) h, lt-leb (length s - 16) limit k)

  pub open_short : 16 ≤ length s → length s - 16 ≤ limit → length buf < length s - 16
      → open_done w nonce s buf ≡ done (refused_for (row 14 (length s - 16) 0 0)) buf
  unfolding open_done
  open_short h k l = simp (le-leb 16 (length s) h, le-leb (length s - 16) limit k, lt-leb (length s - 16) (length buf) l)

  module _ (h : 16 ≤ length s) (k : length s - 16 ≤ limit) (l : length s - 16 ≤ length buf) where
    judged : judge_open (length s) (length buf) ≡ fine
    judged = simp (le-leb 16 (length s) h, le-leb (length s - 16) limit k, le-leb (length s - 16) (length buf) l)

    opened_if : (b : Bool) → tag_fits w nonce (length s - 16) s ≡ b
        → opened_by w nonce s ≡ cond b (plain (gctr w nonce (take (length s - 16) s))) fail
    unfolding opened_by
    opened_if b e =
        ap₂ (λ (x y : Bool). cond (x && y) (plain (gctr w nonce (take (length s - 16) s))) fail) (le-leb 16 (length s) h) e

    pub open_right : tag_fits w nonce (length s - 16) s ≡ true
        → open_done w nonce s buf ≡ done (wrote (length s - 16)) (replace_front (gctr w nonce (take (length s - 16) s)) buf)
    unfolding open_done
    open_right e = ap₂ (λ j o. by_both j o (length s - 16) buf) judged (opened_if true e)

    pub open_wrong : tag_fits w nonce (length s - 16) s ≡ false
        → open_done w nonce s buf ≡ done (refused_for (row 17 0 0 0)) (replace_front (replicate (length s - 16) 0) buf)
    unfolding open_done
    open_wrong e = ap₂ (λ j o. by_both j o (length s - 16) buf) judged (opened_if false e)

-- a sealed text that stands in the buffer, and is opened there
pub open_in_place : (w : List State) (nonce s : List ℕ) → 16 ≤ length s → length s ≤ limit + 16
    → open_done w nonce s s ≡ by_tag (opened_by w nonce s) (length s - 16) s
unfolding open_done
open_in_place w nonce s h k =
    let j : judge_open (length s) (length s) ≡ fine =
    simp (le-leb 16 (length s) h, le-leb (length s - 16) limit (omega arith), le-leb (length s - 16) (length s) (omega arith)) in
    ap (λ (x : Judged). by_both x (opened_by w nonce s) (length s - 16) s) j
