-- What an opening comes to: a text that is its tag shorter, and none where the tag is another.
use mathlib.Core.Path.{◌≡◌, refl, sym, ap, ap₂, ◌∙◌}
use mathlib.Core.Bool.{Bool, true, false, cond, ◌&&◌, and-false}
use mathlib.Core.List.{List, [], ◌∷◌, ◌++◌}
use Prim.Native.Nat.{ℕ, ◌-◌}
use native.Mathlib.Omega.{arith}
use borrow.Author.Tests.{eqb-true}
use lib.Dec.{leb, eqb}
use lib.ListN.{length, take, length-append}
use lib.Seq.{take_at, drop_at, length-take-le}
use Rattle.refusal.proofs.Booleans.{by_test, wrong, both_left, both_right}
use Rattle.aes.specs.Aes.{State}
use Rattle.aes.specs.Counter.{gctr}
use Rattle.aes.proofs.Counters.{gctr-length}
use Rattle.gcm.specs.Gcm.{plain, fail, tag_of, same_as, tag_fits, opened_by}

text_of_lem : (b : Bool) (x text : List ℕ) → cond b (plain x) fail ≡ plain text → x ≡ text
text_of_lem true x text e = cc
text_of_lem false x text e = cc

pub text-length : (w : List State) (nonce s text : List ℕ) → opened_by w nonce s ≡ plain text → length text ≡ length s - 16
unfolding opened_by
text-length w nonce s text e =
    let x : List ℕ = gctr w nonce (take (length s - 16) s) in
    sym (ap length (text_of_lem (leb 16 (length s) && tag_fits w nonce (length s - 16) s) x text e))
    ∙ gctr-length w nonce 0 (take (length s - 16) s)
    ∙ length-take-le (length s - 16) s (omega arith)

pub same_bytes : (xs ys : List ℕ) → same_as xs ys ≡ true → ys ≡ xs
unfolding same_as
same_bytes [] [] e = refl
same_bytes [] (y ∷ ys) e = wrong e
same_bytes (x ∷ xs) [] e = wrong e
same_bytes (x ∷ xs) (y ∷ ys) e = ap₂ ◌∷◌ (sym (eqb-true x y (both_left (eqb x y) (same_as xs ys) e))) (same_bytes xs ys (both_right (eqb x y) (same_as xs ys) e))

-- a ciphertext with another tag does not open
pub not_opened : (w : List State) (nonce text tag : List ℕ) → length tag ≡ 16 → (tag ≡ tag_of w nonce (gctr w nonce text) → ⊥) → opened_by w nonce (gctr w nonce text ++ tag) ≡ fail
unfolding opened_by tag_fits
not_opened w nonce text tag k differs =
    let m = gctr w nonce text in
    let l : length (m ++ tag) - 16 ≡ length m = omega (arith, length-append m tag) in
    let t : tag_fits w nonce (length (m ++ tag) - 16) (m ++ tag) ≡ same_as (tag_of w nonce m) tag = rw (l, take_at m tag (length m) refl, drop_at m tag (length m) refl) in
    by_test (same_as (tag_of w nonce m) tag) (λ e. absurd (differs (same_bytes (tag_of w nonce m) tag e))) (λ e. rw (t, e, and-false))
