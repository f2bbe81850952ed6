-- The round trip: opening what was sealed.
use mathlib.Core.Bool.{Bool, true, cond, ◌&&◌}
use mathlib.Core.List.{List}
use mathlib.Core.Path.{◌≡◌, ap, ap₂, ◌∙◌}
use Prim.Native.Nat.{ℕ, ◌+◌, ◌-◌, ◌≤◌}
use native.Mathlib.Omega.{arith}
use borrow.Author.Tests.{le-leb}
use lib.ListN.{length, take, drop}
use lib.Seq.{take_at, drop_at}
use Rattle.buffer.specs.Splice.{replace_front}
use Rattle.refusal.proofs.Booleans.{by_less, wrong}
use Rattle.aes.specs.Aes.{State}
use Rattle.aes.specs.Counter.{gctr}
use Rattle.aes.proofs.Counters.{gctr-length, gctr-twice}
use Rattle.gcm.specs.Gcm.{plain, fail, tag_of, sealed_by, tag_fits, same_as, opened_by}
use Rattle.gcm.specs.Calls.{limit, open_done, Sealing, Opening}
use Rattle.std.specs.Prelude.{Result}
use Rattle.refusal.specs.declared.Refusal.{Refusal}
use Rattle.refusal.specs.Writes.{wrote, Done, done, outcome_of}
use Rattle.gcm.proofs.Answers.{seal_long, seal_short, seal_fits, open_right}
use Rattle.gcm.proofs.Placing.{sealed-length}
use Rattle.gcm.proofs.Comparison.{same_self}

module _ (w : List State) (nonce text : List ℕ) where
  m : List ℕ
  m = gctr w nonce text

  t : List ℕ
  t = tag_of w nonce m

  s : List ℕ
  s = sealed_by w nonce text

  n : ℕ
  n = length text

  len : length s - 16 ≡ n
  unfolding s n
  len = let e : length (sealed_by w nonce text) ≡ length text + 16 = sealed-length w nonce text in omega arith

  front : take n s ≡ m
  unfolding sealed_by s m t n
  front = take_at m t n (gctr-length w nonce 0 text)

  behind : drop n s ≡ t
  unfolding sealed_by s m t n
  behind = drop_at m t n (gctr-length w nonce 0 text)

  fits : tag_fits w nonce n s ≡ true
  unfolding tag_fits t
  fits = ap₂ (λ (x y : List ℕ). same_as (tag_of w nonce x) y) front behind ∙ same_self (tag_of w nonce m)

  back : gctr w nonce (take n s) ≡ text
  unfolding m
  back = ap (gctr w nonce) front ∙ gctr-twice w nonce 0 text

  pub lists : opened_by w nonce (sealed_by w nonce text) ≡ plain text
  unfolding opened_by s n
  lists =
      let e : length s ≡ n + 16 = sealed-length w nonce text in
      let k : 16 ≤ length s = omega arith in
      ap₂ (λ (x y : Bool). cond (x && y) (plain (gctr w nonce (take (length s - 16) s))) fail) (le-leb 16 (length s) k)
      (ap (λ (i : ℕ). tag_fits w nonce i s) len ∙ fits)
      ∙ ap plain (ap (λ (i : ℕ). gctr w nonce (take i s)) len ∙ back)

  -- ---- the calls

  opened-back : (back : List ℕ) → length text ≤ limit → length text ≤ length back
      → open_done w nonce (sealed_by w nonce text) back ≡ done (wrote (length text)) (replace_front text back)
  unfolding s n
  opened-back to h k =
      let e : length s ≡ n + 16 = sealed-length w nonce text in
      let a : 16 ≤ length s = omega arith in
      let b : length s - 16 ≤ limit = omega (arith, len) in
      let d : length s - 16 ≤ length to = omega (arith, len) in
      open_right w nonce s to a b d (ap (λ (i : ℕ). tag_fits w nonce i s) len ∙ fits)
      ∙ ap₂ (λ (i : ℕ) (x : List ℕ). done (wrote i) (replace_front x to)) len (ap (λ (i : ℕ). gctr w nonce (take i s)) len ∙ back)

  -- a call that wrote has left the sealed bytes
  module _ (buf after : List ℕ) (r : Result ℕ Refusal) (sealing : Sealing w nonce text buf r after) (wrote_it : outcome_of r ≡ wrote (length text + 16)) where
    pub sealed-after : (length text ≤ limit) × (after ≡ replace_front (sealed_by w nonce text) buf)
    sealed-after =
        by_less limit (length text) (λ h. let q = ap (λ (d : Done). d.outcome) (sealing.is ∙ seal_long w nonce text buf h) in wrong cc) (λ h.
        by_less (length buf) (length text + 16) (λ k. let q = ap (λ (d : Done). d.outcome) (sealing.is ∙ seal_short w nonce text buf h k) in wrong cc)
        (λ k. (h, ap (λ (d : Done). d.buffer) (sealing.is ∙ seal_fits w nonce text buf h k))))

    pub calls : (back again : List ℕ) (q : Result ℕ Refusal) → length text ≤ length back → Opening w nonce (take (length text + 16) after) back q again
        → (outcome_of q ≡ wrote (length text)) × (again ≡ replace_front text back)
    calls to again q h opening =
        let there : take (length text + 16) after ≡ sealed_by w nonce text =
        ap (take (length text + 16)) sealed-after.1 ∙ take_at (sealed_by w nonce text) (drop (length (sealed_by w nonce text)) buf) (length text + 16) (sealed-length w nonce text) in
        let e : done (outcome_of q) again ≡ done (wrote (length text)) (replace_front text to) =
        opening.is ∙ ap (λ (x : List ℕ). open_done w nonce x to) there ∙ opened-back to sealed-after.0 h in
        (ap (λ (d : Done). d.outcome) e, ap (λ (d : Done). d.buffer) e)
