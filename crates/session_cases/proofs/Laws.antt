-- Laws of a session's calls.
use mathlib.Core.Path.{◌≡◌, sym, ap, ◌∙◌}
use mathlib.Core.Bool.{Bool, true, false}
use mathlib.Core.List.{List}
use Prim.Native.Nat.{ℕ, suc, ◌+◌, ◌-◌, ◌≤◌, ◌<◌}
use native.Mathlib.Omega.{arith}
use borrow.Author.Tests.{leb-true}
use lib.Dec.{leb}
use lib.ListN.{length, get_or}
use Rattle.refusal.proofs.Booleans.{both_left}
use Rattle.session.specs.declared.Session.{Session}
use Rattle.session.specs.Calls.{held_at}
use Rattle.session.specs.Laws.{held_answers}
use Rattle.text.specs.Page.{Page, puts}
use Rattle.text.proofs.Laws.{puts-append}
use Rattle.records.specs.Records.{Record, bad_record}
use Rattle.records.proofs.Laws.{Left, left-next}
use Rattle.session_cases.specs.Session.{held_pieces, resent_pieces, CallDid, value_at, call_good, calls_from}

-- ---- what is sent again

-- one more message
pub resent-on : (s : Session) (i k : ℕ) (p : Page) {q : Page} → i < k → q ≡ puts (held_pieces (held_at s i)) p
    → puts (resent_pieces (held_answers s (i + 1) (k - (i + 1)))) q ≡ puts (resent_pieces (held_answers s i (k - i))) p
unfolding held_answers resent_pieces
resent-on s i k p {q} h e =
    let n : k - i ≡ suc (k - (i + 1)) = omega arith in
    let r = resent_pieces (held_answers s (i + 1) (k - (i + 1))) in
    ap (puts r) e ∙ sym (puts-append (held_pieces (held_at s i)) r p) ∙ rw n

pub resent-none : (s : Session) (i : ℕ) (p : Page) → puts (resent_pieces (held_answers s i (i - i))) p ≡ p
unfolding held_answers resent_pieces
resent-none s i p = let n : i - i ≡ 0 = omega arith in rw n

-- ---- the calls of a record

-- one that stands there whole
pub good-within : (s : List ℕ) (i : ℕ) {b : Bool} → b ≡ call_good s i → b ≡ true → i + 9 ≤ length s
unfolding call_good
good-within s i {b} e h = leb-true (i + 9) (length s) (both_left (leb (i + 9) (length s)) _ (sym e ∙ h))

module _ (s : List ℕ) (σ : Session) (n m i : ℕ) {all : Record} {p : Page} {b : Bool} (h : n ≡ suc m) (e : b ≡ call_good s i) where
  pub calls-broken : {q : Page} → b ≡ false → Left all (calls_from s σ n i) p q → Left all bad_record p q
  unfolding calls_from
  calls-broken g l = rw (h, ← e, g) at l

  -- a call is made
  pub calls-on : {j k v : ℕ} {before after : Page} {r : Session} → b ≡ true
      → j ≡ i + 9
      → k ≡ get_or s i 0
      → v ≡ value_at s i
      → CallDid σ k v before after r
      → Left all (calls_from s σ n i) p before
      → Left all (calls_from s r m j) p after
  unfolding calls_from
  calls-on g f ek ev d l = rw (f, d.session, ek, ev) (left-next (rw (h, ← e, g) at l) (rw (ek, ev) at d.printed))
