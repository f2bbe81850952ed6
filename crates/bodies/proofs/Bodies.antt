-- A row of steps makes the body that its layout says.
use mathlib.Core.Path.{◌≡◌, refl, sym, ap, ◌∙◌}
use mathlib.Core.List.{List, [], ◌∷◌}
use Prim.Native.Nat.{ℕ, ◌+◌, ◌-◌}
use lib.Dec.{eqb}
use lib.ListN.{length}
use Rattle.buffer.specs.Le.{number_at}
use Rattle.fields.specs.declared.Span.{Span}
use Rattle.fields.specs.declared.NumberList.{NumberList}
use Rattle.fields.specs.Layout.{Kind, Cursor, good, fault, step_of}
use Rattle.fields.specs.Layout as kind
use Rattle.fields.specs.Field.{Field, number, negative, numbers, payload, opaque, fixed, field_at, Place, nowhere, numbers_at, bytes_at, numbers_from, bytes_from, place_at}
use Rattle.fields.specs.Reading.{read, failed, take_of, span_in, numbers_in}
use Rattle.std.specs.Prelude.{Result, IsErrAnd}
use Rattle.std.proofs.lemmas.Result.{err_from_is_err_and}
use Rattle.refusal.specs.declared.Refusal.TheVariants.{BodyMalformed}
use Rattle.refusal.specs.declared.Refusal.{Refusal}
use Rattle.bodies.specs.declared.Body.{Body}
use Rattle.bodies.specs.Read.{run, fields_of, whole, settled, read_of, answer_of, malformed_body, settled_body}
use Rattle.refusal.proofs.Booleans.{by_test}
use Rattle.bodies.proofs.Rows.{took-read, took-failed, stuck}

-- ---- what the code has of a field: its number, or where its numbers or bytes stand

abbrev pub Said : Kind → Type 0
Said (kind.number w) = ℕ
Said kind.negative = ℕ
Said kind.numbers = NumberList
Said kind.payload = Span
Said (kind.opaque k) = Span
Said (kind.fixed w) = Span

abbrev pub said_at : (k : Kind) → List ℕ → ℕ → Said k
said_at (kind.number w) s at = number_at w at s
said_at kind.negative s at = number_at 4 at s
said_at kind.numbers s at = numbers_from (at + 4) (number_at 4 at s)
said_at kind.payload s at = bytes_from (at + 4) (number_at 4 at s)
said_at (kind.opaque k) s at = bytes_from at (length s - k - at)
said_at (kind.fixed w) s at = bytes_from at w

-- the field that it holds, and its place
abbrev pub field_in : (k : Kind) → List ℕ → Said k → Field
field_in (kind.number w) s n = number w n
field_in kind.negative s n = negative n
field_in kind.numbers s l = numbers (numbers_in s l)
field_in kind.payload s p = payload (span_in s p)
field_in (kind.opaque k) s p = opaque k (span_in s p)
field_in (kind.fixed w) s p = fixed w (span_in s p)

abbrev pub place_in : (k : Kind) → Said k → Place
place_in (kind.number w) n = nowhere
place_in kind.negative n = nowhere
place_in kind.numbers l = numbers_at l
place_in kind.payload p = bytes_at p
place_in (kind.opaque k) p = bytes_at p
place_in (kind.fixed w) p = bytes_at p

-- both tell what was said
said : (k : Kind) (s : List ℕ) (at : ℕ) (x : Said k) → field_in k s x ≡ field_at k s at → place_in k x ≡ place_at k s at → x ≡ said_at k s at
said (kind.number w) s at n e p = cc
said kind.negative s at n e p = cc
said kind.numbers s at l e p = cc
said kind.payload s at x e p = cc
said (kind.opaque k) s at x e p = cc
said (kind.fixed w) s at x e p = cc

holds : (k : Kind) (s : List ℕ) (at : ℕ) → field_in k s (said_at k s at) ≡ field_at k s at
holds (kind.number w) s at = refl
holds kind.negative s at = refl
holds kind.numbers s at = refl
holds kind.payload s at = refl
holds (kind.opaque k) s at = refl
holds (kind.fixed w) s at = refl

-- ---- a body, made of what its fields say

abbrev pub Makes : List Kind → Type 0
Makes [] = Result Body Refusal
Makes (k ∷ ks) = Said k → Makes ks

abbrev pub made : (ks : List Kind) → Makes ks → List ℕ → Cursor → Result Body Refusal
made [] b s c = b
made (k ∷ ks) m s c = made ks (m (said_at k s c.at)) s (step_of k s c)

-- by a row from a place on
unfoldable pub from : (ks : List Kind) → List ℕ → ℕ → Makes ks → Result Body Refusal
from ks s at m = settled_body s (run ks s (good at)) (made ks m s (good at))

-- a field that fails
pub stopped : (s : List ℕ) (ks : List Kind) (c : Cursor) (n : ℕ) (b : Result Body Refusal) → c ≡ fault n → settled_body s (run ks s c) b ≡ malformed_body n
unfolding settled_body
stopped s ks c n b e = rw (e, stuck ks s n)

-- the steps of a row, as far as it goes: one fails, or a byte is left over, or the body stands
pub data Steps (s : List ℕ) : Cursor → (ks : List Kind) → Makes ks → Result Body Refusal → Type 0 where
  end : {c : Cursor} {b r : Result Body Refusal} → r ≡ settled_body s c b → Steps s c [] b r
  stop : {k : Kind} {c : Cursor} {ks : List Kind} {m : Makes (k ∷ ks)} (p : ℕ) → failed (fault p) ≡ take_of k s c → Steps s c (k ∷ ks) m (malformed_body p)
  step : {k : Kind} {c : Cursor} {ks : List Kind} {m : Makes (k ∷ ks)} {r : Result Body Refusal} (x : Said k) (n : ℕ)
      → read (field_in k s x) (place_in k x) (good n) ≡ take_of k s c → Steps s (good n) ks (m x) r → Steps s c (k ∷ ks) m r

steps : {s : List ℕ} {c : Cursor} {ks : List Kind} {m : Makes ks} {r : Result Body Refusal} → Steps s c ks m r → r ≡ settled_body s (run ks s c) (made ks m s c)
steps (end e) = e
steps {s} {c} (stop {k = k} {ks = ks} p e) = sym (stopped s ks (step_of k s c) p _ (took-failed k s c e))
steps {s} {c} (step {k = k} {ks = ks} {m = m} x n e t) =
    let h = took-read k s c e in
    rw (← h.next, ← (said k s c.at x h.value h.place)) (steps t)

pub by_steps : {s : List ℕ} {c : Cursor} {ks : List Kind} {m : Makes ks} {r a : Result Body Refusal} → from ks s 0 m ≡ a → c ≡ good 0 → Steps s c ks m r → r ≡ a
unfolding from
by_steps {s} {ks = ks} {m = m} i z t = steps t ∙ ap (λ (d : Cursor). settled_body s (run ks s d) (made ks m s d)) z ∙ i

-- where a `?` leaves
pub left_at : {s : List ℕ} {c : Cursor} {ks : List Kind} {m : Makes ks} {r a : Result Body Refusal} {p : ℕ} → from ks s 0 m ≡ a → c ≡ good 0 → IsErrAnd r (λ why. why ≡ BodyMalformed p) → Steps s c ks m (malformed_body p) → r ≡ a
left_at {r = r} i z q t = let e = err_from_is_err_and r q in rw (e.1, e.2) (by_steps i z t)

-- ---- what stands at the places of such a body is what its layout says

abbrev pub Shows : List ℕ → (ks : List Kind) → Makes ks → (List Field → List Field) → Type 0
Shows s [] b f = answer_of s b ≡ whole (f [])
Shows s (k ∷ ks) m f = (x : Said k) → Shows s ks (m x) (λ l. f (field_in k s x ∷ l))

shows : (s : List ℕ) (ks : List Kind) (m : Makes ks) (f : List Field → List Field) (c : Cursor) → Shows s ks m f → answer_of s (made ks m s c) ≡ whole (f (fields_of ks s c))
shows s [] m f c h = h
shows s (k ∷ ks) m f c h =
    let x = said_at k s c.at in
    shows s ks (m x) (λ l. f (field_in k s x ∷ l)) (step_of k s c) (h x) ∙ ap (λ (y : Field). whole (f (y ∷ fields_of ks s (step_of k s c)))) (holds k s c.at)

settled-answer : (s : List ℕ) (c : Cursor) (b : Result Body Refusal) → answer_of s (settled_body s c b) ≡ settled s c (answer_of s b)
unfolding settled settled_body
settled-answer s c b =
    by_test c.failed (λ t. rw t) (λ t. by_test (eqb c.at (length s)) (λ u. rw (t, u)) (λ u. rw (t, u)))

pub answers : (s : List ℕ) (ks : List Kind) (m : Makes ks) {b : Result Body Refusal} → from ks s 0 m ≡ b → Shows s ks m (λ l. l) → answer_of s b ≡ read_of ks s
unfolding from
answers s ks m i h =
    ap (answer_of s) (sym i) ∙ settled-answer s (run ks s (good 0)) (made ks m s (good 0)) ∙ ap (settled s (run ks s (good 0))) (shows s ks m (λ l. l) (good 0) h)
