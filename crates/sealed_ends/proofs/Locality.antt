-- What the definition comes to at any byte: it stops, or a sealed frame ends.
use mathlib.Core.Path.{◌≡◌, refl, sym, ap, ◌∙◌}
use mathlib.Core.Bool.{Bool, true, false, cond}
use mathlib.Core.List.{List}
use Prim.Native.Nat.{ℕ, suc, ◌+◌, ◌-◌, ◌≤◌}
use native.Mathlib.Omega.{arith}
use borrow.Author.Tests.{lt-ltb, le-ltb}
use lib.ListN.{length, take, drop, length-drop}
use Rattle.buffer.specs.Splice.{replace_front, splice}
use Rattle.refusal.specs.declared.Numbers.{Numbers}
use Rattle.refusal.specs.declared.Refusal.TheVariants as refusal
use Rattle.refusal.specs.Refusals.{Judged, fine, refused, numbers_of}
use Rattle.refusal.proofs.Booleans.{by_test, by_less, wrong}
use Rattle.refusal.proofs.Judgements.{by_judgement_lem}
use Rattle.preamble.specs.declared.Header.{Header}
use Rattle.body.specs.End.{Ended, whole, dropped, refused_for}
use Rattle.stream.specs.Stream.{Trace, refused_at}
use Rattle.aes.specs.Aes.{State}
use Rattle.gcm.specs.Gcm.{Opened, plain, fail, opened_by}
use Rattle.secure.specs.Layout.{next_nonce, inline_length, first_length, no_second_part, no_last_part, second_part, second_part_length, last_part, last_part_length, sealed_length}
use Rattle.secure.specs.Reading.{judge_nonce, judge_padding, judge_first, last_ended, zeroed, part_trace, frames}
use Rattle.secure.proofs.Bounds.{rest-size, last-size}
use Rattle.secure.proofs.Parts.{PartOpens, part-is, PartsBeforeLast, first_step, store_behind_second, up-to-last}
use Rattle.sealed_receiver.specs.Step.{text_of}
use Rattle.ends.proofs.Locality.{ends_as, stopped}
use Rattle.sealed_ends.specs.Handed.{text_in, first_bytes, first_in, header_in, second_bytes, second_in, last_bytes, last_nonce, last_in}
use Rattle.sealed_ends.proofs.Judging.{JudgesAt, header_is, frame-trace}

-- a part by its cases: it opens, or the list stops there
by_part : {A : Type 0} (w : List State) (nonce : List ℕ) (n : ℕ) (bytes : List ℕ) → (PartOpens w nonce n bytes (text_in w nonce bytes) → A)
    → ((m : Numbers) → ((at : ℕ) (s : List ℕ) (next : List ℕ → Trace) → part_trace w nonce n bytes at s next ≡ refused_at m at s) → A) → A
by_part {A} w nonce n bytes r z = by_judgement_lem (judge_nonce n) (λ f. go f (opened_by w nonce bytes) refl) (λ m e. z m (λ at s next. rw e))
  where
    go : judge_nonce n ≡ fine → (o : Opened) → opened_by w nonce bytes ≡ o → A
    go f (plain text) e = r (record { fresh = f; opens = e ∙ ap plain (sym (ap text_of e)) })
    go f fail e = z (numbers_of refusal.AuthTag) (λ at s next. rw (f, e))

pub data Seen (w : List State) (nonce : List ℕ) (n P : ℕ) (X s : List ℕ) : Type 0 where
  stops : (j : Judged) (at : ℕ) (t : List ℕ) → ((f : ℕ) → frames (suc f) w nonce n P X s ≡ stopped j at t) → Seen w nonce n P X s
  ends : (abort : Bool) → JudgesAt (ends_as abort) w nonce n X (length s) → Seen w nonce n P X s

module _ (w : List State) (nonce : List ℕ) (n P : ℕ) (X s : List ℕ) where
  abbrev h : Header
  h = header_in w nonce X

  by_end : (x : Ended) → JudgesAt x w nonce n X (length s) → Seen w nonce n P X s
  by_end whole j = ends false j
  by_end dropped j = ends true j
  by_end (refused_for m) j = stops (refused m) (P + sealed_length h) (zeroed h s) (λ f. frame-trace w nonce n P X s f j)

  -- the last part, where the ones before it are read
  module _ (l : first_length + second_part_length h ≤ length X) (b : PartsBeforeLast w nonce n h (first_bytes X) (second_bytes h X) (first_in w nonce X) (second_in w nonce h X) (length s)) where
    abbrev k : ℕ
    k = first_length + second_part_length h

    abbrev n₃ : ℕ
    n₃ = n + (1 + cond (no_second_part h) 0 1)

    abbrev bytes₃ : List ℕ
    bytes₃ = take (last_part h) (drop k X)

    judged : {x : Ended} → last_part_length h ≤ length (drop k X) → (no_last_part h ≡ false → PartOpens w (last_nonce h nonce) n₃ (last_bytes h X) (last_in w nonce h X))
        → cond (no_last_part h) whole (last_ended h (last_in w nonce h X)) ≡ x → JudgesAt x w nonce n X (length s)
    unfolding sealed_length
    judged i r e = record { long = (let z = length-drop k X in omega arith); judges = record { begins = b; last = r; end = e } }

    by_last : Seen w nonce n P X s
    by_last =
        by_test (no_last_part h) (λ e. ends false (judged (rw e (omega arith)) (λ z. wrong (sym z ∙ e)) (rw e)))
        (λ e. by_less (length (drop k X)) (last_part h)
        (λ i. stops fine P (splice (store_behind_second h (first_in w nonce X) (second_in w nonce h X) s) h.s1.len (drop k X)) (λ f. up-to-last f P X s l b ∙ rw (e, lt-ltb (length (drop k X)) (last_part h) i)))
        (λ i. by_part w (last_nonce h nonce) n₃ bytes₃
        (λ r. by_end (last_ended h (text_in w (last_nonce h nonce) bytes₃)) (judged (rw (last-size h e) i) (λ z. rw (last-size h e) r) (rw e)))
        (λ m u. stops (refused m) (P + k + last_part h) (zeroed h (store_behind_second h (first_in w nonce X) (second_in w nonce h X) s))
        (λ f. up-to-last f P X s l b ∙ rw (e, le-ltb (length (drop k X)) (last_part h) i) (u (P + k + last_part h) (zeroed h (store_behind_second h (first_in w nonce X) (second_in w nonce h X) s)) _)))))

  -- the rest of segment 1, where there is one
  module _ (l : first_length ≤ length X) (p : PartOpens w nonce n (first_bytes X) (first_in w nonce X)) (j : judge_first (first_in w nonce X) (length s) ≡ fine) where
    abbrev ys : List ℕ
    ys = drop first_length X

    abbrev bytes₂ : List ℕ
    bytes₂ = take (second_part h) ys

    abbrev at₂ : ℕ
    at₂ = P + first_length + second_part h

    by_second : Seen w nonce n P X s
    by_second =
        by_test (no_second_part h)
        (λ e. by_last (rw e l) (record { first = p; header = header_is w nonce X; judged = j; second = λ z. wrong (sym z ∙ e); padded = λ z. wrong (sym z ∙ e) }))
        (λ e. by_less (length ys) (second_part h)
        (λ i. stops fine P (splice (replace_front (take h.s1.len (drop 32 (first_in w nonce X))) s) inline_length ys)
        (λ f. first_step f P X s l p (header_is w nonce X) j ∙ rw (e, lt-ltb (length ys) (second_part h) i)))
        (λ i.
        let c = le-ltb (length ys) (second_part h) i in
        by_part w (next_nonce nonce) (suc n) bytes₂
        (λ r. by_judgement_lem (judge_padding (drop (h.s1.len - inline_length) (text_in w (next_nonce nonce) bytes₂)))
        (λ u.
        let z = length-drop first_length X in
        by_last (rw (rest-size h e) (omega arith)) (record { first = p; header = header_is w nonce X; judged = j; second = λ y. rw (rest-size h e) r; padded = λ y. rw (rest-size h e) u }))
        (λ m u. stops (refused m) at₂ (zeroed h s) (λ f. first_step f P X s l p (header_is w nonce X) j ∙ rw (e, c) (part-is r at₂ (zeroed h s) _ ∙ rw u))))
        (λ m u. stops (refused m) at₂ (zeroed h s) (λ f. first_step f P X s l p (header_is w nonce X) j ∙ rw (e, c) (u at₂ (zeroed h s) _)))))

  pub seen : Seen w nonce n P X s
  unfolding frames
  seen =
      by_less (length X) first_length (λ l. stops fine P s (λ f. rw (lt-ltb (length X) first_length l)))
      (λ l.
      let c = le-ltb (length X) first_length l in
      by_part w nonce n (first_bytes X)
      (λ p. by_judgement_lem (judge_first (first_in w nonce X) (length s)) (λ j. by_second l p j)
      (λ m e. stops (refused m) (P + first_length) s (λ f. rw c (part-is p (P + first_length) s _ ∙ rw e))))
      (λ m u. stops (refused m) (P + first_length) s (λ f. rw c (u (P + first_length) s _))))
