-- Bytes add up on a switched link.
use mathlib.Core.List.{List, [], ◌∷◌, ◌++◌}
use mathlib.Core.Path.{◌≡◌, refl}
use mathlib.Core.Bool.{cond, ◌&&◌}
use Prim.Native.Nat.{ℕ, zero, suc, ◌+◌, ◌-◌, ◌<◌}
use native.Mathlib.Omega.{arith}
use lib.ListN.{length, take, drop, replicate}
use lib.Dec.{ltb, eqb}
use Rattle.buffer.specs.Splice.{replace_front}
use Rattle.refusal.specs.Refusals.{Judged, fine, refused}
use Rattle.refusal.proofs.Booleans.{by_test, at_cond}
use Rattle.banner.specs.declared.Features.{Features}
use Rattle.banner.specs.declared.Revision.{Revision}
use Rattle.preamble.specs.declared.Header.{Header}
use Rattle.preamble.specs.Judge.{header_of}
use Rattle.body.specs.End.{Ended, whole, dropped, refused_for}
use Rattle.stream.specs.Events.{Role, banner_end, first_end, frame_end, stream_end, role_of, is_frame_end}
use Rattle.stream.specs.Stream.{Entry, Trace, unless_refused, trace_of}
use Rattle.stream.specs.Adds.{AddsAt, Adds, AddsUp, AllAddUp}
use Rattle.stream.proofs.Sums.{all_add_up}
use Rattle.stream.proofs.Events.{by_front}
use Rattle.aes.specs.Aes.{State, key_expansion}
use Rattle.gcm.specs.Gcm.{Opened, plain, fail, opened_by}
use Rattle.secure.specs.Layout.{next_nonce, padding, inline_length, last_lengths, first_length, no_second_part, no_last_part, second_part, second_part_length, last_part, last_part_length, sealed_length}
use Rattle.secure.specs.Reading.{judge_nonce, judge_padding, judge_first, unpadded, last_ended, zeroed, by_opening, part_trace, Continuation, at_end, last_trace, second_trace, frames, sealed_trace}
use Rattle.secure.proofs.Bounds.{rest-size, last-size}
use Rattle.connection.specs.Switched.{Switch, none, behind, spliced, trace_with}
use Rattle.connection.specs.Calls.{taken_by, switch_by, SwitchedDemand3}
use Rattle.connection.proofs.Chain.{switched-demand3}
use Rattle.sealed_ends.specs.Adds.{SealedAdds, either, AddsBehind, FirstBehind, AllBehind, AddsWith, SwitchedAddUp}

-- ---- sealed frames

abbrev Good : ℕ → Trace → Type 0
Good P t = SealedAdds P t.entries

judged : (P at : ℕ) (j : Judged) (s : List ℕ) (t : Trace) → P < at → Good P t → Good P (unless_refused j at s t)
judged P at fine s t l g = g
judged P at (refused n) s t l g = l

opening : (P at : ℕ) (o : Opened) (s : List ℕ) (next : List ℕ → Trace) → P < at → ((x : List ℕ) → Good P (next x)) → Good P (by_opening o at s next)
opening P at (plain x) s next l g = g x
opening P at fail s next l g = l

part : (P : ℕ) (w : List State) (nonce : List ℕ) (n : ℕ) (bytes : List ℕ) (at : ℕ) (s : List ℕ) (next : List ℕ → Trace) → P < at
    → ((x : List ℕ) → Good P (next x)) → Good P (part_trace w nonce n bytes at s next)
part P w nonce n bytes at s next l g = judged P at (judge_nonce n) s _ l (opening P at (opened_by w nonce bytes) s next l g)

-- what follows a frame, wherever it ends
abbrev Later : Continuation → Type 0
Later next = (nonce : List ℕ) (n Q : ℕ) (rest s : List ℕ) → Good Q (next nonce n Q rest s)

finished : (x : Ended) (h : Header) (P at : ℕ) (payload s : List ℕ) (next : List ℕ → Trace) → at ≡ P + sealed_length h → P < at
    → ((t : List ℕ) → Good at (next t)) → Good P (at_end x h at payload s next)
finished whole h P at payload s next e l g = (e, g _)
finished dropped h P at payload s next e l g = (e, g _)
finished (refused_for n) h P at payload s next e l g = l

module _ (w : List State) (h : Header) (P : ℕ) (next : Continuation) (g : Later next) where
  last-adds : (nonce : List ℕ) (n Q : ℕ) (rest first s : List ℕ) → Q + last_part_length h ≡ P + sealed_length h → P < Q
      → Good P (last_trace w h nonce n Q rest first s next)
  last-adds nonce n Q rest first s e l =
      by_test (no_last_part h)
      (λ z.
      let k : last_part_length h ≡ 0 = rw z refl in
      rw z (finished whole h P Q first s (next nonce n Q rest) (omega (arith, e, k)) l (λ t. g nonce n Q rest t)))
      (λ z.
      let k = last-size h z in
      rw z
      (at_cond (Good P) (ltb (length rest) (last_part h)) tt
      (part P w nonce n (take (last_part h) rest) (Q + last_part h) (zeroed h s) _ (omega arith)
      (λ text. finished (last_ended h text) h P (Q + last_part h) (first ++ unpadded (last_lengths h) text) s
      (next (next_nonce nonce) (suc n) (Q + last_part h) (drop (last_part h) rest)) (omega (arith, e, k)) (omega arith)
      (λ t. g (next_nonce nonce) (suc n) (Q + last_part h) (drop (last_part h) rest) t)))))

  rest-adds : (nonce : List ℕ) (n : ℕ) (rest first s : List ℕ) → Good P (second_trace w h nonce n (P + first_length) rest first s next)
  unfolding sealed_length
  rest-adds nonce n rest first s =
      let m : ℕ = h.s1.len - inline_length in
      by_test (no_second_part h)
      (λ z.
      let k : second_part_length h ≡ 0 = rw z refl in
      rw z (last-adds nonce n (P + first_length) rest first (replace_front first s) (omega (arith, k)) (omega arith)))
      (λ z.
      let k = rest-size h z in
      rw z
      (at_cond (Good P) (ltb (length rest) (second_part h)) tt
      (part P w nonce n (take (second_part h) rest) (P + first_length + second_part h) (zeroed h s) _ (omega arith)
      (λ text. judged P (P + first_length + second_part h) (judge_padding (drop m text)) (zeroed h s) _ (omega arith)
      (last-adds (next_nonce nonce) (suc n) (P + first_length + second_part h) (drop (second_part h) rest) (first ++ take m text)
      (replace_front (first ++ take m text ++ replicate (padding m + 16) 0) s) (omega (arith, k)) (omega arith))))))

frames-add : (f : ℕ) (w : List State) → Later (frames f w)
unfolding frames
frames-add zero w nonce n P rest s = tt
frames-add (suc f) w nonce n P rest s =
    at_cond (Good P) (ltb (length rest) first_length) tt
    (part P w nonce n (take first_length rest) (P + first_length) s _ (omega arith)
    (λ text. judged P (P + first_length) (judge_first text (length s)) s _ (omega arith)
    (rest-adds w (header_of text) P (frames f w) (frames-add f w) (next_nonce nonce) (suc n) (drop first_length rest) (take (header_of text).s1.len (drop 32 text)) s)))

sealed-add : (key nonce : List ℕ) (at : ℕ) (rest s : List ℕ) → Good at (sealed_trace key nonce 0 at rest s)
unfolding sealed_trace
sealed-add key nonce at rest s = frames-add (length rest) (key_expansion key) nonce 0 at rest s

-- ---- what is spliced behind crc frames

module _ (next : ℕ → List ℕ → Trace) (store : List ℕ) (g : (at : ℕ) (s : List ℕ) → Good at (next at s)) where
  behind-adds : (n : ℕ) (revision : Revision) (P : ℕ) (es : List Entry) → Adds revision P es → AddsBehind n revision P (spliced n next es store).entries
  unfolding spliced
  behind-adds n revision P [] a = tt
  behind-adds n revision P (e ∷ es) a = go (role_of e.event) e.at e.store (λ m Q. behind-adds m revision Q es) a
    where
      go : (v : Role) (at : ℕ) (s : List ℕ) → ((m Q : ℕ) → Adds revision Q es → AddsBehind m revision Q (spliced m next es store).entries)
          → AddsAt revision P v at (λ Q. Adds revision Q es)
          → AddsAt revision P v at
          (λ Q. either (is_frame_end v && eqb n 1) (SealedAdds Q (cond (is_frame_end v && eqb n 1) (next at s) (spliced (cond (is_frame_end v) (n - 1) n) next es store)).entries)
          (AddsBehind (cond (is_frame_end v) (n - 1) n) revision Q (cond (is_frame_end v && eqb n 1) (next at s) (spliced (cond (is_frame_end v) (n - 1) n) next es store)).entries))
      go (banner_end p r) at s ih a = absurd a
      go (first_end h) at s ih a = (a.0, ih n P a.1)
      go (frame_end h) at s ih a = (a.0, by_test (eqb n 1) (λ c. rw c (g at s)) (λ c. rw c (ih (n - 1) at a.1)))
      go (stream_end m) at s ih a = a

  all-behind : (n : ℕ) (es : List Entry) → AddsUp es → AllBehind n (spliced n next es store).entries
  unfolding spliced
  all-behind n [] a = tt
  all-behind n (e ∷ es) a =
      by_front (λ v. FirstBehind n v e.at (cond (is_frame_end v && eqb n 1) (next e.at e.store) (spliced (cond (is_frame_end v) (n - 1) n) next es store)).entries) e.at es
      (λ p r x. behind-adds n r e.at es x) (λ m. tt) (role_of e.event) a

with-adds : (sw : Switch) (own : Features) (stream store : List ℕ) → AddsWith sw (trace_with sw own stream store).entries
unfolding AllAddUp
with-adds none own stream store = all_add_up own stream store
with-adds (behind n key nonce) own stream store =
    all-behind (λ at s. sealed_trace key nonce 0 at (drop at stream) s) (trace_of own stream store).store (λ at s. sealed-add key nonce at (drop at stream) s) n
    (trace_of own stream store).entries (all_add_up own stream store)

pub switched_add_up : SwitchedAddUp
unfolding SwitchedAddUp SwitchedDemand3
switched_add_up own stream store cs ch =
    let d = switched-demand3 own stream store cs ch in
    rw d.reports (with-adds (switch_by 0 cs) own (take (taken_by 0 cs) stream) store)
