-- The rest of segment 1, and the frame behind segment 1.
use Rattle.std.proofs.Common.{◌≡◌, ℕ, ◌+◌, ◌-◌, ◌<◌, ◌≤◌, Bool, true, false, cond, List, ◌++◌, length, take, drop, replicate, sym, ap, ◌∙◌, ap₂, append_assoc, arith, length-append, length-drop, length-take-le, take-take, drop-drop, take-add}
use lib.ListN.{length-replicate, replicate-append-replicate}
use Rattle.buffer.specs.Splice.{splice, overwrite}
use Rattle.buffer.proofs.Parts.{rest, back, length_rest, overwrite-fits, placed, drop-take}
use Rattle.refusal.specs.declared.Numbers.{Numbers}
use Rattle.refusal.specs.declared.Refusal.TheVariants as refusal
use Rattle.refusal.specs.Refusals.{Judged, fine, refused, unless}
use Rattle.preamble.specs.declared.Header.{Header}
use Rattle.preamble.specs.Layout.{total}
use Rattle.preamble.specs.Judge.{judge_header}
use Rattle.body.specs.End.{whole}
use Rattle.secure.specs.Layout.{padding, inline_length, no_second_part, no_last_part, second_part, second_part_length, needed}
use Rattle.buffer.specs.Zeros.{all_zero}
use Rattle.secure.specs.Reading.{judge_padding, zeroed}
use Rattle.secure.proofs.Headers.{one-segment}
use Rattle.sealed_receiver.specs.declared.Stage.TheVariants as stage
use Rattle.sealed_receiver.specs.declared.Known.{Known}
use Rattle.sealed_receiver.specs.Step.{Stepped, refuse, unless_refused, silent, at, with_opened, judge_part, part_text, end_frame, begin_last, after_second_part, finish}
use Rattle.buffer.proofs.Zeros.{only-zeros}
use Rattle.secure.proofs.Stores.{zeroed-same}
use Rattle.sealed_receiver.proofs.Regions.{Region, bytes, left, left_behind, left-again, part-refused, part-opened}
use Rattle.secure.proofs.Bounds.{there, rest-beyond, rest-size, rest-fits, pads-fit}

-- a frame of one segment ends behind it
pub whole-behind : (v : Known) (s : List ℕ) → judge_header v.header ≡ fine → no_last_part v.header ≡ true
    → end_frame whole v (take (total v.header) s) s ≡ begin_last v s
whole-behind v s j e =
    let h : Header = v.header in
    let n : total h ≡ h.s1.len = omega (arith, one-segment h j e) in
    ap (λ (k : ℕ). end_frame whole v (take k s) s) n
    ∙ sym (ap (λ (b : Bool). cond b (end_frame whole v (take h.s1.len s) s) (silent (at stage.Last v) s)) e)

module _ (v : Known) (s : List ℕ) where
  abbrev h : Header
  h = v.header

  -- ---- its padding: n bytes are of segment 1, and the text stands in the store from byte 48 on

  module _ (pad : ℕ) (ep : pad ≡ padding (h.s1.len - inline_length)) (e : no_second_part h ≡ false) where
    abbrev n : ℕ
    n = h.s1.len

    abbrev k : ℕ
    k = h.s1.len - inline_length

    abbrev text : List ℕ
    text = take (second_part h - 16) (drop inline_length s)

    inline_and_rest : inline_length + k ≡ n
    inline_and_rest = omega (arith, rest-beyond h e)

    rest_from : drop k (drop inline_length s) ≡ drop n s
    rest_from = drop-drop k inline_length s ∙ ap (λ (m : ℕ). drop m s) inline_and_rest

    text-is : text ≡ take (k + pad) (drop inline_length s)
    text-is = let m : second_part h - 16 ≡ k + pad = omega arith in ap (λ (i : ℕ). take i (drop inline_length s)) m

    padding-is : drop k text ≡ take pad (drop n s)
    padding-is = ap (drop k) text-is ∙ drop-take k pad (drop inline_length s) ∙ ap (take pad) rest_from

    pub rest-unpadded : (m : Numbers) → refused m ≡ unless (all_zero (take pad (drop n s))) refusal.Padding → refuse m (zeroed h s) ≡ after_second_part v text s
    unfolding after_second_part
    rest-unpadded m z =
        let next : Stepped = begin_last v (splice s inline_length (take k text ++ replicate (padding k + 16) 0)) in
        sym (ap (λ (j : Judged). unless_refused j (zeroed h s) next) (ap (λ (x : List ℕ). unless (all_zero x) refusal.Padding) padding-is ∙ sym z))

    module _ (room : needed h ≤ length s) (z : all_zero (take pad (drop n s)) ≡ true) where
      room_for : n + pad + 16 ≤ length s
      room_for = omega (arith, pads-fit h e pad ep)

      front-is : take (n + pad) s ≡ take inline_length s ++ (take k (drop inline_length s) ++ replicate pad 0)
      front-is =
          let m : n + pad ≡ inline_length + (k + pad) = omega (arith, inline_and_rest) in
          let l : length (take pad (drop n s)) ≡ pad = length-take-le pad (drop n s) (omega (arith, length-drop n s, room_for)) in
          let zeros : take pad (drop n s) ≡ replicate pad 0 = only-zeros (take pad (drop n s)) z ∙ ap (λ (i : ℕ). replicate i 0) l in
          ap (λ (i : ℕ). take i s) m
          ∙ take-add inline_length (k + pad) s
          ∙ ap (λ (t : List ℕ). take inline_length s ++ t)
          (take-add k pad (drop inline_length s) ∙ ap (λ (t : List ℕ). take k (drop inline_length s) ++ t) (ap (take pad) rest_from ∙ zeros))

      filled : splice s (n + pad) (replicate 16 0) ≡ splice s inline_length (take k (drop inline_length s) ++ replicate (pad + 16) 0)
      filled =
          let x : List ℕ = take k (drop inline_length s) in
          let first : List ℕ = take inline_length s in
          let lx : length x ≡ k = length-take-le k (drop inline_length s) (omega (arith, length-drop inline_length s, room_for, inline_and_rest)) in
          let size : n + pad + 16 ≡ inline_length + length (x ++ replicate (pad + 16) 0) =
          omega (arith, length-append x (replicate (pad + 16) 0), length-replicate {A = ℕ} (pad + 16) 0, inline_and_rest) in
          let zeros : (x ++ replicate pad 0) ++ replicate 16 0 ≡ x ++ replicate (pad + 16) 0 =
          append_assoc x (replicate pad 0) (replicate 16 0) ∙ ap (λ (t : List ℕ). x ++ t) (replicate-append-replicate pad 16 0) in
          let joined : (first ++ (x ++ replicate pad 0)) ++ replicate 16 0 ≡ first ++ (x ++ replicate (pad + 16) 0) =
          append_assoc first (x ++ replicate pad 0) (replicate 16 0) ∙ ap (λ (t : List ℕ). first ++ t) zeros in
          ap (λ (t : List ℕ). t ++ replicate 16 0 ++ drop (n + pad + 16) s) front-is
          ∙ ap₂ (λ (t : List ℕ) (i : ℕ). t ++ drop i s) joined size

      pub rest-padded : (zs : List ℕ) → zs ≡ overwrite (replicate 16 0) (rest s (n + pad))
          → begin_last v (back s (n + pad) zs) ≡ after_second_part v text s
      unfolding after_second_part
      rest-padded zs ez =
          let fits : 16 ≤ length (rest s (n + pad)) = omega (arith, length_rest s (n + pad), room_for) in
          let there : back s (n + pad) zs ≡ splice s (n + pad) (replicate 16 0) =
          placed s (replicate 16 0) zs (n + pad) (ez ∙ overwrite-fits (replicate 16 0) (rest s (n + pad)) fits) in
          let front : take k (drop inline_length s) ≡ take k text =
          sym (ap (take k) text-is ∙ take-take k (k + pad) (drop inline_length s) (omega arith)) in
          let store : List ℕ = splice s inline_length (take k text ++ replicate (padding k + 16) 0) in
          let is : back s (n + pad) zs ≡ store =
          there ∙ filled ∙ ap₂ (λ (t : List ℕ) (i : ℕ). splice s inline_length (t ++ replicate (i + 16) 0)) front ep in
          ap (begin_last v) is
          ∙ sym (ap (λ (b : Bool). unless_refused (unless b refusal.Padding) (zeroed h s) (begin_last v store)) (ap all_zero padding-is ∙ z))

  -- ---- opened where it stands

  abbrev Second : ℕ → Type 0
  Second m = Region h s inline_length m (second_part_length h) (second_part h - 16)

  pub second-region : {m : ℕ} → m ≡ second_part_length h → 0 < second_part_length h → needed h ≤ length s → Second m
  second-region e some room =
      let t = there (no_second_part h) (second_part h) some in
      record { is = e; size = rest-size h t ∙ omega arith; fits = omega (arith, rest-size h t, rest-fits h t); room = room }

  module _ {m : ℕ} (l : Second m) (ys : List ℕ) (kept : length ys ≡ length (bytes l)) (b : List ℕ) where
    pub rest-refused : (n : Numbers) → judge_part v.receiving (bytes l) ≡ refused n → refuse n (zeroed h (left l ys kept)) ≡ finish stage.Second b v s
    unfolding finish
    rest-refused n j = part-refused l ys kept v.receiving (after_second_part (with_opened v)) n j

    pub rest-opened : judge_part v.receiving (bytes l) ≡ fine → ys ≡ part_text v.receiving (bytes l) ++ drop (length (bytes l) - 16) (bytes l)
        → after_second_part (with_opened v) (take (second_part h - 16) (drop inline_length (left l ys kept))) (left l ys kept) ≡ finish stage.Second b v s
    unfolding finish after_second_part
    rest-opened j t =
        part-opened l ys kept v.receiving (after_second_part (with_opened v))
        (λ text lt.
        let n : ℕ = h.s1.len - inline_length in
        let zs : List ℕ = replicate (padding n + 16) 0 in
        let front : length (take n text) ≡ n = length-take-le n text (omega arith) in
        let lx : length (take n text ++ zs) ≡ second_part_length h = length-append (take n text) zs ∙ omega (arith, front, length-replicate {A = ℕ} (padding n + 16) 0, l.size) in
        ap₂ (λ (x y : List ℕ). unless_refused (judge_padding (drop n text)) x (begin_last (with_opened v) y))
        (zeroed-same h s (left l ys kept) (left_behind l ys kept)) (left-again l ys kept (take n text ++ zs) lx)) j t
