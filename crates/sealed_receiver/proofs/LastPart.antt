-- The last part: its segments and what pads them, its end, and its segments one behind the other.
use Rattle.std.proofs.Common.{◌≡◌, ℕ, ◌+◌, ◌-◌, ◌<◌, ◌≤◌, Bool, ◌&&◌, List, [], ◌++◌, length, get_or, take, drop, sym, ap, ◌∙◌, ap₂, append_assoc, append-nil, zero-add, arith, length-append, length-drop, length-take, length-take-le, drop-drop, take-add}
use mathlib.Core.Bool.{and_assoc}
use Rattle.buffer.specs.Splice.{splice}
use Rattle.buffer.proofs.Parts.{splice-next, drop-take}
use Rattle.refusal.specs.declared.Numbers.{Numbers}
use Rattle.refusal.specs.declared.Refusal.TheVariants as refusal
use Rattle.refusal.specs.Refusals.{fine, refused, unless}
use Rattle.preamble.specs.declared.Header.{Header}
use Rattle.preamble.specs.Layout.{total}
use Rattle.banner.specs.declared.Revision.TheVariants.{Msgr21}
use Rattle.body.specs.End.{Ended, whole, late_of}
use Rattle.secure.specs.Layout.{padding, round_up, no_last_part, last_lengths, last_part, last_part_length, needed}
use Rattle.buffer.specs.Zeros.{all_zero}
use Rattle.secure.specs.Reading.{unpadded, padding_of, late_byte_in, by_late_status, last_ended, zeroed}
use Rattle.sealed_receiver.specs.declared.Stage.TheVariants as stage
use Rattle.sealed_receiver.specs.declared.Known.{Known}
use Rattle.sealed_receiver.specs.Step.{refuse, with_opened, judge_part, part_text, end_frame, after_last_part, finish, ClosedUp}
use Rattle.buffer.proofs.Splices.{splice_upto, splice-behind}
use Rattle.sealed_receiver.proofs.Regions.{end_same, Region, bytes, left, left-before, left_behind, part-refused, part-opened}
use Rattle.secure.proofs.LastText.{behind_all, late-at, padded-at, unpadded-at, unpadded-short, rounds, unpadded-front}
use Rattle.secure.proofs.Bounds.{there, segments-fit, moves-fit, round_up_lem, last-size, last_fits}

-- ---- padded segments

-- what pads n bytes, of which the first stands at a place
pub pads : (text : List ℕ) (at n pad : ℕ) → pad ≡ padding n → take pad (drop (at + n) text) ≡ drop n (take (round_up n) (drop at text))
pads text at n pad e =
    ap (take pad) (sym (drop-drop n at text))
    ∙ sym (drop-take n pad (drop at text))
    ∙ ap (λ (k : ℕ). drop n (take (n + k) (drop at text))) e

module _ (h : Header) (s text : List ℕ) where
  abbrev pub payload : List ℕ
  payload = take h.s1.len s ++ unpadded (last_lengths h) text

  pub payload-fits : length payload ≤ needed h
  payload-fits =
      let first : List ℕ = take h.s1.len s in
      let others : List ℕ = unpadded (last_lengths h) text in
      omega (arith, length-append first others, length-take h.s1.len s, unpadded-short (last_lengths h) text, segments-fit h)

-- ---- how it ends

module _ (h : Header) (text : List ℕ) (r₂ r₃ r₄ : ℕ)
    (e₂ : r₂ ≡ round_up h.s2.len) (e₃ : r₃ ≡ round_up h.s3.len) (e₄ : r₄ ≡ round_up h.s4.len) where
  abbrev places : ℕ → ℕ → ℕ → Bool
  places i j k =
      all_zero (drop h.s2.len (take (round_up h.s2.len) text))
      && (all_zero (drop h.s3.len (take (round_up h.s3.len) (drop i text)))
      && (all_zero (drop h.s4.len (take (round_up h.s4.len) (drop j text))) && all_zero (drop (k + 1) text)))

  third_at : r₂ ≡ 0 + round_up h.s2.len
  third_at = e₂ ∙ sym (zero-add (round_up h.s2.len))

  fourth_at : r₂ + r₃ ≡ 0 + round_up h.s2.len + round_up h.s3.len
  fourth_at = ap₂ ◌+◌ third_at e₃

  epilogue-at : r₂ + r₃ + r₄ ≡ behind_all 0 (last_lengths h)
  epilogue-at = ap₂ ◌+◌ fourth_at e₄

  late_is : get_or text (r₂ + r₃ + r₄) 0 ≡ late_byte_in (last_lengths h) text
  late_is = ap (λ (k : ℕ). get_or text k 0) epilogue-at ∙ sym (late-at (last_lengths h) 0 text)

  -- as code tests it
  abbrev zeros₂ : Bool
  zeros₂ =
      all_zero (drop h.s2.len (take (round_up h.s2.len) text))
      && all_zero (drop h.s3.len (take (round_up h.s3.len) (drop r₂ text)))
      && (all_zero (drop h.s4.len (take (round_up h.s4.len) (drop (r₂ + r₃) text))) && all_zero (drop (r₂ + r₃ + r₄ + 1) text))

  pub padded-is : zeros₂ ≡ all_zero (padding_of (last_lengths h) text)
  padded-is =
      and_assoc (all_zero (drop h.s2.len (take (round_up h.s2.len) text)))
      (all_zero (drop h.s3.len (take (round_up h.s3.len) (drop r₂ text))))
      (all_zero (drop h.s4.len (take (round_up h.s4.len) (drop (r₂ + r₃) text))) && all_zero (drop (r₂ + r₃ + r₄ + 1) text))
      ∙ ap (λ (i : ℕ). places i (r₂ + r₃) (r₂ + r₃ + r₄)) third_at
      ∙ ap₂ (places (0 + round_up h.s2.len)) fourth_at epilogue-at
      ∙ sym (padded-at (last_lengths h) 0 text)

  pub last-ended : (late : ℕ) (padded : Bool) → late ≡ get_or text (r₂ + r₃ + r₄) 0 → padded ≡ all_zero (padding_of (last_lengths h) text)
      → by_late_status (late_of Msgr21 late) late (unless padded refusal.Padding) ≡ last_ended h text
  unfolding last_ended
  last-ended late padded el ep =
      ap₂ (λ (b : ℕ) (p : Bool). by_late_status (late_of Msgr21 b) b (unless p refusal.Padding)) (el ∙ late_is) ep

-- ---- segments 3 and 4 moved behind those before them

module _ (h : Header) (s s₁ s₂ : List ℕ) (r₂ r₃ : ℕ)
    (room : needed h ≤ length s) (e₂ : r₂ ≡ round_up h.s2.len) (e₃ : r₃ ≡ round_up h.s3.len) where
  abbrev n₁ : ℕ
  n₁ = h.s1.len

  abbrev n₂ : ℕ
  n₂ = h.s2.len

  abbrev n₃ : ℕ
  n₃ = h.s3.len

  abbrev n₄ : ℕ
  n₄ = h.s4.len

  pub third-fits : (n₁ + n₂ ≤ n₁ + r₂) × (n₁ + r₂ + n₃ ≤ length s)
  third-fits = let m = moves-fit h r₂ r₃ e₂ e₃ in let a = round_up_lem n₂ r₂ e₂ in let b = round_up_lem n₃ r₃ e₃ in (omega arith, omega arith)

  pub fourth_fits : length s₁ ≡ length s → (n₁ + n₂ + n₃ ≤ n₁ + r₂ + r₃) × (n₁ + r₂ + r₃ + n₄ ≤ length s₁)
  fourth_fits l = let m = moves-fit h r₂ r₃ e₂ e₃ in let a = round_up_lem n₂ r₂ e₂ in let b = round_up_lem n₃ r₃ e₃ in (omega arith, omega arith)

  abbrev x₃ : List ℕ
  x₃ = take n₃ (drop (n₁ + r₂) s)

  abbrev x₄ : List ℕ
  x₄ = take n₄ (drop (n₁ + r₂ + r₃) s)

  third-length : length x₃ ≡ n₃
  third-length = length-take-le n₃ (drop (n₁ + r₂) s) (omega (arith, length-drop (n₁ + r₂) s, third-fits.1))

  fourth_length : length x₄ ≡ n₄
  fourth_length =
      length-take-le n₄ (drop (n₁ + r₂ + r₃) s) (omega (arith, length-drop (n₁ + r₂ + r₃) s, moves-fit h r₂ r₃ e₂ e₃))

  up-to-third : n₁ + n₂ ≤ length s
  up-to-third = omega (arith, third-fits.0, third-fits.1)

  module _ (m₁ : s₁ ≡ splice s (n₁ + n₂) x₃) (m₂ : s₂ ≡ splice s₁ (n₁ + n₂ + n₃) (take n₄ (drop (n₁ + r₂ + r₃) s₁))) where
    both-moved : s₂ ≡ splice s (n₁ + n₂) (x₃ ++ x₄)
    both-moved =
        let far : n₁ + n₂ + length x₃ ≤ n₁ + r₂ + r₃ = omega (arith, third-length, round_up_lem n₂ r₂ e₂, round_up_lem n₃ r₃ e₃) in
        let unmoved : drop (n₁ + r₂ + r₃) s₁ ≡ drop (n₁ + r₂ + r₃) s =
        ap (drop (n₁ + r₂ + r₃)) m₁ ∙ splice-behind s (n₁ + n₂) x₃ up-to-third (n₁ + r₂ + r₃) far in
        m₂
        ∙ ap₂ (λ (a b : List ℕ). splice a (n₁ + n₂ + n₃) (take n₄ b)) m₁ unmoved
        ∙ ap (λ (k : ℕ). splice (splice s (n₁ + n₂) x₃) (n₁ + n₂ + k) x₄) (sym third-length)
        ∙ splice-next s (n₁ + n₂) x₃ x₄ up-to-third

    moved_length : length (x₃ ++ x₄) ≡ n₃ + n₄
    moved_length = length-append x₃ x₄ ∙ ap₂ ◌+◌ third-length fourth_length

    segments_are : take n₂ (drop n₁ s) ++ (x₃ ++ x₄) ≡ unpadded (last_lengths h) (drop n₁ s)
    segments_are =
        let third : n₁ + r₂ ≡ n₁ + round_up n₂ = ap (λ (k : ℕ). n₁ + k) e₂ in
        ap (λ (t : List ℕ). take n₂ (drop n₁ s) ++ (x₃ ++ t)) (sym (append-nil x₄))
        ∙ ap₂ (λ (i j : ℕ). take n₂ (drop n₁ s) ++ (take n₃ (drop i s) ++ (take n₄ (drop j s) ++ []))) third (ap₂ ◌+◌ third e₃)
        ∙ sym (unpadded-at (last_lengths h) n₁ s)

    pub closed-up : ClosedUp h s s₂
    closed-up =
        let size : total h ≡ n₁ + n₂ + length (x₃ ++ x₄) = omega (arith, moved_length) in
        record {
          segments =
              ap₂ take size both-moved
              ∙ splice_upto s (n₁ + n₂) (x₃ ++ x₄) up-to-third
              ∙ ap (λ (t : List ℕ). t ++ (x₃ ++ x₄)) (take-add n₁ n₂ s)
              ∙ append_assoc (take n₁ s) (take n₂ (drop n₁ s)) (x₃ ++ x₄)
              ∙ ap (λ (t : List ℕ). take n₁ s ++ t) segments_are;
          behind =
              ap (drop (needed h)) both-moved
              ∙ splice-behind s (n₁ + n₂) (x₃ ++ x₄) up-to-third (needed h) (omega (arith, size, segments-fit h));
        }

module _ (v : Known) (s : List ℕ) where
  abbrev g : Header
  g = v.header

  -- ---- the frame's end: the text stands in the store, behind segment 1

  module _ {m : ℕ} (em : m ≡ last_part g - 16) where
    abbrev text : List ℕ
    text = take (last_part g - 16) (drop g.s1.len s)

    read_is : take m (drop g.s1.len s) ≡ text
    read_is = ap (λ (k : ℕ). take k (drop g.s1.len s)) em

    module _ {o : Ended} (eo : o ≡ last_ended g (take m (drop g.s1.len s))) where
      pub last-ends : (x : Ended) → o ≡ x → end_frame x v (payload g s text) s ≡ after_last_part v text s
      unfolding after_last_part
      last-ends x e = ap (λ (y : Ended). end_frame y v (payload g s text) s) (sym e ∙ eo ∙ ap (last_ended g) read_is)

      pub last-whole : (s₁ : List ℕ) → o ≡ whole → ClosedUp g s s₁ → end_frame whole v (take (total g) s₁) s₁ ≡ after_last_part v text s
      last-whole s₁ e closed =
          let all : rounds (last_lengths g) ≤ last_part g - 16 = omega arith in
          let front : unpadded (last_lengths g) (drop g.s1.len s) ≡ unpadded (last_lengths g) text =
          sym (unpadded-front (last_lengths g) (last_part g - 16) (drop g.s1.len s) all) in
          ap (λ (p : List ℕ). end_frame whole v p s₁) (closed.segments ∙ ap (λ (t : List ℕ). take g.s1.len s ++ t) front)
          ∙ end_same v s s₁ closed.behind whole (payload g s text) (payload-fits g s text)
          ∙ last-ends whole e

  -- ---- opened where it stands

  abbrev Last : ℕ → Type 0
  Last n = Region g s g.s1.len n (last_part_length g) (last_part g - 16)

  pub last-region : {n : ℕ} → n ≡ last_part_length g → 0 < last_part_length g → needed g ≤ length s → Last n
  last-region e some room =
      let z = last-size g (there (no_last_part g) (last_part g) some) in
      record { is = e; size = z ∙ omega arith; fits = omega (arith, z, last_fits g); room = room }

  module _ {n : ℕ} (l : Last n) (ys : List ℕ) (kept : length ys ≡ length (bytes l)) (b : List ℕ) where
    pub last-refused : (m : Numbers) → judge_part v.receiving (bytes l) ≡ refused m → refuse m (zeroed g (left l ys kept)) ≡ finish stage.Last b v s
    unfolding finish
    last-refused m j = part-refused l ys kept v.receiving (after_last_part (with_opened v)) m j

    pub last-opened : judge_part v.receiving (bytes l) ≡ fine → ys ≡ part_text v.receiving (bytes l) ++ drop (length (bytes l) - 16) (bytes l)
        → after_last_part (with_opened v) (take (last_part g - 16) (drop g.s1.len (left l ys kept))) (left l ys kept) ≡ finish stage.Last b v s
    unfolding finish after_last_part
    last-opened j t =
        part-opened l ys kept v.receiving (after_last_part (with_opened v))
        (λ text _.
        ap (λ (p : List ℕ). end_frame (last_ended g text) (with_opened v) (p ++ unpadded (last_lengths g) text) (left l ys kept)) (left-before l ys kept)
        ∙ end_same (with_opened v) s (left l ys kept) (left_behind l ys kept) (last_ended g text) (payload g s text) (payload-fits g s text)) j t
