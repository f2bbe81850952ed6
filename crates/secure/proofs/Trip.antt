-- The round trip: the judgements of a sealed frame that was built.
use Rattle.std.proofs.Common.{◌≡◌, ℕ, suc, ◌+◌, ◌-◌, ◌<◌, ◌≤◌, Bool, true, false, cond, List, [], ◌∷◌, ◌++◌, length, take, drop, replicate, sym, refl, ap, ◌∙◌, ap₂, append_assoc, append-nil, arith, length-append, length-drop, take-append-drop, drop_of_length-le, length-take, length-take-le, take_all, drop-drop, take_at, drop_at, lt-ltb, le-leb}
use borrow.Author.Tests.{lt-leb}
use Rattle.refusal.specs.declared.Refusal.TheVariants as refusal
use Rattle.refusal.specs.Refusals.{Judged, fine, unless}
use Rattle.refusal.proofs.Judgements.{all-fine}
use Rattle.refusal.proofs.Booleans.{by_less, wrong}
use Rattle.preamble.specs.declared.Header.{Header}
use Rattle.preamble.specs.declared.Preamble.{Preamble}
use Rattle.preamble.specs.Layout.{preamble_bytes}
use Rattle.preamble.specs.Judge.{header_of, judge_header, judge_shape, judge_flags, judge_tag, judge_limits}
use Rattle.preamble.specs.Reading.{HeaderFits, ReadsBack}
use Rattle.preamble.proofs.Laws.{length-preamble}
use Rattle.preamble.proofs.Back.{reads-back}
use Rattle.body.specs.Body.{rest_length, late_byte, rest_sent}
use Rattle.body.proofs.Laws.{length-sent}
use Rattle.body.specs.End.{Ended, whole, late_of}
use Rattle.banner.specs.declared.Revision.TheVariants.{Msgr21}
use Rattle.aes.specs.Aes.{State}
use Rattle.gcm.specs.Gcm.{sealed_by, opened_by}
use Rattle.gcm.proofs.Placing.{sealed-length}
use Rattle.gcm.proofs.RoundTrip.{lists}
use Rattle.secure.specs.Layout.{all_nonces, next_nonce, nonce_after, padding, round_up, padded, inlined, padded_from, first_text, second_text, last_text, last_lengths, no_second_part, no_last_part, unless_none, later_texts, texts, parts_from, sealed_parts, sealed_frame, second_part, second_part_length, last_part, last_part_length, sealed_length, part_count, needed}
use Rattle.secure.proofs.LastText.{length_of}
use Rattle.secure.proofs.Lengths.{length-segment, length-inlined, length-first-text, length-rest-text, length-last-text, length-frame}
use Rattle.buffer.specs.Zeros.{all_zero}
use Rattle.buffer.proofs.Zeros.{zeros_are, zeros-both}
use Rattle.secure.specs.Reading.{judge_padding, judge_first, unpadded, padding_of, late_byte_in, by_late_status, last_ended, at_end, frames}
use Rattle.secure.specs.Trip.{Sent, SealedTrip}
use Rattle.secure.proofs.Runs.{after-add}
use Rattle.secure.proofs.Parts.{PartOpens, PartsJudged, segment1, frame-trace}

-- ---- zeros and padding

pub no-padding : (bytes : List ℕ) → all_zero bytes ≡ true → judge_padding bytes ≡ fine
no-padding bytes e = ap (λ (b : Bool). unless b refusal.Padding) e

-- ---- a part that is read

opened : (w : List State) (nonce : List ℕ) (n : ℕ) (bytes text : List ℕ) → n < all_nonces → bytes ≡ sealed_by w nonce text → PartOpens w nonce n bytes text
opened w nonce n bytes text l e = record { fresh = ap (λ (b : Bool). unless b refusal.NoncesSpent) (lt-ltb n all_nonces l); opens = ap (opened_by w nonce) e ∙ lists w nonce text }

-- its bytes and what stands behind them, where parts stand one behind the other; c: it is missing
module _ (w : List State) (nonce text : List ℕ) (m : ℕ) (e : length text + 16 ≡ m) (ts : List (List ℕ)) (tail : List ℕ) where
  part-front : (c : Bool) → c ≡ false → take (cond c 0 m) (sealed_parts w (parts_from nonce (unless_none c text ++ ts)) ++ tail) ≡ sealed_by w nonce text
  part-front true z = wrong (sym z)
  part-front false z = rw append_assoc (take_at (sealed_by w nonce text) _ m (sealed-length w nonce text ∙ e))

  part-behind : (c : Bool) → drop (cond c 0 m) (sealed_parts w (parts_from nonce (unless_none c text ++ ts)) ++ tail) ≡ sealed_parts w (parts_from (nonce_after (cond c 0 1) nonce) ts) ++ tail
  unfolding nonce_after
  part-behind true = refl
  part-behind false = rw append_assoc (drop_at (sealed_by w nonce text) _ m (sealed-length w nonce text ∙ e))

-- ---- the first part

-- segment 1's bytes in the inline buffer, and behind them zeros
inline-bytes : (n : ℕ) (first : List ℕ) → length first ≡ n → take n (inlined first) ≡ take 48 first
inline-bytes n first e =
    by_less 48 n
    (λ l.
    let z : 48 - length first ≡ 0 = omega arith in
    take_all n (inlined first) (omega (arith, length-inlined first)) ∙ ap (λ (k : ℕ). take 48 first ++ replicate k 0) z ∙ append-nil (take 48 first))
    (λ l. take_at (take 48 first) (replicate (48 - length first) 0) n (omega (arith, length-take 48 first)))

inline-padding : (n : ℕ) (first : List ℕ) → length first ≡ n → all_zero (drop n (inlined first)) ≡ true
inline-padding n first e =
    by_less 48 n (λ l. ap all_zero (drop_of_length-le (inlined first) {i = n} (omega (arith, length-inlined first))))
    (λ l. ap all_zero (drop_at (take 48 first) (replicate (48 - length first) 0) n (omega (arith, length-take 48 first))) ∙ zeros_are (48 - length first))

module _ (h : Header) (first : List ℕ) (f : HeaderFits h) (j : judge_header h ≡ fine) (e : length first ≡ h.s1.len) where
  header_is : header_of (first_text h first) ≡ h
  unfolding first_text ReadsBack
  header_is = ap (λ (p : Preamble). p.header) (reads-back h (inlined first) f).fields

  behind-preamble : drop 32 (first_text h first) ≡ inlined first
  unfolding first_text
  behind-preamble = drop_at (preamble_bytes h) (inlined first) 32 (length-preamble h)

  first-padding : all_zero (drop (32 + h.s1.len) (first_text h first)) ≡ true
  first-padding =
      ap all_zero (sym (drop-drop h.s1.len 32 (first_text h first)) ∙ ap (drop h.s1.len) behind-preamble)
      ∙ inline-padding h.s1.len first e

  first-judged : (store : ℕ) → needed h ≤ store → judge_first (first_text h first) store ≡ fine
  unfolding judge_first judge_header first_text ReadsBack
  first-judged store r =
      let b = reads-back h (inlined first) f in
      let a = all-fine (judge_shape h ∷ judge_tag h.tag ∷ judge_limits h ∷ []) j in
      rw (b.checked, header_is, a.0, ap (λ (p : Preamble). judge_flags p.flags p.reserved) b.fields, a.1.0, a.1.1.0, le-leb (needed h) store r, first-padding)

-- ---- the rest of segment 1

module _ (h : Header) (first : List ℕ) (e : length first ≡ h.s1.len) where
  tail-length : length (drop 48 first) ≡ h.s1.len - 48
  tail-length = length-drop 48 first ∙ ap (λ (k : ℕ). k - 48) e

  second-bytes : take 48 first ++ take (h.s1.len - 48) (second_text first) ≡ first
  second-bytes = ap (λ (x : List ℕ). take 48 first ++ x) (take_at (drop 48 first) (replicate (padding (length (drop 48 first))) 0) (h.s1.len - 48) tail-length) ∙ take-append-drop 48 first

  second-zeros : judge_padding (drop (h.s1.len - 48) (second_text first)) ≡ fine
  second-zeros =
      no-padding (drop (h.s1.len - 48) (second_text first))
      (ap all_zero (drop_at (drop 48 first) (replicate (padding (length (drop 48 first))) 0) (h.s1.len - 48) tail-length) ∙ zeros_are (padding (length (drop 48 first))))

-- ---- the last part

module _ (n : ℕ) (bytes : List ℕ) (h : n ≤ length bytes) (later : List ℕ) where
  past-segment : drop (round_up n) (padded (take n bytes) ++ later) ≡ later
  past-segment = drop_at (padded (take n bytes)) later (round_up n) (length-segment n bytes h)

  of_segment : take (round_up n) (padded (take n bytes) ++ later) ≡ padded (take n bytes)
  of_segment = take_at (padded (take n bytes)) later (round_up n) (length-segment n bytes h)

  segment-bytes : take n (padded (take n bytes) ++ later) ≡ take n bytes
  segment-bytes =
      ap (take n) (append_assoc (take n bytes) (replicate (padding (length (take n bytes))) 0) later)
      ∙ take_at (take n bytes) (replicate (padding (length (take n bytes))) 0 ++ later) n (length-take-le n bytes h)

  segment-zeros : all_zero (drop n (take (round_up n) (padded (take n bytes) ++ later))) ≡ true
  segment-zeros =
      ap (λ (x : List ℕ). all_zero (drop n x)) of_segment
      ∙ ap all_zero (drop_at (take n bytes) (replicate (padding (length (take n bytes))) 0) n (length-take-le n bytes h))
      ∙ zeros_are (padding (length (take n bytes)))

less : (n m : ℕ) (bytes : List ℕ) → length bytes ≡ n + m → length (drop n bytes) ≡ m
less n m bytes e = length-drop n bytes ∙ ap (λ (k : ℕ). k - n) e ∙ omega arith

bytes_back : (ns : List ℕ) (late : ℕ) (bytes : List ℕ) → length bytes ≡ length_of ns → unpadded ns (padded_from ns late bytes) ≡ bytes
bytes_back [] late [] e = refl
bytes_back [] late (b ∷ bytes) e = absurd (omega arith)
bytes_back (n ∷ ns) late bytes e =
    let h : n ≤ length bytes = omega arith in
    let later : List ℕ = padded_from ns late (drop n bytes) in
    ap₂ (λ (x y : List ℕ). x ++ unpadded ns y) (segment-bytes n bytes h later) (past-segment n bytes h later)
    ∙ ap (λ (x : List ℕ). take n bytes ++ x) (bytes_back ns late (drop n bytes) (less n (length_of ns) bytes e))
    ∙ take-append-drop n bytes

zeros-back : (ns : List ℕ) (late : ℕ) (bytes : List ℕ) → length bytes ≡ length_of ns → all_zero (padding_of ns (padded_from ns late bytes)) ≡ true
zeros-back [] late bytes e = refl
zeros-back (n ∷ ns) late bytes e =
    let h : n ≤ length bytes = omega arith in
    let later : List ℕ = padded_from ns late (drop n bytes) in
    zeros-both (drop n (take (round_up n) (padded (take n bytes) ++ later))) (padding_of ns (drop (round_up n) (padded (take n bytes) ++ later)))
    (segment-zeros n bytes h later)
    (ap (λ (x : List ℕ). all_zero (padding_of ns x)) (past-segment n bytes h later) ∙ zeros-back ns late (drop n bytes) (less n (length_of ns) bytes e))

late-back : (ns : List ℕ) (late : ℕ) (bytes : List ℕ) → length bytes ≡ length_of ns → late_byte_in ns (padded_from ns late bytes) ≡ late
late-back [] late bytes e = refl
late-back (n ∷ ns) late bytes e =
    let h : n ≤ length bytes = omega arith in
    let later : List ℕ = padded_from ns late (drop n bytes) in
    ap (late_byte_in ns) (past-segment n bytes h later) ∙ late-back ns late (drop n bytes) (less n (length_of ns) bytes e)

module _ (h : Header) (late : ℕ) (bytes : List ℕ) (e : length bytes ≡ rest_length h) where
  summed : length bytes ≡ length_of (last_lengths h)
  summed = e ∙ omega arith

  last-ends : last_ended h (last_text h late bytes) ≡ by_late_status (late_of Msgr21 late) late fine
  unfolding last_ended last_text
  last-ends =
      ap₂ (λ (b : ℕ) (j : Judged). by_late_status (late_of Msgr21 b) b j) (late-back (last_lengths h) late bytes summed)
      (no-padding (padding_of (last_lengths h) (padded_from (last_lengths h) late bytes)) (zeros-back (last_lengths h) late bytes summed))

  last-bytes : unpadded (last_lengths h) (last_text h late bytes) ≡ bytes
  unfolding last_text
  last-bytes = bytes_back (last_lengths h) late bytes summed

-- ---- whole frames

module _ (w : List State) (nonce : List ℕ) (n : ℕ) (h : Header) (source store : List ℕ) (s : Sent n h source store) (abort : Bool) (tail : List ℕ) where
  abbrev late : ℕ
  late = late_byte Msgr21 abort

  abbrev first : List ℕ
  first = take h.s1.len source

  abbrev others : List ℕ
  others = rest_sent abort (drop h.s1.len source)

  abbrev t₁ : List ℕ
  t₁ = first_text h first

  abbrev t₂ : List ℕ
  t₂ = second_text first

  abbrev t₃ : List ℕ
  t₃ = last_text h late others

  abbrev X : List ℕ
  X = sealed_frame w nonce h abort source ++ tail

  length-one : length first ≡ h.s1.len
  length-one = length-take-le h.s1.len source (omega (arith, s.whole))

  length-others : length others ≡ rest_length h
  length-others = length-sent abort (drop h.s1.len source) ∙ length-drop h.s1.len source ∙ omega (arith, s.whole)

  -- the bytes of each part, and what stands behind it
  abbrev ts : List (List ℕ)
  ts = unless_none (no_second_part h) t₂ ++ unless_none (no_last_part h) t₃

  bytes₁ : take 96 X ≡ sealed_by w nonce t₁
  unfolding sealed_frame texts later_texts
  bytes₁ = part-front w nonce t₁ 96 (ap (λ (k : ℕ). k + 16) (length-first-text h first)) ts tail false refl

  behind₁ : drop 96 X ≡ sealed_parts w (parts_from (next_nonce nonce) ts) ++ tail
  unfolding sealed_frame texts later_texts nonce_after
  behind₁ = part-behind w nonce t₁ 96 (ap (λ (k : ℕ). k + 16) (length-first-text h first)) ts tail false

  bytes₂ : no_second_part h ≡ false → take (second_part_length h) (drop 96 X) ≡ sealed_by w (next_nonce nonce) t₂
  bytes₂ e =
      ap (take (second_part_length h)) behind₁
      ∙ part-front w (next_nonce nonce) t₂ (second_part h) (length-rest-text h first length-one) (unless_none (no_last_part h) t₃) tail (no_second_part h) e

  abbrev nonce₃ : List ℕ
  nonce₃ = nonce_after (1 + cond (no_second_part h) 0 1) nonce

  behind₂ : drop (96 + second_part_length h) X ≡ sealed_parts w (parts_from nonce₃ (unless_none (no_last_part h) t₃ ++ [])) ++ tail
  unfolding nonce_after
  behind₂ =
      sym (drop-drop (second_part_length h) 96 X)
      ∙ ap (drop (second_part_length h)) behind₁
      ∙ part-behind w (next_nonce nonce) t₂ (second_part h) (length-rest-text h first length-one) (unless_none (no_last_part h) t₃) tail (no_second_part h)
      ∙ rw (append-nil (unless_none (no_last_part h) t₃), ← (after-add 1 (cond (no_second_part h) 0 1) nonce))

  bytes₃ : no_last_part h ≡ false → take (last_part_length h) (drop (96 + second_part_length h) X) ≡ sealed_by w nonce₃ t₃
  bytes₃ e =
      ap (take (last_part_length h)) behind₂ ∙ part-front w nonce₃ t₃ (last_part h) (length-last-text h late others length-others) [] tail (no_last_part h) e

  behind₃ : drop (sealed_length h) X ≡ tail
  unfolding sealed_length
  behind₃ =
      sym (drop-drop (last_part_length h) (96 + second_part_length h) X)
      ∙ ap (drop (last_part_length h)) behind₂
      ∙ part-behind w nonce₃ t₃ (last_part h) (length-last-text h late others length-others) [] tail (no_last_part h)

  abbrev end : Ended
  end = cond (no_last_part h) whole (by_late_status (late_of Msgr21 late) late fine)

  judges : PartsJudged end w nonce n h (take 96 X) (take (second_part_length h) (drop 96 X)) (take (last_part_length h) (drop (96 + second_part_length h) X)) t₁ t₂ t₃ (length store)
  unfolding part_count
  judges =
      let l = s.nonces in
      record {
        begins = record {
          first = opened w nonce n (take 96 X) t₁ (omega arith) bytes₁;
          header = header_is h first s.fits s.header length-one;
          judged = first-judged h first s.fits s.header length-one (length store) s.room;
          second = λ e. opened w (next_nonce nonce) (suc n) (take (second_part_length h) (drop 96 X)) t₂ (let k = rw e at s.nonces in omega arith) (bytes₂ e);
          padded = λ e. second-zeros h first length-one;
        };
        last = λ e. opened w nonce₃ (n + (1 + cond (no_second_part h) 0 1)) (take (last_part_length h) (drop (96 + second_part_length h) X)) t₃ (let k = rw e at s.nonces in omega arith) (bytes₃ e);
        end = ap (λ (o : Ended). cond (no_last_part h) whole o) (last-ends h late others length-others);
      }

  segments-back : segment1 h t₁ t₂ ++ unpadded (last_lengths h) t₃ ≡ first ++ others
  segments-back =
      ap₂ ◌++◌
      (ap (λ (x : List ℕ). take h.s1.len x ++ take (h.s1.len - 48) t₂) (behind-preamble h first s.fits s.header length-one)
      ∙ ap (λ (x : List ℕ). x ++ take (h.s1.len - 48) t₂) (inline-bytes h.s1.len first length-one)
      ∙ second-bytes h first length-one)
      (last-bytes h late others length-others)

  frame-read : (f P : ℕ) → frames (suc f) w nonce n P X store
      ≡ at_end end h (P + sealed_length h) (first ++ others) store (frames f w (nonce_after (part_count h) nonce) (n + part_count h) (P + sealed_length h) tail)
  frame-read f P =
      frame-trace f P X store (omega (arith, length-append (sealed_frame w nonce h abort source) tail, length-frame w nonce h abort source s.whole)) judges
      ∙ rw (segments-back, behind₃)

complete : (b : Bool) → cond b whole (by_late_status (late_of Msgr21 0x0E) 0x0E fine) ≡ whole
complete true = refl
complete false = refl

pub trip : SealedTrip
unfolding SealedTrip
trip w nonce n h source store s = record {
  whole = λ f P tail. frame-read w nonce n h source store s false tail f P ∙ rw (complete (no_last_part h), take-append-drop h.s1.len source);
  aborted = λ c f P tail. frame-read w nonce n h source store s true tail f P ∙ rw (lt-leb h.count 1 c);
}
