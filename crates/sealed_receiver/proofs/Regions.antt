-- A part in the store of a frame: what is opened where it stands changes nothing before it, and nothing behind what the frame needs.
use Rattle.std.proofs.Common.{◌≡◌, ℕ, ◌+◌, ◌-◌, ◌≤◌, List, ◌++◌, length, take, drop, sym, ap, ◌∙◌, append_assoc, arith, length-drop, length-take-le, take_at}
use Rattle.buffer.specs.Splice.{splice}
use Rattle.buffer.proofs.Parts.{length-splice}
use Rattle.refusal.specs.declared.Numbers.{Numbers}
use Rattle.refusal.specs.declared.Refusal.{Refusal}
use Rattle.refusal.specs.Refusals.{Judged, fine, refused, numbers_of}
use Rattle.std.specs.Prelude.{Result, Ok, Err}
use Rattle.std.specs.Result.{IsErrAnd}
use Rattle.sealed_receiver.specs.declared.Transition.{Transition}
use Rattle.preamble.specs.declared.Header.{Header}
use Rattle.body.specs.End.{Ended, whole, dropped, refused_for}
use Rattle.stream.specs.declared.Event.TheVariants as event
use Rattle.std.specs.Prelude.{Some}
use Rattle.secure.specs.Layout.{needed}
use Rattle.secure.specs.Reading.{zeroed}
use Rattle.sealed_receiver.specs.declared.Receiving.{Receiving}
use Rattle.sealed_receiver.specs.declared.Known.{Known}
use Rattle.sealed_receiver.specs.Step.{Stepped, stepped, stepped_as, stepped_in, refuse, unless_refused, judge_part, part_text, next_frame, end_frame}
use Rattle.buffer.proofs.Splices.{splice-before, splice-from, splice-behind, splice-again, given_back}
use Rattle.sealed_receiver.proofs.Openings.{part-text-length}
use Rattle.secure.proofs.Stores.{zeroed-same, holding-same}

-- ---- what a frame's end leaves

pub end_same : (v : Known) (s s' : List ℕ) → drop (needed v.header) s' ≡ drop (needed v.header) s → (o : Ended) (payload : List ℕ)
    → length payload ≤ needed v.header → end_frame o v payload s' ≡ end_frame o v payload s
end_same v s s' d whole payload l =
    ap (λ (t : List ℕ). stepped (next_frame v) t (Some (event.Frame v.header))) (holding-same v.header s s' d payload l)
end_same v s s' d dropped payload l =
    ap (λ (t : List ℕ). stepped (next_frame v) t (Some (event.Dropped v.header))) (zeroed-same v.header s s' d)
end_same v s s' d (refused_for n) payload l = ap (refuse n) (zeroed-same v.header s s' d)

-- ---- what a refusal that is handed on leaves

pub refused-as : (o : Result Transition Refusal) (why : Refusal) (s : List ℕ) {x : Stepped} → IsErrAnd o (λ e. e ≡ why) → refuse (numbers_of why) s ≡ x → stepped_as o s ≡ x
refused-as (Ok t) why s p e = absurd p
refused-as (Err y) why s p e = ap (λ (r : Refusal). refuse (numbers_of r) s) p ∙ e

pub refused-in : (h : Header) (o : Result Transition Refusal) (why : Refusal) (s : List ℕ) {x : Stepped} → IsErrAnd o (λ e. e ≡ why) → refuse (numbers_of why) (zeroed h s) ≡ x → stepped_in h o s ≡ x
refused-in h (Ok t) why s p e = absurd p
refused-in h (Err y) why s p e = ap (λ (r : Refusal). refuse (numbers_of r) (zeroed h s)) p ∙ e

-- ---- a part lent from byte i on: n bytes, which are p by the definition, a text of q bytes and its tag

pub record Region (h : Header) (s : List ℕ) (i n p q : ℕ) : Type 0 where
  pub is : n ≡ p
  pub size : p ≡ q + 16
  pub fits : i + p ≤ needed h
  pub room : needed h ≤ length s

module _ {h : Header} {s : List ℕ} {i n p q : ℕ} (g : Region h s i n p q) where
  abbrev pub bytes : List ℕ
  bytes = take (i + n - i) (drop i s)

  pub lent-size : length bytes ≡ n
  lent-size = length-take-le (i + n - i) (drop i s) (omega (arith, length-drop i s)) ∙ omega arith

  before_it : i ≤ length s
  before_it = omega arith

  -- they came back as ys
  module _ (ys : List ℕ) (kept : length ys ≡ length bytes) where
    abbrev pub left : List ℕ
    left = take i s ++ (ys ++ drop (i + n - i) (drop i s))

    replaced : left ≡ splice s i ys
    replaced = given_back s ys i (i + n - i) (kept ∙ lent-size ∙ omega arith)

    pub left-length : length left ≡ length s
    left-length = ap length replaced ∙ length-splice s i ys (omega (arith, lent-size))

    pub left-before : take i left ≡ take i s
    left-before = ap (take i) replaced ∙ splice-before s i ys before_it

    pub left_behind : drop (needed h) left ≡ drop (needed h) s
    left_behind = ap (drop (needed h)) replaced ∙ splice-behind s i ys before_it (needed h) (omega (arith, lent-size))

    pub left-again : (xs : List ℕ) → length xs ≡ p → splice left i xs ≡ splice s i xs
    left-again xs e = ap (λ (t : List ℕ). splice t i xs) replaced ∙ splice-again s i ys xs before_it (omega (arith, lent-size))

    -- its text stands at its front
    text_in_lem : (text tag : List ℕ) → length text ≡ q → ys ≡ text ++ tag → take q (drop i left) ≡ text
    text_in_lem text tag e t =
        let behind : List ℕ = drop (i + length ys) s in
        ap (λ (x : List ℕ). take q (drop i x)) replaced
        ∙ ap (take q) (splice-from s i ys before_it ∙ ap (λ (x : List ℕ). x ++ behind) t ∙ append_assoc text tag behind)
        ∙ take_at text (tag ++ behind) q e

    -- the part is opened there, and `next` is what follows its text
    module _ (r : Receiving) (next : List ℕ → List ℕ → Stepped) where
      abbrev pub answer : List ℕ → Stepped
      answer x = unless_refused (judge_part r x) (zeroed h s) (next (part_text r x) s)

      same-part : answer bytes ≡ answer (take p (drop i s))
      same-part = let e : i + n - i ≡ p = omega arith in ap (λ (k : ℕ). answer (take k (drop i s))) e

      pub part-refused : (m : Numbers) → judge_part r bytes ≡ refused m → refuse m (zeroed h left) ≡ answer (take p (drop i s))
      part-refused m j =
          ap (refuse m) (zeroed-same h s left left_behind)
          ∙ sym (ap (λ (x : Judged). unless_refused x (zeroed h s) (next (part_text r bytes) s)) j)
          ∙ same-part

      pub part-opened : ((text : List ℕ) → length text ≡ q → next text left ≡ next text s) → judge_part r bytes ≡ fine
          → ys ≡ part_text r bytes ++ drop (length bytes - 16) bytes → next (take q (drop i left)) left ≡ answer (take p (drop i s))
      part-opened same j t =
          let text : List ℕ = part_text r bytes in
          let l : length text ≡ q = part-text-length r bytes j ∙ omega (arith, lent-size) in
          ap (λ (x : List ℕ). next x left) (text_in_lem text (drop (length bytes - 16) bytes) l t)
          ∙ same text l
          ∙ sym (ap (λ (x : Judged). unless_refused x (zeroed h s) (next text s)) j)
          ∙ same-part
