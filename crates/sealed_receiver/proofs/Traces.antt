-- The receiver's step, run over a stream of sealed frames, gives what the definition over whole streams has.
use Rattle.std.proofs.Common.{◌≡◌, ℕ, zero, suc, ◌+◌, ◌-◌, ◌<◌, ◌≤◌, false, cond, List, [], ◌∷◌, ◌++◌, length, take, drop, replicate, sym, refl, ap, ◌∙◌, ap₂, append_assoc, zero-le, le_refl, add-zero, zero-add, arith, lit<, length-append, length-drop, length-take, length-take-le, take_at, le-ltb, lt-ltb, leb-false, leb-true}
use lib.ListN.{length-replicate}
use lib.Seq.{sets, sets-eq}
use Rattle.buffer.specs.Splice.{replace_front, splice}
use Rattle.buffer.proofs.Parts.{replace_front-next, length-replace_front, over-longer}
use Rattle.refusal.specs.Refusals.{Judged, fine, refused, or_else}
use Rattle.refusal.proofs.Booleans.{by_test, at_test, by_less}
use Rattle.preamble.specs.declared.Header.{Header}
use Rattle.preamble.specs.Judge.{header_of}
use Rattle.body.specs.End.{Ended, whole, dropped, refused_for}
use Rattle.stream.specs.declared.Event.TheVariants as event
use Rattle.stream.specs.Stream.{Trace, ended, after}
use Rattle.stream.specs.Stream as stream
use Rattle.preamble.specs.Layout.{no_header}
use Rattle.buffer.proofs.Sets.{sets-whole}
use Rattle.receiver.proofs.Machine.{Silent, scan, scan-none, scan-silent}
use Rattle.receiver.proofs.Gathers.{trace_by, run, byte_step, short, full}
use Rattle.aes.specs.Aes.{key_expansion}
use Rattle.gcm.specs.Gcm.{Opened, plain, fail, opened_by}
use Rattle.secure.specs.Layout.{next_nonce, padding, inline_length, first_length, no_second_part, no_last_part, second_part, last_part, second_part_length, last_part_length, last_lengths, needed}
use Rattle.secure.specs.Reading.{judge_nonce, judge_padding, judge_first, unpadded, last_ended, zeroed, holding, by_opening, part_trace, at_end, last_trace, second_trace, frames, sealed_trace}
use Rattle.sealed_receiver.specs.declared.Stage.TheVariants as stage
use Rattle.sealed_receiver.specs.declared.Receiving.{Receiving}
use Rattle.sealed_receiver.specs.declared.Known.{Known}
use Rattle.sealed_receiver.specs.declared.State.{State}
use Rattle.sealed_receiver.specs.State.{opened_of, fresh_receiving, opened_more}
use Rattle.sealed_receiver.specs.Step.{blank, at, knowing, with_opened, with_header, next_frame, switched, refused_state, Stepped, unless_refused, judge_opened, text_of, judge_part, part_text, end_frame, begin_last, begin_second_part, after_first_part, after_second_part, after_last_part, finish, stored}
use Rattle.secure.proofs.Bounds.{segments-fit, rest-beyond, rest-size, rest-fits, last-size, last_fits}
use Rattle.sealed_receiver.proofs.Openings.{part-text-length, opened-next}
use Rattle.secure.proofs.Parts.{first_fits}
use Rattle.sealed_receiver.proofs.Gathered.{bare, parts}
use Rattle.buffer.proofs.Splices.{splice-before, splice_at, splice-again}
use Rattle.secure.proofs.Stores.{zeroed-over, holding-over}

-- what the bytes from P on come to, from a state and a store, and from a step
abbrev pub traced : State → List ℕ → ℕ → List ℕ → Trace
traced st s P ys = trace_by (scan (byte_step parts) st s P ys)

abbrev pub runs : Stepped → ℕ → List ℕ → Trace
runs y P ys = run parts (bare y) P ys

-- ---- a refused receiver is silent

pub refused_byte : (st : State) (s : List ℕ) (b : ℕ) → st.position.stage ≡ stage.Refused → Silent {State = State} (λ x. x.position.stage ≡ stage.Refused) s (byte_step parts st s b)
unfolding finish
refused_byte st s b e = rw (e, le-ltb (st.position.got + 1) 0 zero-le) (record { state = refl; store = refl; report = refl })

pub silent-trace : (st : State) (s : List ℕ) (P : ℕ) (ys : List ℕ) → st.position.stage ≡ stage.Refused → traced st s P ys ≡ ended s
silent-trace st s P ys e =
    let z = scan-silent (byte_step parts) (λ x. x.position.stage ≡ stage.Refused) refused_byte st s P ys e in
    ap₂ (λ (es : List stream.Entry) (l : List ℕ). record { entries = es; store = l }) z.0 z.1

run-unless : (j : Judged) (s : List ℕ) (x : Stepped) (P : ℕ) (ys : List ℕ) → runs (unless_refused j s x) P ys ≡ stream.unless_refused j P s (runs x P ys)
run-unless fine s x P ys = refl
run-unless (refused n) s x P ys = ap (after (event.Refused n) P s) (silent-trace (refused_state n) s P ys refl)

-- a part that is opened: what follows depends on the text only there
opened-trace : (j : Judged) (o : Opened) (P : ℕ) (s : List ℕ) (x : Trace) (next : List ℕ → Trace) → (or_else j (judge_opened o) ≡ fine → x ≡ next (text_of o))
    → stream.unless_refused (or_else j (judge_opened o)) P s x ≡ stream.unless_refused j P s (by_opening o P s next)
opened-trace fine (plain text) P s x next h = h refl
opened-trace fine fail P s x next h = refl
opened-trace (refused n) o P s x next h = refl

part-run : (r : Receiving) (bytes : List ℕ) (y : Stepped) (P : ℕ) (ys s : List ℕ) (next : List ℕ → Trace) → (judge_part r bytes ≡ fine → runs y P ys ≡ next (part_text r bytes))
    → runs (unless_refused (judge_part r bytes) s y) P ys ≡ part_trace (key_expansion r.key) r.nonce (opened_of r) bytes P s next
unfolding judge_part part_text
part-run r bytes y P ys s next h =
    run-unless (judge_part r bytes) s y P ys
    ∙ opened-trace (judge_nonce (opened_of r)) (opened_by (key_expansion r.key) r.nonce bytes) P s (runs y P ys) next h

part-next : (j : Judged) (P : ℕ) (s : List ℕ) (x y : Trace) → (j ≡ fine → x ≡ y) → stream.unless_refused j P s x ≡ stream.unless_refused j P s y
part-next fine P s x y h = h refl
part-next (refused n) P s x y h = refl

-- what of segment 1 stands in the inline buffer
inline-size : (text : List ℕ) (h : Header) → length text ≡ 80 → length (take h.s1.len (drop 32 text)) ≡ cond (no_second_part h) h.s1.len inline_length
inline-size text h k =
    let n = h.s1.len in
    let d = length-drop 32 text in
    at_test (λ b. length (take n (drop 32 text)) ≡ cond b n inline_length) (no_second_part h)
    (λ e. length-take-le n (drop 32 text) (omega (arith, leb-true n inline_length e))) (λ e. length-take n (drop 32 text) ∙ omega (arith, leb-false n inline_length e))

-- ---- a frame, part by part; f bounds how many frames follow

unfoldable pub Below : ℕ → Type 0
Below f = (v : Known) (P : ℕ) (ys s : List ℕ) → length ys ≤ f
    → traced (next_frame v) s P ys ≡ frames f (key_expansion v.receiving.key) v.receiving.nonce (opened_of v.receiving) P ys s

-- a part's bytes do not matter for how the frame ends
end-over : (x : Ended) (v : Known) (p s xs : List ℕ) (i : ℕ) → i ≤ length s → i + length xs ≤ needed v.header
    → end_frame x v p (splice s i xs) ≡ end_frame x v p s
end-over whole v p s xs i k l = rw (holding-over v.header p s xs i k l)
end-over dropped v p s xs i k l = rw (zeroed-over v.header s xs i k l)
end-over (refused_for n) v p s xs i k l = rw (zeroed-over v.header s xs i k l)

module _ (f : ℕ) (below : Below f) where
  end-run : (x : Ended) (v : Known) (P : ℕ) (ys p s : List ℕ) → length ys ≤ f
      → runs (end_frame x v p s) P ys
      ≡ at_end x v.header P p s (frames f (key_expansion v.receiving.key) v.receiving.nonce (opened_of v.receiving) P ys)
  unfolding Below
  end-run whole v P ys p s l = ap (after (event.Frame v.header) P (holding v.header p s)) (below v P ys (holding v.header p s) l)
  end-run dropped v P ys p s l = ap (after (event.Dropped v.header) P (zeroed v.header s)) (below v P ys (zeroed v.header s) l)
  end-run (refused_for n) v P ys p s l =
      ap (after (event.Refused n) P (zeroed v.header s)) (silent-trace (refused_state n) (zeroed v.header s) P ys refl)

  -- ---- the last part

  module _ (v : Known) (P : ℕ) (ys first s : List ℕ)
      (fits : needed v.header ≤ length s) (stands : take v.header.s1.len s ≡ first) (left : length ys ≤ f) where
    abbrev r : Receiving
    r = v.receiving

    abbrev h : Header
    h = v.header

    abbrev n₁ : ℕ
    n₁ = h.s1.len

    abbrev xs : List ℕ
    xs = take (last_part h) ys

    -- what an opened last part leads to
    abbrev behind₂ : List ℕ → Trace
    behind₂ text =
        at_end (last_ended h text) h (P + last_part h) (first ++ unpadded (last_lengths h) text) s
        (frames f (key_expansion r.key) (next_nonce r.nonce) (suc (opened_of r)) (P + last_part h) (drop (last_part h) ys))

    last-placed : (zs : List ℕ) → length zs ≤ last_part h → stored (at stage.Last v) s zs ≡ splice s n₁ zs
    last-placed zs l = ap (λ (k : ℕ). sets s k zs) (add-zero n₁) ∙ sets-eq zs s n₁ (let q = last_fits h in omega (arith, q))

    last-finish : no_last_part h ≡ false → last_part h ≤ length ys
        → finish stage.Last blank v (splice s n₁ xs)
        ≡ unless_refused (judge_part r xs) (zeroed h s) (end_frame (last_ended h (part_text r xs)) (with_opened v) (first ++ unpadded (last_lengths h) (part_text r xs)) s)
    unfolding finish after_last_part
    last-finish e l =
        let q = last_fits h in
        let n : length xs ≡ last_part h = length-take-le (last_part h) ys l in
        let k : n₁ ≤ length s = omega (arith, q) in
        let m : n₁ + length xs ≤ needed h = omega (arith, q) in
        let x = last_ended h (part_text r xs) in
        let u = unpadded (last_lengths h) (part_text r xs) in
        ap₂ (λ (b z : List ℕ). unless_refused (judge_part r b) z (after_last_part (with_opened v) (part_text r b) (splice s n₁ xs)))
        (splice_at s n₁ xs k (last_part_length h) (n ∙ sym (last-size h e))) (zeroed-over h s xs n₁ k m)
        ∙ ap (unless_refused (judge_part r xs) (zeroed h s))
        (end-over x (with_opened v) (take n₁ (splice s n₁ xs) ++ u) s xs n₁ k m ∙ ap (λ (p : List ℕ). end_frame x (with_opened v) (p ++ u) s) (splice-before s n₁ xs k ∙ stands))

    -- all of it came
    last-whole : no_last_part h ≡ false → last_part h ≤ length ys
        → traced (at stage.Last v) s P ys ≡ part_trace (key_expansion r.key) r.nonce (opened_of r) xs (P + last_part h) (zeroed h s) behind₂
    unfolding opened_more
    last-whole e l =
        let n : length xs ≡ last_part h = length-take-le (last_part h) ys l in
        let some : 0 < last_part h = omega arith in
        let len : length (drop (last_part h) ys) ≤ f = omega (arith, length-drop (last_part h) ys) in
        let T = part_text r xs in
        let p = first ++ unpadded (last_lengths h) T in
        full parts (at stage.Last v) s P (last_part h) ys some (zero-add (last_part h) ∙ sym (last-size h e)) l
        ∙ ap (λ (t : List ℕ). runs (finish stage.Last blank v t) (P + last_part h) (drop (last_part h) ys)) (last-placed xs (omega (arith, n)))
        ∙ ap (λ (y : Stepped). runs y (P + last_part h) (drop (last_part h) ys)) (last-finish e l)
        ∙ part-run r xs (end_frame (last_ended h T) (with_opened v) p s) (P + last_part h) (drop (last_part h) ys) (zeroed h s) behind₂
        (λ j. end-run (last_ended h T) (with_opened v) (P + last_part h) (drop (last_part h) ys) p s len
        ∙ ap (λ (m : ℕ). at_end (last_ended h T) h (P + last_part h) p s (frames f (key_expansion r.key) (next_nonce r.nonce) m (P + last_part h) (drop (last_part h) ys))) (opened-next r xs j))

    last-cut : no_last_part h ≡ false → length ys < last_part h → traced (at stage.Last v) s P ys ≡ ended (splice s n₁ ys)
    last-cut e l =
        let k : 0 + length ys < last_part_length h = rw (last-size h e) (omega arith) in
        short parts (at stage.Last v) s P ys k ∙ ap ended (last-placed ys (omega arith))

    last-run : runs (begin_last v s) P ys ≡ last_trace (key_expansion r.key) h r.nonce (opened_of r) P ys first s (frames f (key_expansion r.key))
    last-run =
        by_test (no_last_part h) (λ e. rw e (ap (λ (p : List ℕ). runs (end_frame whole v p s) P ys) stands ∙ end-run whole v P ys first s left))
        (λ e. by_less (length ys) (last_part h) (λ l. rw (e, lt-ltb (length ys) (last_part h) l) (last-cut e l)) (λ l. rw (e, le-ltb (length ys) (last_part h) l) (last-whole e l)))

  -- ---- the rest of segment 1

  module _ (v : Known) (P : ℕ) (ys first s : List ℕ) (fits : needed v.header ≤ length s) (left : length ys ≤ f) where
    abbrev r₁ : Receiving
    r₁ = v.receiving

    abbrev h₁ : Header
    h₁ = v.header

    abbrev m₁ : ℕ
    m₁ = h₁.s1.len - inline_length

    abbrev rs : List ℕ
    rs = take (second_part h₁) ys

    -- the store with the inline bytes at its front
    abbrev inline : List ℕ
    inline = replace_front first s

    -- what an opened second part leads to
    abbrev behind₁ : List ℕ → Trace
    behind₁ text =
        stream.unless_refused (judge_padding (drop m₁ text)) (P + second_part h₁) (zeroed h₁ s)
        (last_trace (key_expansion r₁.key) h₁ (next_nonce r₁.nonce) (suc (opened_of r₁)) (P + second_part h₁) (drop (second_part h₁) ys) (first ++ take m₁ text)
        (replace_front (first ++ take m₁ text ++ replicate (padding m₁ + 16) 0) s) (frames f (key_expansion r₁.key)))

    module _ (e : no_second_part h₁ ≡ false) (size₁ : length first ≡ inline_length) where
      inline-fits : length inline ≡ length s
      inline-fits = length-replace_front first s (let q = rest-fits h₁ e in omega (arith, q))

      rest-placed : (zs : List ℕ) → length zs ≤ second_part h₁ → stored (at stage.Second v) inline zs ≡ splice inline inline_length zs
      rest-placed zs l = ap (λ (k : ℕ). sets inline k zs) (add-zero inline_length) ∙ sets-eq zs inline inline_length (let q = rest-fits h₁ e in let i = inline-fits in omega (arith, q, i))

      rest-cut : length ys < second_part h₁ → traced (at stage.Second v) inline P ys ≡ ended (splice inline inline_length ys)
      rest-cut l =
          let k : 0 + length ys < second_part_length h₁ = rw (rest-size h₁ e) (omega arith) in
          short parts (at stage.Second v) inline P ys k ∙ ap ended (rest-placed ys (omega arith))

      module _ (l : second_part h₁ ≤ length ys) where
        rest-n : length rs ≡ second_part h₁
        rest-n = length-take-le (second_part h₁) ys l

        inline-room : inline_length ≤ length inline
        inline-room = let q = rest-fits h₁ e in let i = inline-fits in omega (arith, q, i)

        rest-zeroed : zeroed h₁ (splice inline inline_length rs) ≡ zeroed h₁ s
        rest-zeroed =
            let q = rest-fits h₁ e in
            let z = length-replicate {A = ℕ} (needed h₁) 0 in
            zeroed-over h₁ inline rs inline_length inline-room (let n = rest-n in omega (arith, q, n)) ∙ over-longer first (replicate (needed h₁) 0) s (omega (arith, z, q, size₁))

        rest-finish : finish stage.Second blank v (splice inline inline_length rs)
            ≡ unless_refused (judge_part r₁ rs) (zeroed h₁ s) (after_second_part (with_opened v) (part_text r₁ rs) (splice inline inline_length rs))
        unfolding finish
        rest-finish =
            ap₂ (λ (b z : List ℕ). unless_refused (judge_part r₁ b) z (after_second_part (with_opened v) (part_text r₁ b) (splice inline inline_length rs)))
            (splice_at inline inline_length rs inline-room (second_part_length h₁) (rest-n ∙ sym (rest-size h₁ e))) rest-zeroed

        -- an opened one, and what is behind it
        module _ (j : judge_part r₁ rs ≡ fine) where
          abbrev text₁ : List ℕ
          text₁ = part_text r₁ rs

          abbrev whole₁ : List ℕ
          whole₁ = first ++ take m₁ text₁

          abbrev zeros₁ : List ℕ
          zeros₁ = replicate (padding m₁ + 16) 0

          rest-length : length (take m₁ text₁) ≡ m₁
          rest-length = length-take-le m₁ text₁ (let k = part-text-length r₁ rs j in let n = rest-n in omega (arith, k, n))

          whole_length : length whole₁ ≡ h₁.s1.len
          whole_length = length-append first (take m₁ text₁) ∙ (let k = rest-length in let l₁ = rest-beyond h₁ e in omega (arith, k, l₁, size₁))

          rest-store : splice (splice inline inline_length rs) inline_length (take m₁ text₁ ++ zeros₁) ≡ replace_front (whole₁ ++ zeros₁) s
          rest-store =
              let a = length-append (take m₁ text₁) zeros₁ in
              let z = length-replicate {A = ℕ} (padding m₁ + 16) 0 in
              let k = rest-length in
              let n = rest-n in
              splice-again inline inline_length rs (take m₁ text₁ ++ zeros₁) inline-room (omega (arith, a, z, k, n))
              ∙ ap (λ (i : ℕ). splice inline i (take m₁ text₁ ++ zeros₁)) (sym size₁)
              ∙ replace_front-next s first (take m₁ text₁ ++ zeros₁)
              ∙ ap (λ (t : List ℕ). replace_front t s) (sym (append_assoc first (take m₁ text₁) zeros₁))

          rest-kept : length (replace_front (whole₁ ++ zeros₁) s) ≡ length s
          rest-kept =
              let a = length-append whole₁ zeros₁ in
              let z = length-replicate {A = ℕ} (padding m₁ + 16) 0 in
              let k = whole_length in
              let q = rest-fits h₁ e in
              let l₁ = rest-beyond h₁ e in
              length-replace_front (whole₁ ++ zeros₁) s (omega (arith, a, z, k, q, l₁))

          rest-stands : take h₁.s1.len (replace_front (whole₁ ++ zeros₁) s) ≡ whole₁
          rest-stands =
              ap (take h₁.s1.len) (append_assoc whole₁ zeros₁ (drop (length (whole₁ ++ zeros₁)) s))
              ∙ take_at whole₁ (zeros₁ ++ drop (length (whole₁ ++ zeros₁)) s) h₁.s1.len whole_length

          rest-behind : (P' : ℕ) (zs : List ℕ) → length zs ≤ f
              → runs (after_second_part (with_opened v) text₁ (splice inline inline_length rs)) P' zs
              ≡ stream.unless_refused (judge_padding (drop m₁ text₁)) P' (zeroed h₁ s)
              (last_trace (key_expansion r₁.key) h₁ (next_nonce r₁.nonce) (suc (opened_of r₁)) P' zs whole₁ (replace_front (whole₁ ++ zeros₁) s) (frames f (key_expansion r₁.key)))
          unfolding after_second_part opened_more
          rest-behind P' zs k =
              let s' = splice inline inline_length rs in
              let s'' = replace_front (whole₁ ++ zeros₁) s in
              let pad = judge_padding (drop m₁ text₁) in
              ap₂ (λ (z t : List ℕ). runs (unless_refused pad z (begin_last (with_opened v) t)) P' zs) rest-zeroed rest-store
              ∙ run-unless pad (zeroed h₁ s) (begin_last (with_opened v) s'') P' zs
              ∙ ap (stream.unless_refused pad P' (zeroed h₁ s))
              (last-run (with_opened v) P' zs whole₁ s'' (rw rest-kept fits) rest-stands k
              ∙ ap (λ (n : ℕ). last_trace (key_expansion r₁.key) h₁ (next_nonce r₁.nonce) n P' zs whole₁ s'' (frames f (key_expansion r₁.key))) (opened-next r₁ rs j))

        rest-whole : traced (at stage.Second v) inline P ys
            ≡ part_trace (key_expansion r₁.key) r₁.nonce (opened_of r₁) rs (P + second_part h₁) (zeroed h₁ s) behind₁
        rest-whole =
            let some : 0 < second_part h₁ = omega arith in
            let len : length (drop (second_part h₁) ys) ≤ f = omega (arith, length-drop (second_part h₁) ys) in
            full parts (at stage.Second v) inline P (second_part h₁) ys some (zero-add (second_part h₁) ∙ sym (rest-size h₁ e)) l
            ∙ ap (λ (t : List ℕ). runs (finish stage.Second blank v t) (P + second_part h₁) (drop (second_part h₁) ys)) (rest-placed rs (let n = rest-n in omega (arith, n)))
            ∙ ap (λ (y : Stepped). runs y (P + second_part h₁) (drop (second_part h₁) ys)) rest-finish
            ∙ part-run r₁ rs _ (P + second_part h₁) (drop (second_part h₁) ys) (zeroed h₁ s) behind₁ (λ j. rest-behind j (P + second_part h₁) (drop (second_part h₁) ys) len)

    -- segment 1 is as long as the inline buffer has it
    abbrev InlineSize : Type 0
    InlineSize = length first ≡ cond (no_second_part h₁) h₁.s1.len inline_length

    rest-run : InlineSize → runs (begin_second_part v inline) P ys ≡ second_trace (key_expansion r₁.key) h₁ r₁.nonce (opened_of r₁) P ys first s (frames f (key_expansion r₁.key))
    rest-run k =
        by_test (no_second_part h₁)
        (λ e.
        let n : length first ≡ h₁.s1.len = rw e at k in
        let l : length first ≤ length s = omega (arith, segments-fit h₁) in
        rw e (last-run v P ys first inline (rw (length-replace_front first s l) fits) (take_at first (drop (length first) s) h₁.s1.len n) left))
        (λ e.
        let n : length first ≡ inline_length = rw e at k in
        by_less (length ys) (second_part h₁) (λ l. rw (e, lt-ltb (length ys) (second_part h₁) l) (rest-cut e n l)) (λ l. rw (e, le-ltb (length ys) (second_part h₁) l) (rest-whole e n l)))

  -- ---- the first part

  abbrev behind₀ : Receiving → ℕ → List ℕ → List ℕ → List ℕ → Trace
  behind₀ r P ys s text =
      stream.unless_refused (judge_first text (length s)) P s
      (second_trace (key_expansion r.key) (header_of text) (next_nonce r.nonce) (suc (opened_of r)) P ys (take (header_of text).s1.len (drop 32 text)) s (frames f (key_expansion r.key)))

  first-behind : (v : Known) (P : ℕ) (ys s bytes : List ℕ) → length ys ≤ f → length bytes ≡ first_length → judge_part v.receiving bytes ≡ fine
      → runs (after_first_part (with_opened v) (part_text v.receiving bytes) s) P ys ≡ behind₀ v.receiving P ys s (part_text v.receiving bytes)
  unfolding after_first_part opened_more
  first-behind v P ys s bytes left n j =
      let r = v.receiving in
      let text = part_text r bytes in
      let h = header_of text in
      let first = take h.s1.len (drop 32 text) in
      run-unless (judge_first text (length s)) s (begin_second_part (with_header (with_opened v) h) (replace_front first s)) P ys
      ∙ part-next (judge_first text (length s)) P s _ _
      (λ q. rest-run (with_header (with_opened v) h) P ys first s (first_fits text (length s) q) left
      (inline-size text h (part-text-length r bytes j ∙ rw n))
      ∙ ap (λ (m : ℕ). second_trace (key_expansion r.key) h (next_nonce r.nonce) m P ys first s (frames f (key_expansion r.key))) (opened-next r bytes j))

  module _ (v : Known) (P : ℕ) (ys s : List ℕ) (left : length ys ≤ suc f) where
    abbrev begun : Known
    begun = with_header v no_header

    abbrev r₀ : Receiving
    r₀ = v.receiving

    abbrev fs : List ℕ
    fs = take first_length ys

    first-whole : first_length ≤ length ys
        → traced (next_frame v) s P ys ≡ part_trace (key_expansion r₀.key) r₀.nonce (opened_of r₀) fs (P + first_length) s (behind₀ r₀ (P + first_length) (drop first_length ys) s)
    unfolding finish
    first-whole l =
        let n : length fs ≡ first_length = length-take-le first_length ys l in
        let some : 0 < first_length = lit< tt in
        let len : length (drop first_length ys) ≤ f = omega (arith, length-drop first_length ys) in
        full parts (next_frame v) s P first_length ys some refl l
        ∙ ap (λ (b : List ℕ). runs (unless_refused (judge_part r₀ b) s (after_first_part (with_opened begun) (part_text r₀ b) s)) (P + first_length) (drop first_length ys)) (sets-whole blank fs n)
        ∙ part-run r₀ fs _ (P + first_length) (drop first_length ys) s (behind₀ r₀ (P + first_length) (drop first_length ys) s)
        (λ j. first-behind begun (P + first_length) (drop first_length ys) s fs len n j)

-- THE FRAMES from a state on are those of the definition
pub frames-trace : (f : ℕ) → Below f
unfolding Below frames
frames-trace zero v P [] s l = ap trace_by (scan-none (byte_step parts) (next_frame v) s P)
frames-trace zero v P (y ∷ ys) s l = absurd (omega arith)
frames-trace (suc f) v P ys s l =
    by_less (length ys) first_length (λ h. rw (lt-ltb (length ys) first_length h) (short parts (next_frame v) s P ys (omega arith)))
    (λ h. rw (le-ltb (length ys) first_length h) (first-whole f (frames-trace f) v P ys s l h))

-- from a switch on: THE DEFINITION
pub sealed-trace : (key nonce : List ℕ) (P : ℕ) (ys s : List ℕ) → traced (switched key nonce) s P ys ≡ sealed_trace key nonce 0 P ys s
unfolding Below switched fresh_receiving sealed_trace
sealed-trace key nonce P ys s = frames-trace (length ys) (knowing (fresh_receiving key nonce) no_header) P ys s (le_refl (length ys))
