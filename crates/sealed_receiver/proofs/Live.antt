-- What the step keeps: a receiver that is not refused has its fields in order, and a refusal leaves it refused.
use Rattle.std.proofs.Common.{◌≡◌, ℕ, ◌+◌, ◌-◌, ◌<◌, ◌≤◌, Bool, true, false, cond, not, ◌&&◌, ◌||◌, eqb, ltb, leb, List, [], ◌∷◌, ◌++◌, length, take, drop, replicate, sym, refl, ap, ◌∙◌, zero-le, arith, lit<, length-append, length-take, ltb-true, lt-ltb, le-leb, leb-true}
use mathlib.Core.Bool.{not-or_self}
use lib.ListN.{length-replicate}
use lib.Seq.{length-sets}
use Rattle.buffer.specs.Splice.{replace_front, splice}
use Rattle.buffer.proofs.Parts.{length-replace_front, length-splice}
use Rattle.refusal.specs.declared.Numbers.{Numbers}
use Rattle.refusal.specs.declared.Refusal.TheVariants as refusal
use Rattle.refusal.specs.Refusals.{Judged, fine, refused, row, is_fine, is_no_refusal}
use Rattle.refusal.proofs.Booleans.{at_test, wrong, each_true}
use Rattle.refusal.proofs.Judgements.{by_judgement_lem, both-fine, passed}
use Rattle.preamble.specs.declared.Header.{Header}
use Rattle.preamble.proofs.Allowed.{allowed-preamble}
use Rattle.preamble.specs.Judge.{header_of, judge_header}
use Rattle.body.specs.declared.Late.{Late}
use Rattle.body.specs.declared.Late.TheVariants as late
use Rattle.banner.specs.declared.Revision.TheVariants.{Msgr21}
use Rattle.body.specs.End.{Ended, whole, dropped, refused_for, late_of}
use Rattle.receiver.specs.Report.{Report}
use Rattle.preamble.specs.Layout.{no_header}
use Rattle.buffer.proofs.Sets.{drop-sets}
use Rattle.buffer.proofs.Zeros.{zeros-later}
use Rattle.refusal.proofs.Allowed.{Allowed, allowed-fine, allowed-refused, allowed_cond, allowed_or}
use Rattle.body.proofs.Allowed.{AllowedEnd, end_whole, end-dropped, end-turned, end_by_lem}
use Rattle.receiver.proofs.Machine as machine
use Rattle.gcm.specs.Gcm.{Opened, plain, fail, opened}
use Rattle.secure.specs.Layout.{all_nonces, padding, no_second_part, no_last_part, last_lengths, second_part}
use Rattle.secure.specs.Layout as layout
use Rattle.buffer.specs.Zeros.{all_zero}
use Rattle.secure.specs.Reading.{judge_nonce, judge_padding, judge_first, unpadded, padding_of, late_byte_in, by_late_status, last_ended, zeroed, holding}
use Rattle.secure.proofs.Counts.{came_round}
use Rattle.sealed_receiver.specs.declared.Stage.{Stage}
use Rattle.sealed_receiver.specs.declared.Stage.TheVariants as stage
use Rattle.sealed_receiver.specs.declared.Receiving.{Receiving}
use Rattle.sealed_receiver.specs.declared.Known.{Known}
use Rattle.sealed_receiver.specs.declared.State.{State}
use Rattle.sealed_receiver.specs.State.{is_first, is_refused, in_frame, size_of, needed, opened_of, fresh_receiving, opened_more, no_receiving, receiving_rule, opened_rule, header_rule, given, refusal_rule, rules, count_rule, block_rule, agrees_at, agrees}
use Rattle.sealed_receiver.specs.Step.{blank, at, knowing, with_opened, with_header, next_frame, switched, refused_state, Stepped, silent, unless_refused, judge_opened, judge_part, part_text, end_frame, begin_last, begin_second_part, after_first_part, after_second_part, after_last_part, sealed_in, finish, block_with, store_with, absorbed, stored, reached, size, chunk, on_byte, Running}
use Rattle.secure.proofs.Bounds.{there, segments-fit, rest-beyond, pads-fit}
use Rattle.sealed_receiver.proofs.Openings.{opened-next}
use Rattle.secure.proofs.Parts.{first_fits, first-header}

-- ---- refusals that a receiver of sealed frames gives

given-padding : (bytes : List ℕ) → Allowed given (judge_padding bytes)
given-padding bytes = allowed_cond given (all_zero bytes) (row 19 0 0 0) refl

given-opened : (o : Opened) → Allowed given (judge_opened o)
given-opened (plain text) = allowed-fine given
given-opened fail = allowed-refused given (row 17 0 0 0) refl

given-part : (r : Receiving) (bytes : List ℕ) → Allowed given (judge_part r bytes)
unfolding judge_part
given-part r bytes =
    let k18 : Allowed given (judge_nonce (opened_of r)) = allowed_cond given (ltb (opened_of r) all_nonces) (row 18 0 0 0) refl in
    allowed_or given k18 (given-opened (opened r.key r.nonce bytes))

given-first : (text : List ℕ) (n : ℕ) → Allowed given (judge_first text n)
unfolding judge_first
given-first text n =
    let h = header_of text in
    let pads : List ℕ = drop (32 + h.s1.len) text in
    allowed-preamble given refl (λ _. refl) (λ _. refl) (λ _. refl) (λ _. refl) (λ _. refl) text (layout.needed h) n
    (judge_padding pads ∷ []) (allowed_or given (given-padding pads) (allowed-fine given))

given-late : (x : Late) (b : ℕ) (j : Judged) → Allowed given j → AllowedEnd given (by_late_status x b j)
given-late late.Wrong b j k = end-turned given (row 12 b 0 0) refl
given-late late.Aborted b j k = by_judgement_lem j (λ e. rw e (end-dropped given)) (λ n e. rw e (end-turned given n (k.gives n e)))
given-late late.Complete b j k = end_by_lem given j k

given-last : (h : Header) (text : List ℕ) → AllowedEnd given (last_ended h text)
unfolding last_ended
given-last h text =
    let b = late_byte_in (last_lengths h) text in
    given-late (late_of Msgr21 b) b (judge_padding (padding_of (last_lengths h) text)) (given-padding (padding_of (last_lengths h) text))

-- ---- what an accepted part tells

-- the rules of what opens the next part and of refusals, while nothing is refused
record Opens (v : Known) : Type 0 where
  receiving : (not v.receiving.exhausted || eqb v.receiving.opened 0) ≡ true
  refusal : is_no_refusal v.refusal ≡ true

-- a part is opened where a nonce is left, and so the count comes round to 0 exactly where all are used
opened-opens : (v : Known) (bytes : List ℕ) → judge_part v.receiving bytes ≡ fine → Opens (with_opened v)
unfolding judge_part opened_more
opened-opens v bytes e =
    let r = v.receiving in
    let f : judge_nonce (opened_of r) ≡ fine = (both-fine (judge_nonce (opened_of r)) (judge_opened (opened r.key r.nonce bytes)) e).0 in
    let l : opened_of r < all_nonces = ltb-true (opened_of r) all_nonces (passed (ltb (opened_of r) all_nonces) refusal.NoncesSpent f) in
    record {
      receiving =
          ap (λ (b : Bool). not (leb all_nonces (r.opened + 1)) || b) (came_round r.opened 1 (omega arith) (left r.exhausted l))
          ∙ not-or_self (leb all_nonces (r.opened + 1));
      refusal = refl;
    }
  where
    left : (b : Bool) → cond b all_nonces v.receiving.opened < all_nonces → v.receiving.opened + 1 ≤ all_nonces
    left true l = absurd (omega arith)
    left false l = omega arith

-- ---- the rules, one by one

pub record Rules (k : Stage) (v : Known) : Type 0 where
  pub receiving : receiving_rule k v.receiving ≡ true
  pub opened : opened_rule k v.header v.receiving ≡ true
  pub header : header_rule k v.header ≡ true
  pub refusal : refusal_rule k v.refusal ≡ true

rules_of : (k : Stage) (v : Known) → rules k v ≡ true → Rules k v
rules_of k v e =
    let a = each_true (receiving_rule k v.receiving && opened_rule k v.header v.receiving) (header_rule k v.header && refusal_rule k v.refusal) e in
    let b = each_true (receiving_rule k v.receiving) (opened_rule k v.header v.receiving) a.0 in
    let c = each_true (header_rule k v.header) (refusal_rule k v.refusal) a.1 in
    record { receiving = b.0; opened = b.1; header = c.0; refusal = c.1 }

pub agreed : (st : State) → agrees st ≡ true
    → (let p = st.position in Rules p.stage st.known × (count_rule p.stage st.known.header p.got ≡ true) × (block_rule p.stage p.got p.block ≡ true))
unfolding agrees_at
agreed st e =
    let p = st.position in
    let k = p.stage in
    let v = st.known in
    let a = each_true (rules k v && count_rule k v.header p.got) (block_rule k p.got p.block) e in
    let b = each_true (rules k v) (count_rule k v.header p.got) a.0 in
    (rules_of k v b.0, b.1, a.1)

-- ---- what holds of a live state, whatever the store

pub record Live (k : Stage) (got : ℕ) (block : List ℕ) (v : Known) : Type 0 where
  pub rule : Rules k v
  pub inside : got < size_of k v.header
  pub zeros : block_rule k got block ≡ true

agree-live : (k : Stage) (got : ℕ) (b : List ℕ) (v : Known) → is_refused k ≡ false → Live k got b v → agrees_at k got b v ≡ true
unfolding agrees_at
agree-live k got b v o l = rw (l.rule.receiving, l.rule.opened, l.rule.header, l.rule.refusal, o, lt-ltb got (size_of k v.header) l.inside, l.zeros)

pub live : {st : State} {s : List ℕ} → Running st s → Live st.position.stage st.position.got st.position.block st.known
live {st} r =
    let a = agreed st r.agree in
    record { rule = a.0; inside = ltb-true st.position.got (size st) (rw r.live at a.1); zeros = a.2 }

pub inside_of : {st : State} {s : List ℕ} → Running st s → st.position.got < size st
inside_of r = (live r).inside

pub header_of_lem : {st : State} {s : List ℕ} → Running st s → in_frame st.position.stage ≡ true → is_fine (judge_header st.known.header) ≡ true
header_of_lem r e = rw e at (live r).rule.header

-- ---- states

pub record RefusedFor (n : Numbers) (st : State) : Type 0 where
  pub stage : st.position.stage ≡ stage.Refused
  pub why : st.known.refusal ≡ n
  pub agree : agrees st ≡ true
  pub gives : given n ≡ true

pub refused-at : (n : Numbers) → given n ≡ true → RefusedFor n (refused_state n)
unfolding agrees_at no_receiving
refused-at n g = record { stage = refl; why = refl; agree = rw g; gives = g }

blank-zeros : (k : Stage) → block_rule k 0 blank ≡ true
blank-zeros stage.First = refl
blank-zeros stage.Second = refl
blank-zeros stage.Last = refl
blank-zeros stage.Refused = refl

running-at : (k : Stage) (v : Known) (s : List ℕ) → is_refused k ≡ false → Rules k v → 0 < size_of k v.header → needed k v.header ≤ length s
    → Running (at k v) s
running-at k v s o r i f = record { agree = agree-live k 0 blank v o (record { rule = r; inside = i; zeros = blank-zeros k }); live = o; fits = f }

-- between two frames
between : (v : Known) (s : List ℕ) → Opens v → Running (next_frame v) s
between v s o =
    running-at stage.First (with_header v no_header) s refl
    (record { receiving = o.receiving; opened = le-leb 0 (opened_of v.receiving) zero-le; header = refl; refusal = o.refusal }) (lit< tt) zero-le

pub switched-running : (key nonce s : List ℕ) → Running (switched key nonce) s
unfolding switched fresh_receiving
switched-running key nonce s = between (knowing (fresh_receiving key nonce) no_header) s (record { receiving = refl; refusal = refl })

-- ---- what a step leaves

abbrev pub After : Report → State → List ℕ → Type 0
After = machine.After Running RefusedFor

-- by its report a receiver that runs, or one that is refused
abbrev pub Leaves : Stepped → Type 0
Leaves x = After x.report x.state x.store

judged-leaves : (j : Judged) (s : List ℕ) (x : Stepped) → Allowed given j → (j ≡ fine → Leaves x) → Leaves (unless_refused j s x)
judged-leaves fine s x k f = f refl
judged-leaves (refused n) s x k f = refused-at n (k.gives n refl)

pub taken_most : (n : ℕ) (l : List ℕ) → length (take n l) ≤ n
taken_most n l = omega (arith, length-take n l)

-- ---- the end of a frame, and its later parts

frame-leaves : (x : Ended) (v : Known) (p s : List ℕ) → Opens v → AllowedEnd given x → Leaves (end_frame x v p s)
frame-leaves whole v p s o k = between v (holding v.header p s) o
frame-leaves dropped v p s o k = between v (zeroed v.header s) o
frame-leaves (refused_for n) v p s o k = refused-at n (k.gives n refl)

module _ (v : Known) (s : List ℕ) (o : Opens v) (e : is_fine (judge_header v.header) ≡ true) (f : layout.needed v.header ≤ length s) where
  abbrev r : Receiving
  r = v.receiving

  abbrev h : Header
  h = v.header

  last-leaves : 1 + cond (no_second_part h) 0 1 ≤ opened_of r → Leaves (begin_last v s)
  last-leaves l =
      at_test (λ b. Leaves (cond b (end_frame whole v (take h.s1.len s) s) (silent (at stage.Last v) s))) (no_last_part h)
      (λ z. frame-leaves whole v (take h.s1.len s) s o (end_whole given))
      (λ z.
      running-at stage.Last v s refl (record { receiving = o.receiving; opened = le-leb (1 + cond (no_second_part h) 0 1) (opened_of r) l; header = e; refusal = o.refusal }) (rw z (omega arith)) f)

  rest-leaves : 1 ≤ opened_of r → Leaves (begin_second_part v s)
  rest-leaves l =
      at_test (λ b. Leaves (cond b (begin_last v s) (silent (at stage.Second v) s))) (no_second_part h) (λ z. last-leaves (rw z l))
      (λ z. running-at stage.Second v s refl (record { receiving = o.receiving; opened = le-leb 1 (opened_of r) l; header = e; refusal = o.refusal }) (rw z (omega arith)) f)

-- ---- behind an opened part

first-leaves : (v : Known) (text s : List ℕ) → Opens v → 1 ≤ opened_of v.receiving → Leaves (after_first_part v text s)
unfolding after_first_part
first-leaves v text s o one =
    judged-leaves (judge_first text (length s)) s _ (given-first text (length s))
    (λ e.
    let h = header_of text in
    let f = first_fits text (length s) e in
    let xs = take h.s1.len (drop 32 text) in
    let l : length (replace_front xs s) ≡ length s = length-replace_front xs s (omega (arith, taken_most h.s1.len (drop 32 text), segments-fit h)) in
    rest-leaves (with_header v h) (replace_front xs s) (record { receiving = o.receiving; refusal = o.refusal }) (ap is_fine (first-header text (length s) e)) (rw l f) one)

later-leaves : (v : Known) (text s : List ℕ) → Opens v → 2 ≤ opened_of v.receiving → is_fine (judge_header v.header) ≡ true
    → layout.needed v.header ≤ length s → no_second_part v.header ≡ false → Leaves (after_second_part v text s)
unfolding after_second_part
later-leaves v text s o two e f some =
    let h = v.header in
    let n = h.s1.len - 48 in
    judged-leaves (judge_padding (drop n text)) (zeroed h s) _ (given-padding (drop n text))
    (λ _.
    let zs : List ℕ = replicate (padding n + 16) 0 in
    let k : length (take n text ++ zs) ≡ length (take n text) + (padding n + 16) =
    length-append (take n text) zs ∙ ap (λ (i : ℕ). length (take n text) + i) (length-replicate (padding n + 16) 0)
    in
    let l : length (splice s 48 (take n text ++ zs)) ≡ length s =
    length-splice s 48 (take n text ++ zs) (omega (arith, k, taken_most n text, rest-beyond h some, pads-fit h some (padding n) refl))
    in
    let both : 1 + cond (no_second_part h) 0 1 ≤ opened_of v.receiving = rw some two in
    last-leaves v (splice s 48 (take n text ++ zs)) o e (rw l f) both)

ended-leaves : (v : Known) (text s : List ℕ) → Opens v → Leaves (after_last_part v text s)
unfolding after_last_part
ended-leaves v text s o =
    let h = v.header in
    frame-leaves (last_ended h text) v (take h.s1.len s ++ unpadded (last_lengths h) text) s o (given-last h text)

finish-leaves : (k : Stage) (b : List ℕ) (v : Known) (s : List ℕ) → Rules k v → is_refused k ≡ false → 0 < size_of k v.header
    → needed k v.header ≤ length s → Leaves (finish k b v s)
unfolding finish
finish-leaves stage.First b v s r o i f =
    judged-leaves (judge_part v.receiving b) s _ (given-part v.receiving b)
    (λ e. first-leaves (with_opened v) (part_text v.receiving b) s (opened-opens v b e) (omega (arith, opened-next v.receiving b e)))
finish-leaves stage.Second b v s r o i f =
    let h = v.header in
    let bytes = sealed_in stage.Second h s in
    judged-leaves (judge_part v.receiving bytes) (zeroed h s) _ (given-part v.receiving bytes)
    (λ e.
    let two : 2 ≤ opened_of (opened_more v.receiving) = omega (arith, opened-next v.receiving bytes e, leb-true 1 (opened_of v.receiving) r.opened) in
    later-leaves (with_opened v) (part_text v.receiving bytes) s (opened-opens v bytes e) two r.header f
    (there (no_second_part h) (second_part h) i))
finish-leaves stage.Last b v s r o i f =
    let h = v.header in
    let bytes = sealed_in stage.Last h s in
    judged-leaves (judge_part v.receiving bytes) (zeroed h s) _ (given-part v.receiving bytes)
    (λ e. ended-leaves (with_opened v) (part_text v.receiving bytes) s (opened-opens v bytes e))
finish-leaves stage.Refused b v s r o i f = wrong (sym o)

-- ---- bytes of a part leave the rest as it was

block-kept : (first : Bool) (got : ℕ) (b xs : List ℕ) → all_zero (drop (cond first got 0) b) ≡ true
    → all_zero (drop (cond first (got + length xs) 0) (block_with first got b xs)) ≡ true
block-kept true got b xs e = ap all_zero (drop-sets b got xs) ∙ zeros-later b got (length xs) e
block-kept false got b xs e = e

length-with : (later : Bool) (place : ℕ) (s xs : List ℕ) → length (store_with later place s xs) ≡ length s
length-with true place s xs = length-sets s place xs
length-with false place s xs = refl

pub length-stored : (st : State) (s xs : List ℕ) → length (stored st s xs) ≡ length s
length-stored st s xs = length-with (in_frame st.position.stage) _ s xs

pub chunk-leaves : (st : State) (s xs : List ℕ) → Running st s → Leaves (chunk st s xs)
chunk-leaves st s xs r =
    let p = st.position in
    let l = live r in
    let n : length (stored st s xs) ≡ length s = length-stored st s xs in
    at_test (λ t. Leaves (reached (absorbed st xs) (stored st s xs) t)) (ltb (p.got + length xs) (size st))
    (λ e. record {
      agree = agree-live p.stage (p.got + length xs) _ st.known r.live (record {
        rule = l.rule;
        inside = ltb-true (p.got + length xs) (size st) e;
        zeros = block-kept (is_first p.stage) p.got p.block xs l.zeros;
      });
      live = r.live;
      fits = rw n r.fits;
    })
    (λ e.
    finish-leaves p.stage (block_with (is_first p.stage) p.got p.block xs) st.known (stored st s xs) l.rule r.live (omega (arith, l.inside)) (rw n r.fits))

pub byte_leaves : (st : State) (s : List ℕ) (b : ℕ) → Running st s → Leaves (on_byte st s b)
unfolding on_byte
byte_leaves st s b r = chunk-leaves st s (b ∷ []) r
