-- The claim: reads of a file, one behind the other, write its text.
use mathlib.Core.Path.{◌≡◌, refl, sym, ap, subst, ◌∙◌}
use mathlib.Core.Bool.{Bool, true, false, cond, ◌||◌}
use mathlib.Core.List.{List, [], ◌∷◌, ◌++◌, append_assoc, append-nil}
use Prim.Native.Nat.{ℕ, zero, suc, ◌+◌, ◌-◌, ◌*◌, ◌≤◌, ◌<◌, min}
use native.Mathlib.Nat.{le_refl}
use native.Mathlib.Omega.{arith}
use lib.Dec.{leb, ltb, eqb}
use lib.ListN.{length, take, drop, length-take, length-drop}
use lib.Seq.{take-take, take_all, drop-drop}
use borrow.Author.Tests.{lt-ltb, le-ltb, le-leb, ltb-true, ltb-false, leb-true, leb-false, eqb-true, eqb-false}
use Rattle.buffer.specs.Le.{number_at, Bytes}
use Rattle.buffer.proofs.Numbers.{number-take, number-few, bytes_take, bytes_drop}
use Rattle.buffer.proofs.CopyLoop.{take_min}
use Rattle.buffer.proofs.Parts.{drop-take}
use Rattle.refusal.specs.Refusals.{Judged, fine}
use Rattle.refusal.proofs.Booleans.{by_test, either_left, either-right}
use Rattle.banner.specs.Bits.{missing}
use Rattle.banner.specs.Banner.{judge_own}
use Rattle.stream.specs.Stream.{Entry, stream_trace, trace_of, refused_in}
use Rattle.stream.specs.Adds.{AddsUp}
use Rattle.receiver.specs.declared.State.{State}
use Rattle.receiver.specs.Step.{started}
use Rattle.receiver.specs.Calls.{Call, Chained, taken_by, state_by, store_by, reported_by, list_of, AsDefined, Demand3}
use Rattle.receiver.proofs.Appended.{refused-append, taken-append, state-append, store-append, chained_append, reported-append}
use Rattle.std.specs.Prelude.{is_some, Ok}
use Rattle.text.specs.Line.{Piece, text_of}
use Rattle.text.specs.Page.{Page, page, puts}
use Rattle.text.specs.Law.{EveryLine}
use Rattle.text.proofs.Laws.{puts-append, text-append, page_text}
use Rattle.link.specs.declared.Walk.{Walk}
use Rattle.link.specs.declared.Part.{Part}
use Rattle.link.specs.declared.Part.TheVariants.{Count, Table, Bodies, Ended}
use Rattle.link.specs.declared.Link.{Link}
use Rattle.link.specs.Lines.{lines_of, End, ok, bad_file, open_end, end_line, end_of}
use Rattle.link.specs.File.{count_of, sum_of, table_of, length_of, behind_table, no_table, bodies_of, is_bad, ours, link_text}
use Rattle.link.specs.Walks.{last_of, frames_of, end_at}
use Rattle.link.specs.Reads.{Outcome, Ends, link_at, new_walk, begun, wanted_by, wanted_of, count_outcome, table_outcome, bodies_outcome, link_after, last_pieces, Settled, ready, BodiesRead, TableRead, WalkRead, ReadBy, ReadOn}
use Rattle.link.specs.Links.{Read, Reading, link_by, written_by, asked_by, Checked, EveryLink}
use Rattle.link.proofs.Counts.{last-append, frames-append, lines-append, end-append}
use Rattle.link.proofs.Ends.{at-refused, at-bad, at_open}
use Rattle.link.proofs.Widths.{roomy, roomy-last}

own-fine : judge_own 1 0 ≡ fine
unfolding missing
own-fine = refl

no-entries : (store : List ℕ) → (trace_of ours [] store).entries ≡ []
unfolding trace_of stream_trace missing
no-entries store = refl

-- the end, where nothing is refused
end_open : (bad : Bool) (n p : ℕ) (es : List Entry) → refused_in es ≡ false → end_of bad n p es ≡ open_end bad n (last_of p es)
unfolding end_of
end_open bad n p es h = ap (end_of bad n p) (sym (append-nil es)) ∙ end-append bad n p es [] h

-- a list, as far as it goes, taken again
take_again : (m : ℕ) (l : List ℕ) → take (length (take m l)) l ≡ take m l
take_again m l = take_min l m (length (take m l)) (length-take m l)

-- lengths of 32 bits
sum-few : (n : ℕ) (l : List ℕ) → Bytes l → sum_of n l ≤ n * 4294967295
unfolding sum_of
sum-few zero l h = omega arith
sum-few (suc n) l h = omega (arith, number-few l h, sum-few n (drop 4 l) (bytes_drop 4 h))

chained_same : (stream : List ℕ) (ds : List Call) {st st' : State} {s s' : List ℕ} {t t' : ℕ} → st ≡ st' → s ≡ s' → t ≡ t' → Chained stream st s t ds → Chained stream st' s' t' ds
chained_same stream ds a b c x = rw (← a, ← b, ← c) x

-- what a settled read hands back
settled-link : (P : Link → Type 0) (o' : Outcome) {o : Outcome} {w : Walk} {lent text : Page} {r : Link} → Settled o w lent r text → o ≡ o' → P (link_after o' w) → P r
settled-link P o' {o} {w} {lent} {text} {r} x e p = subst P (sym (x.link ∙ ap (λ (k : Outcome). link_after k w) e)) p

-- and one with which reading ends
ends-link : (bad : Bool) (w : Walk) → link_after (Ends bad) w ≡ link_at Ended w
ends-link true w = refl
ends-link false w = refl

ends-pieces : (bad : Bool) (w : Walk) → last_pieces (Ends bad) w ≡ end_line (end_at bad w)
ends-pieces true w = refl
ends-pieces false w = refl

settled-end : (P : Link → Type 0) (bad : Bool) {o : Outcome} {w : Walk} {lent text : Page} {r : Link} → Settled o w lent r text → o ≡ Ends bad → P (link_at Ended w) → P r
settled-end P bad {o} {w} {lent} {text} {r} x e p = settled-link P (Ends bad) x e (subst P (sym (ends-link bad w)) p)

module _ (law : EveryLine) (demand3 : Demand3) (file store : List ℕ) (bytes : Bytes file) where
  abbrev stream : List ℕ
  stream = take (length_of file) (behind_table file)

  abbrev End' : ℕ
  End' = 2 + (4 * count_of file + length_of file)

  -- ---- the text, by the bodies

  text_by : (body : List ℕ) (bad : Bool) (es : List Entry) → bodies_of file ≡ body → is_bad file ≡ bad → (trace_of ours body store).entries ≡ es → text_of (lines_of 0 es ++ end_line (end_of bad (length body) 0 es)) ≡ link_text file store
  unfolding link_text
  text_by body bad es e f g = rw (← g, ← e, ← f)

  bodies_by : (b : Bool) → no_table file ≡ b → bodies_of file ≡ cond b [] stream
  bodies_by b e = ap (λ (k : Bool). cond k [] stream) e

  bad_by : (b : Bool) → no_table file ≡ b → is_bad file ≡ (b || ltb (length (behind_table file)) (length_of file))
  bad_by b e = ap (λ (k : Bool). k || ltb (length (behind_table file)) (length_of file)) e

  bad-text : no_table file ≡ true → text_of (end_line bad_file) ≡ link_text file store
  unfolding lines_of end_of
  bad-text e = text_by [] true [] (bodies_by true e) (bad_by true e) (no-entries store)

  ok-text : no_table file ≡ false → length_of file ≡ 0 → text_of (end_line (ok 0)) ≡ link_text file store
  unfolding lines_of end_of
  ok-text e z = text_by [] false [] (bodies_by false e ∙ ap (λ (n : ℕ). take n (behind_table file)) z) (bad_by false e ∙ ap (λ (n : ℕ). ltb (length (behind_table file)) n) z ∙ le-ltb (length (behind_table file)) 0 (omega arith)) (no-entries store)

  -- the table is there
  table-there : 2 ≤ length file → count_of file ≤ 512 → 4 * count_of file ≤ length (drop 2 file) → no_table file ≡ false
  table-there a b c = rw (le-ltb (length file) 2 a, le-ltb 512 (count_of file) b, le-ltb (length (drop 2 file)) (4 * count_of file) c)

  -- or not
  no-count : length file < 2 → no_table file ≡ true
  no-count h = rw (lt-ltb (length file) 2 h)

  many_lengths : 512 < count_of file → no_table file ≡ true
  many_lengths h =
      either-right (ltb (length file) 2) (ltb 512 (count_of file) || ltb (length (drop 2 file)) (4 * count_of file))
      (either_left (ltb 512 (count_of file)) (ltb (length (drop 2 file)) (4 * count_of file)) (lt-ltb 512 (count_of file) h))

  few-lengths : length (drop 2 file) < 4 * count_of file → no_table file ≡ true
  few-lengths h =
      either-right (ltb (length file) 2) (ltb 512 (count_of file) || ltb (length (drop 2 file)) (4 * count_of file))
      (either-right (ltb 512 (count_of file)) (ltb (length (drop 2 file)) (4 * count_of file)) (lt-ltb (length (drop 2 file)) (4 * count_of file) h))

  no_length : count_of file ≡ 0 → length_of file ≡ 0
  unfolding sum_of
  no_length e = ap (λ (n : ℕ). sum_of n (table_of file)) e

  few-length : count_of file ≤ 512 → length_of file ≤ 4611686018427387904
  few-length h = omega (arith, sum-few (count_of file) (table_of file) (bytes_take (4 * count_of file) (bytes_drop 2 bytes)))

  -- ---- where reading stands

  record Counting (t : ℕ) (w : Walk) (s written : List ℕ) : Type 0 where
    place : t ≡ 0
    new : w ≡ new_walk
    kept : s ≡ store
    nothing : written ≡ []

  record Tabling (t left : ℕ) (w : Walk) (s written : List ℕ) : Type 0 where
    place : t ≡ 2
    counted : 2 ≤ length file
    count-within : count_of file ≤ 512
    lengths : left ≡ count_of file
    some : 0 < left
    new : w ≡ new_walk
    kept : s ≡ store
    nothing : written ≡ []

  record Walking (t left : ℕ) (w : Walk) (s written : List ℕ) : Type 0 where
    table : no_table file ≡ false
    place : t ≡ 2 + (4 * count_of file + w.taken)
    rest : left + w.taken ≡ length_of file
    some : 0 < left
    calls : List Call
    chained : Chained stream (started ours) store 0 calls
    state : w.receiver ≡ state_by (started ours) calls
    kept : s ≡ store_by store calls
    taken : w.taken ≡ taken_by 0 calls
    entry-end : w.entry_end ≡ last_of 0 (reported_by 0 calls)
    frames : w.frames ≡ frames_of 0 (reported_by 0 calls)
    live : is_some w.refused ≡ false
    clean : refused_in (reported_by 0 calls) ≡ false
    frames-within : w.frames ≤ w.taken
    short : length_of file ≤ 4611686018427387904
    lines : written ≡ text_of (lines_of 0 (reported_by 0 calls))

  record Over (t : ℕ) (written : List ℕ) : Type 0 where
    place : t ≤ End'
    whole : written ≡ link_text file store

  StandsBy : Part → ℕ → Walk → List ℕ → List ℕ → Type 0
  StandsBy Count t w s written = Counting t w s written
  StandsBy (Table n) t w s written = Tabling t n w s written
  StandsBy (Bodies left) t w s written = Walking t left w s written
  StandsBy Ended t w s written = Over t written

  Stands : ℕ → List ℕ → List ℕ → Link → Type 0
  Stands t s written l = StandsBy l.part t l.walk s written

  -- ---- one read

  -- with room, the front of the text is what was put there
  front : {o : Outcome} {w : Walk} (lent : List ℕ) {text' : Page} {r : Link} → 65536 ≤ length lent → Settled o w (page lent 0) r text' → take text'.at text'.bytes ≡ text_of (last_pieces o w)
  front {o} {w} lent {text'} {r} h x = page_text law (last_pieces o w) lent text' (roomy-last o w) h x.lines

  -- nothing was written before
  alone : (written xs ys : List ℕ) → written ≡ [] → xs ≡ ys → written ++ xs ≡ ys
  alone written xs ys e f = rw (e, f)

  module _ (t : ℕ) (w : Walk) (s written lent : List ℕ) (r : Link) (s' : List ℕ) (text' : Page) (room : 65536 ≤ length lent) where
    abbrev out : List ℕ
    out = written ++ take text'.at text'.bytes

    abbrev w₀ : Walk
    w₀ = w

    -- an end without a byte walked
    ends : {o : Outcome} (t' : ℕ) (bad : Bool) → written ≡ [] → Settled o w₀ (page lent 0) r text' → o ≡ Ends bad → t' ≤ End' → text_of (end_line (end_at bad w₀)) ≡ link_text file store → Stands t' s' out r
    unfolding Stands StandsBy
    ends {o} t' bad none x e h q =
        settled-end (Stands t' s' out) bad x e (record { place = h; whole = alone written _ _ none (front lent room x ∙ ap (λ (k : Outcome). text_of (last_pieces k w₀)) e ∙ ap text_of (ends-pieces bad w₀) ∙ q) })

    new-end : (bad : Bool) → w₀ ≡ new_walk → end_at bad w₀ ≡ cond bad bad_file (ok 0)
    new-end true e = ap (end_at true) e
    new-end false e = ap (end_at false) e

    count_next : (b : List ℕ) → Counting t w s written → b ≡ take 2 (drop t file) → TableRead (count_outcome b) w₀ s (page lent 0) r s' text' → Stands (t + 2) s' out r
    unfolding Stands StandsBy text_of
    count_next b c eb x = by_tests (ltb (length b) 2) refl (ltb 512 (number_at 2 0 b)) refl (eqb (number_at 2 0 b) 0) refl
      where
        t0 : t ≡ 0
        t0 = c.place

        b2 : b ≡ take 2 file
        b2 = eb ∙ ap (λ (k : ℕ). take 2 (drop k file)) t0

        n : number_at 2 0 b ≡ count_of file
        n = ap (number_at 2 0) b2 ∙ number-take 2 0 2 file (omega arith)

        l : length b ≡ min 2 (length file)
        l = ap length b2 ∙ length-take 2 file

        by_tests : (p : Bool) → ltb (length b) 2 ≡ p → (q : Bool) → ltb 512 (number_at 2 0 b) ≡ q → (z : Bool) → eqb (number_at 2 0 b) 0 ≡ z → Stands (t + 2) s' out r
        by_tests true ep q eq z ez =
            ends (t + 2) true c.nothing x.settled (rw ep) (omega (arith, t0))
            (ap (λ (e : End). text_of (end_line e)) (new-end true c.new) ∙ bad-text (no-count (omega (arith, l, ltb-true (length b) 2 ep))))
        by_tests false ep true eq z ez =
            ends (t + 2) true c.nothing x.settled (rw (ep, eq)) (omega (arith, t0))
            (ap (λ (e : End). text_of (end_line e)) (new-end true c.new) ∙ bad-text (many_lengths (omega (arith, n, ltb-true 512 (number_at 2 0 b) eq))))
        by_tests false ep false eq true ez =
            let zero' : count_of file ≡ 0 = sym n ∙ eqb-true (number_at 2 0 b) 0 ez in
            ends (t + 2) false c.nothing x.settled (rw (ep, eq, ez)) (omega (arith, t0))
            (ap (λ (e : End). text_of (end_line e)) (new-end false c.new) ∙ ok-text (table-there (omega (arith, l, ltb-false (length b) 2 ep)) (omega arith) (omega arith)) (no_length zero'))
        by_tests false ep false eq false ez =
            let eo : count_outcome b ≡ Ok (Table (number_at 2 0 b)) = rw (ep, eq, ez) in
            settled-link (Stands (t + 2) s' out) (Ok (Table (number_at 2 0 b))) x.settled eo (record {
              place = omega (arith, t0);
              counted = omega (arith, l, ltb-false (length b) 2 ep);
              count-within = omega (arith, n, ltb-false 512 (number_at 2 0 b) eq);
              lengths = n;
              some = omega (arith, eqb-false (number_at 2 0 b) 0 ez);
              new = c.new;
              kept = x.store ∙ c.kept;
              nothing = alone written _ _ c.nothing (front lent room x.settled ∙ ap (λ (k : Outcome). text_of (last_pieces k w₀)) eo);
            })

    table-next : (left : ℕ) (b : List ℕ) → Tabling t left w s written → b ≡ take (4 * min left 512) (drop t file) → TableRead (table_outcome (min left 512) b) w₀ s (page lent 0) r s' text' → Stands (t + 4 * min left 512) s' out r
    unfolding Stands StandsBy last_of frames_of lines_of text_of
    table-next left b c eb x = by_tests (ltb (length b) (4 * m)) refl (eqb (sum_of m b) 0) refl
      where
        m : ℕ
        m = min left 512

        em : m ≡ count_of file
        em = omega (arith, c.lengths, c.count-within)

        b2 : b ≡ table_of file
        b2 = eb ∙ ap (λ (k : ℕ). take (4 * k) (drop t file)) em ∙ ap (λ (k : ℕ). take (4 * count_of file) (drop k file)) c.place

        l : length b ≡ min (4 * count_of file) (length (drop 2 file))
        l = ap length b2 ∙ length-take (4 * count_of file) (drop 2 file)

        sum : sum_of m b ≡ length_of file
        sum = ap (λ (k : ℕ). sum_of k b) em ∙ ap (sum_of (count_of file)) b2

        t0 : w.taken ≡ 0
        t0 = ap (λ (v : Walk). v.taken) c.new

        there : ltb (length b) (4 * m) ≡ false → no_table file ≡ false
        there e = table-there c.counted c.count-within (omega (arith, l, em, ltb-false (length b) (4 * m) e))

        by_tests : (p : Bool) → ltb (length b) (4 * m) ≡ p → (z : Bool) → eqb (sum_of m b) 0 ≡ z → Stands (t + 4 * m) s' out r
        by_tests true ep z ez =
            ends (t + 4 * m) true c.nothing x.settled (rw ep) (omega (arith, em, c.place))
            (ap (λ (e : End). text_of (end_line e)) (new-end true c.new) ∙ bad-text (few-lengths (omega (arith, l, em, ltb-true (length b) (4 * m) ep))))
        by_tests false ep true ez =
            ends (t + 4 * m) false c.nothing x.settled (rw (ep, ez)) (omega (arith, em, c.place))
            (ap (λ (e : End). text_of (end_line e)) (new-end false c.new) ∙ ok-text (there ep) (sym sum ∙ eqb-true (sum_of m b) 0 ez))
        by_tests false ep false ez =
            let eo : table_outcome m b ≡ Ok (Bodies (sum_of m b)) = rw (ep, ez) in
            settled-link (Stands (t + 4 * m) s' out) (Ok (Bodies (sum_of m b))) x.settled eo (record {
              table = there ep;
              place = omega (arith, em, t0, c.place);
              rest = omega (arith, sum, t0);
              some = omega (arith, eqb-false (sum_of m b) 0 ez);
              calls = [];
              chained = tt;
              state = ap (λ (v : Walk). v.receiver) c.new;
              kept = x.store ∙ c.kept;
              taken = t0;
              entry-end = ap (λ (v : Walk). v.entry_end) c.new;
              frames = ap (λ (v : Walk). v.frames) c.new;
              live = ap (λ (v : Walk). is_some v.refused) c.new;
              clean = refl;
              frames-within = omega (arith, t0, ap (λ (v : Walk). v.frames) c.new);
              short = few-length c.count-within;
              lines = alone written _ _ c.nothing (front lent room x.settled ∙ ap (λ (k : Outcome). text_of (last_pieces k w₀)) eo);
            })

    module _ (left : ℕ) (b : List ℕ) (k : Walking t left w₀ s written) (eb : b ≡ take (min left 16384) (drop t file)) (y : BodiesRead left w₀ s b (page lent 0) r s' text') where
      abbrev u : ℕ
      u = w.taken

      abbrev m : ℕ
      m = min left 16384

      abbrev Y : List ℕ
      Y = drop u stream

      abbrev cs : List Call
      cs = k.calls

      abbrev ds : List Call
      ds = y.walked.calls

      abbrev w' : Walk
      w' = y.walk

      abbrev es : List Entry
      es = reported_by 0 cs

      abbrev fs : List Entry
      fs = reported_by u ds

      abbrev o : Outcome
      o = bodies_outcome left (length b) (is_some w'.refused)

      -- the bytes are the stream's next ones
      behind-is : drop t file ≡ drop u (behind_table file)
      behind-is = sym (drop-drop u (4 * count_of file) (drop 2 file) ∙ drop-drop (4 * count_of file + u) 2 file ∙ ap (λ (n : ℕ). drop n file) (sym k.place))

      Y-is : Y ≡ take left (drop u (behind_table file))
      Y-is =
          let e : length_of file ≡ u + left = omega (arith, k.rest) in
          ap (λ (n : ℕ). drop u (take n (behind_table file))) e ∙ drop-take u left (behind_table file)

      b-is : b ≡ take m Y
      b-is = eb ∙ ap (take m) behind-is ∙ sym (take-take m left (drop u (behind_table file)) (omega arith)) ∙ ap (take m) (sym Y-is)

      again : take (length b) Y ≡ b
      again = ap (λ (l : List ℕ). take (length l) Y) b-is ∙ take_again m Y ∙ sym b-is

      b-length : length b ≡ min m (length Y)
      b-length = ap length b-is ∙ length-take m Y

      Y-length : length Y ≡ length stream - u
      Y-length = length-drop u stream

      stream-length : length stream ≡ min (length_of file) (length (behind_table file))
      stream-length = length-take (length_of file) (behind_table file)

      -- all calls so far
      chained' : Chained stream (started ours) store 0 (cs ++ ds)
      chained' = chained_append stream (started ours) store 0 cs ds k.chained (chained_same stream ds k.state k.kept k.taken (y.walked.chained stream again))

      defined : AsDefined ours stream store (cs ++ ds)
      unfolding Demand3
      defined = demand3 ours stream store (cs ++ ds) chained'

      all : reported_by 0 (cs ++ ds) ≡ es ++ fs
      all = reported-append 0 cs ds k.clean ∙ ap (λ (v : ℕ). es ++ reported_by v ds) (sym k.taken)

      listed : list_of (judge_own 1 0) (cs ++ ds) ≡ es ++ fs
      listed = ap (λ (j : Judged). list_of j (cs ++ ds)) own-fine ∙ all

      taken' : taken_by 0 (cs ++ ds) ≡ w'.taken
      taken' = taken-append 0 cs ds ∙ ap (λ (v : ℕ). taken_by v ds) (sym k.taken) ∙ sym y.walked.taken

      adds : AddsUp (es ++ fs)
      adds = subst AddsUp listed defined.adds

      -- the text so far
      pieces : text' ≡ puts (lines_of w.frames fs ++ last_pieces o w') (page lent 0)
      pieces = y.settled.lines ∙ ap (puts (last_pieces o w')) y.walked.noted.lines ∙ sym (puts-append (lines_of w.frames fs) (last_pieces o w') (page lent 0))

      fronted : take text'.at text'.bytes ≡ text_of (lines_of w.frames fs ++ last_pieces o w')
      fronted = page_text law (lines_of w.frames fs ++ last_pieces o w') lent text' (roomy es w.frames u ds o w' k.clean adds (omega (arith, y.walked.within, y.walked.taken, b-length))) room pieces

      out-is : out ≡ text_of (lines_of 0 (es ++ fs) ++ last_pieces o w')
      out-is =
          let x = lines_of 0 es in
          let z = lines_of (frames_of 0 es) fs in
          let last = last_pieces o w' in
          ap (λ (l : List ℕ). l ++ take text'.at text'.bytes) k.lines
          ∙ ap (λ (l : List ℕ). text_of x ++ l) fronted
          ∙ ap (λ (n : ℕ). text_of x ++ text_of (lines_of n fs ++ last)) k.frames
          ∙ sym (text-append x (z ++ last))
          ∙ ap text_of (sym (append_assoc x z last))
          ∙ ap (λ (l : List Piece). text_of (l ++ last)) (sym (lines-append 0 es fs k.clean))

      -- the last line
      over : (bad bad' : Bool) → o ≡ Ends bad' → is_bad file ≡ bad → (trace_of ours stream store).entries ≡ es ++ fs → end_of bad (length stream) 0 (es ++ fs) ≡ end_at bad' w' → Stands (t + m) s' out r
      unfolding Stands StandsBy
      over bad bad' eo eb' g q =
          settled-end (Stands (t + m) s' out) bad' y.settled eo (record {
            place = omega (arith, k.place, k.rest);
            whole = out-is ∙ ap (λ (v : Outcome). text_of (lines_of 0 (es ++ fs) ++ last_pieces v w')) eo ∙ ap (λ (l : List Piece). text_of (lines_of 0 (es ++ fs) ++ l)) (ends-pieces bad' w') ∙ ap (λ (e : End). text_of (lines_of 0 (es ++ fs) ++ end_line e)) (sym q) ∙ text_by stream bad (es ++ fs) (bodies_by false k.table) eb' g;
          })

      refused_over : is_some w'.refused ≡ true → Stands (t + m) s' out r
      refused_over er =
          let a : refused_in (es ++ fs) ≡ true = refused-append es fs k.clean ∙ sym y.walked.noted.refused ∙ er in
          let g = defined.whole (ap refused_in listed ∙ a) in
          over (is_bad file) false (rw er) refl (sym g.0 ∙ listed)
          (end-append (is_bad file) (length stream) 0 es fs k.clean ∙ y.walked.noted.end er (is_bad file) (length stream) (last_of 0 es) ∙ at-refused w' false er)

      module _ (er : is_some w'.refused ≡ false) where
        clean' : refused_in (es ++ fs) ≡ false
        clean' = refused-append es fs k.clean ∙ sym y.walked.noted.refused ∙ er

        entry_end' : w'.entry_end ≡ last_of 0 (es ++ fs)
        entry_end' = y.walked.noted.entry-end ∙ ap (λ (p : ℕ). last_of p fs) k.entry-end ∙ sym (last-append 0 es fs)

        whole' : w'.taken ≡ u + length b
        whole' = y.walked.whole er

        inside : w'.taken ≤ length stream
        inside = omega (arith, defined.within, taken')

        -- every byte was taken
        entries_are : w'.taken ≡ length stream → (trace_of ours stream store).entries ≡ es ++ fs
        entries_are e =
            let f : take (taken_by 0 (cs ++ ds)) stream ≡ stream = take_all (taken_by 0 (cs ++ ds)) stream (omega (arith, taken')) in
            sym (ap (λ (l : List ℕ). (trace_of ours l store).entries) f) ∙ sym defined.reports ∙ listed

        bad-is : (c : Bool) → ltb (length (behind_table file)) (length_of file) ≡ c → is_bad file ≡ c
        bad-is c e = bad_by false k.table ∙ e

        short-over : ltb (length b) m ≡ true → Stands (t + m) s' out r
        short-over e =
            let l = ltb-true (length b) m e in
            over true true (rw (er, e)) (bad-is true (lt-ltb (length (behind_table file)) (length_of file) (omega (arith, b-length, Y-length, stream-length, k.rest, whole', inside))))
            (entries_are (omega (arith, b-length, Y-length, whole', inside)))
            (end_open true (length stream) 0 (es ++ fs) clean' ∙ at-bad w' true er refl)

        all-over : ltb (length b) m ≡ false → leb left (length b) ≡ true → Stands (t + m) s' out r
        all-over e f =
            let l = leb-true left (length b) f in
            let n : w'.taken ≡ length stream = omega (arith, b-length, Y-length, stream-length, k.rest, whole', inside) in
            over false false (rw (er, e, f)) (bad-is false (le-ltb (length (behind_table file)) (length_of file) (omega (arith, b-length, Y-length, stream-length, k.rest, whole', inside))))
            (entries_are n)
            (end_open false (length stream) 0 (es ++ fs) clean' ∙ at_open w' false (length stream) (last_of 0 (es ++ fs)) er refl n entry_end')

        more : ltb (length b) m ≡ false → leb left (length b) ≡ false → Stands (t + m) s' out r
        unfolding Stands StandsBy
        more e f =
            let n : length b ≡ m = omega (arith, ltb-false (length b) m e, b-length) in
            let g = leb-false left (length b) f in
            let eo : o ≡ Ok (Bodies (left - length b)) = rw (er, e, f) in
            settled-link (Stands (t + m) s' out) (Ok (Bodies (left - length b))) y.settled eo (record {
              table = k.table;
              place = omega (arith, k.place, whole');
              rest = omega (arith, k.rest, whole');
              some = omega (arith, g);
              calls = cs ++ ds;
              chained = chained';
              state = y.walked.state ∙ ap (λ (st : State). state_by st ds) k.state ∙ sym (state-append (started ours) cs ds);
              kept = y.walked.store ∙ ap (λ (l : List ℕ). store_by l ds) k.kept ∙ sym (store-append store cs ds);
              taken = sym taken';
              entry-end = entry_end' ∙ ap (last_of 0) (sym all);
              frames = y.walked.noted.frames ∙ ap (λ (p : ℕ). frames_of p fs) k.frames ∙ sym (frames-append 0 es fs) ∙ ap (frames_of 0) (sym all);
              live = er;
              clean = ap refused_in all ∙ clean';
              frames-within = omega (arith, y.walked.frames-within, k.frames-within);
              short = k.short;
              lines = out-is ∙ ap (λ (v : Outcome). text_of (lines_of 0 (es ++ fs) ++ last_pieces v w')) eo ∙ ap text_of (append-nil (lines_of 0 (es ++ fs))) ∙ ap (λ (l : List Entry). text_of (lines_of 0 l)) (sym all);
            })

      walk-next : Stands (t + m) s' out r
      walk-next =
          by_test (is_some w'.refused) refused_over (λ er.
          by_test (ltb (length b) m) (short-over er) (λ e.
          by_test (leb left (length b)) (all-over er e) (more er e)))

    bodies_next : (left : ℕ) (b : List ℕ) → Walking t left w₀ s written → b ≡ take (min left 16384) (drop t file) → WalkRead (ready w₀) left w₀ s b (page lent 0) r s' text' → Stands (t + min left 16384) s' out r
    bodies_next left b k eb x =
        let ok : ready w₀ ≡ true = rw (k.live, le-leb w.taken 4611686018427387904 (omega (arith, k.short, k.rest)), le-leb w.frames 4611686018427387904 (omega (arith, k.short, k.rest, k.frames-within))) in
        walk-next left b k eb (subst (λ (c : Bool). WalkRead c left w₀ s b (page lent 0) r s' text') ok x)

    -- by what comes next
    part-next : (p : Part) (b : List ℕ) → StandsBy p t w s written → b ≡ take (wanted_by p) (drop t file) → ReadBy p w₀ s b (page lent 0) r s' text' → Stands (t + wanted_by p) s' out r
    unfolding Stands StandsBy page
    part-next Count b k eb x = count_next b k eb x
    part-next (Table n) b k eb x = table-next n b k eb x
    part-next (Bodies left) b k eb x = bodies_next left b k eb x
    part-next Ended b k eb x =
        let none : take text'.at text'.bytes ≡ [] = rw x.kept in
        subst (Stands (t + 0) s' out) (sym x.link) (record { place = omega (arith, k.place); whole = ap (λ (l : List ℕ). written ++ l) none ∙ append-nil written ∙ k.whole })

  -- ---- all reads

  asks : (p : Part) (t : ℕ) (w : Walk) (s written : List ℕ) → StandsBy p t w s written → t + wanted_by p ≤ End'
  unfolding StandsBy
  asks Count t w s written k = omega (arith, k.place)
  asks (Table n) t w s written k = omega (arith, k.place, k.lengths)
  asks (Bodies left) t w s written k = omega (arith, k.place, k.rest)
  asks Ended t w s written k = omega (arith, k.place)

  -- nothing is wanted: reading is over
  over-at : (p : Part) (t : ℕ) (w : Walk) (s written : List ℕ) → StandsBy p t w s written → wanted_by p ≡ 0 → written ≡ link_text file store
  unfolding StandsBy
  over-at Count t w s written k e = absurd (omega arith)
  over-at (Table n) t w s written k e = absurd (omega (arith, k.some))
  over-at (Bodies left) t w s written k e = absurd (omega (arith, k.some))
  over-at Ended t w s written k e = k.whole

  read_next : (t : ℕ) (l : Link) (s written : List ℕ) (lent : Page) (r : Link) (s' : List ℕ) (text' : Page) → Stands t s written l → 65536 ≤ length lent.bytes → ReadOn l s (take (wanted_of l) (drop t file)) lent r s' text' → Stands (t + wanted_of l) s' (written ++ take text'.at text'.bytes) r
  unfolding Stands ReadOn
  read_next t l s written lent r s' text' k room x =
      part-next t l.walk s written lent.bytes r s' text' room l.part (take (wanted_of l) (take (wanted_of l) (drop t file))) k (take-take (wanted_of l) (wanted_of l) (drop t file) (le_refl (wanted_of l))) x

  reads : (rs : List Read) (t : ℕ) (l : Link) (s written : List ℕ) → Stands t s written l → Reading file l s t rs
      → (wanted_of (link_by l rs) ≡ 0 → written ++ written_by rs ≡ link_text file store) × (t + asked_by l rs ≤ End')
  unfolding Stands
  reads [] t l s written k x = (λ e. append-nil written ∙ over-at l.part t l.walk s written k e, omega (arith, asks l.part t l.walk s written k))
  reads (r ∷ rs) t l s written k x =
      let n = wanted_of l in
      let ih = reads rs (t + n) r.link r.store (written ++ take r.text.at r.text.bytes) (read_next t l s written r.lent r.link r.store r.text k x.1 x.0) x.2 in
      (λ e. sym (append_assoc written _ _) ∙ ih.0 e, omega (arith, ih.1))

  pub checked : (rs : List Read) → Reading file begun store 0 rs → Checked file store rs
  unfolding Stands StandsBy
  checked rs x =
      let q = reads rs 0 begun store [] (record { place = refl; new = refl; kept = refl; nothing = refl }) x in
      record { text = q.0; within = omega (arith, q.1) }

pub every-link : EveryLine → Demand3 → EveryLink
unfolding EveryLink
every-link law demand3 file store rs bytes x = checked law demand3 file store bytes rs x
