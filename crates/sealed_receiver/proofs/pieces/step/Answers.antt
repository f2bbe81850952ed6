use Rattle.std.proofs.Common.{◌≡◌, ℕ, ◌+◌, ◌-◌, ◌<◌, ◌≤◌, min, Bool, true, false, ltb, List, length, take, sym, ap, ◌∙◌, subst, ap₂, arith, length-take-le, rules, le-ltb, lt-ltb}
use Rattle.sealed_receiver.specs.declared.State.{State}
use Rattle.sealed_receiver.specs.State.{is_first, in_frame, place_of}
use Rattle.sealed_receiver.specs.Step as step
use Rattle.sealed_receiver.proofs.Live.{inside_of, header_of_lem}
use Rattle.sealed_receiver.proofs.Bounds.{block_room, store-room}
use Rattle.sealed_receiver.proofs.pieces.step.Goals as goal

-- the bytes of the piece that the part takes
abbrev taking : State → List ℕ → List ℕ
taking st piece = take (step.fitting st piece) piece

taking-length : (st : State) (piece : List ℕ) → length (taking st piece) ≡ step.fitting st piece
taking-length st piece = length-take-le (step.fitting st piece) piece (omega arith)

taking-fits : (st : State) (piece : List ℕ) → st.position.got < step.size st → st.position.got + length (taking st piece) ≤ step.size st
taking-fits st piece l = omega (arith, taking-length st piece)

held : (st : State) (s piece : List ℕ) (n : ℕ) (block store : List ℕ) → n ≡ st.position.got + length (taking st piece)
    → block ≡ (step.absorbed st (taking st piece)).position.block → store ≡ step.stored st s (taking st piece)
    → step.silent (step.state_at st.position.stage n block st.known) store
    ≡ step.silent (step.absorbed st (taking st piece)) (step.stored st s (taking st piece))
held st s piece n block store en eb es = rw (en, eb, es)

-- as code counts them
module _ (st : State) (piece : List ℕ) (n m : ℕ) (bytes : List ℕ) (en : n ≡ step.size st) (em : m ≡ min (n - st.position.got) (length piece)) (eb : bytes ≡ take m piece) where
  taken_is : m ≡ step.fitting st piece
  taken_is = em ∙ ap (λ (k : ℕ). min (k - st.position.got) (length piece)) en

  bytes_are : bytes ≡ taking st piece
  bytes_are = eb ∙ ap (λ (k : ℕ). take k piece) taken_is

  many_are : st.position.got < step.size st → st.position.got + length bytes ≤ step.size st
  many_are l = subst (λ (xs : List ℕ). st.position.got + length xs ≤ step.size st) (sym bytes_are) (taking-fits st piece l)

  -- the block and the store with them
  block-is : (first : Bool) (block : List ℕ) → first ≡ is_first st.position.stage → block ≡ step.store_with first st.position.got st.position.block bytes
      → block ≡ (step.absorbed st (taking st piece)).position.block
  block-is first block ef e =
      e ∙ ap₂ (λ (q : Bool) (xs : List ℕ). step.store_with q st.position.got st.position.block xs) ef bytes_are

  store_is : (later : Bool) (place : ℕ) (s store : List ℕ) → later ≡ in_frame st.position.stage → place ≡ place_of st.position.stage st.known.header
      → store ≡ step.store_with later (place + st.position.got) s bytes → store ≡ step.stored st s (taking st piece)
  store_is later place s store el ep e =
      e
      ∙ ap (λ (q : Bool). step.store_with q (place + st.position.got) s bytes) el
      ∙ ap₂ (λ (i : ℕ) (xs : List ℕ). step.store_with (in_frame st.position.stage) (i + st.position.got) s xs) ep bytes_are

pub overflow_sub-n : goal.overflow_sub-n
overflow_sub-n c = omega (arith, c.size_of-n.ensures.0, inside_of c.requires)

pub fill-requires : goal.fill-requires
fill-requires c =
    let st = c.args.st in
    let many = many_are st c.args.piece.now _ _ _ c.size_of-n.ensures.0 c.min-m.ensures c.part-bytes.ensures (inside_of c.requires) in
    λ e. omega (arith, many, block_room st.position.stage st.known.header (sym c.is_first.ensures ∙ e))

pub overflow_add-place_of : goal.overflow_add-place_of
overflow_add-place_of c = omega (arith, c.place_of.ensures.1, c.size_of-n.ensures.0, c.size_of-n.ensures.1, inside_of c.requires)

pub fill-requires-2 : goal.fill-requires-2
fill-requires-2 c =
    let st = c.args.st in
    let i = inside_of c.requires in
    let many = many_are st c.args.piece.now _ _ _ c.size_of-n.ensures.0 c.min-m.ensures c.part-bytes.ensures i in
    λ e.
    let room = store-room st.position.stage st.known.header (sym c.in_frame.ensures ∙ e) (omega arith) in
    omega (arith, c.place_of.ensures.0, many, c.requires.fits, room)

pub end_part-t-requires : goal.end_part-t-requires
end_part-t-requires c = record { fits = search rules; header = header_of_lem c.requires; some = omega (arith, inside_of c.requires) }

pub returns-then-to-n : goal.returns-then-to-n
returns-then-to-n c =
    let st = c.args.st in
    let p = c.args.piece.now in
    let en = c.size_of-n.ensures.0 in
    let em = c.min-m.ensures in
    let eb = c.part-bytes.ensures in
    let m = taken_is st p _ _ _ en em eb in
    let l = taking-length st p in
    let t : ltb (st.position.got + length (taking st p)) (step.size st) ≡ true =
    lt-ltb (st.position.got + length (taking st p)) (step.size st) (omega (arith, m, l, en, c.if-to-n.true))
    in
    let n = ap (λ (k : ℕ). st.position.got + k) (m ∙ sym l) in
    record {
      taken = m;
      step =
          rw t
          (held st c.args.store.now p _ _ _ n (block-is st p _ _ _ en em eb _ _ c.is_first.ensures c.fill.ensures)
          (store_is st p _ _ _ en em eb _ _ c.args.store.now _ c.in_frame.ensures c.place_of.ensures.0 c.fill-2.ensures));
    }

pub returns : goal.returns
returns c =
    let st = c.args.st in
    let p = c.args.piece.now in
    let en = c.size_of-n.ensures.0 in
    let em = c.min-m.ensures in
    let eb = c.part-bytes.ensures in
    let m = taken_is st p _ _ _ en em eb in
    let l = taking-length st p in
    let t : ltb (st.position.got + length (taking st p)) (step.size st) ≡ false =
    le-ltb (st.position.got + length (taking st p)) (step.size st) (omega (arith, m, l, en, c.if-to-n.false))
    in
    let finishes : List ℕ → List ℕ → step.Stepped = λ x y. step.finish st.position.stage x st.known y in
    record {
      taken = m;
      step =
          rw t
          (c.end_part-t.ensures
          ∙ ap₂ finishes (block-is st p _ _ _ en em eb _ _ c.is_first.ensures c.fill.ensures)
          (store_is st p _ _ _ en em eb _ _ c.args.store.now _ c.in_frame.ensures c.place_of.ensures.0 c.fill-2.ensures));
    }
