-- The receiver gathers the bytes of a part (Gathers): a piece, fed byte by byte, is the machine's.
use Rattle.std.proofs.Common.{◌≡◌, ℕ, ◌+◌, Bool, true, false, List, [], ◌∷◌, ◌++◌, length, sym, refl, ap, ◌∙◌, add_assoc}
use lib.Seq.{sets}
use Rattle.receiver.specs.Report.{Report}
use Rattle.std.specs.Prelude.{Some, None}
use Rattle.receiver.proofs.Machine as machine
use Rattle.buffer.proofs.Sets.{sets-append}
use Rattle.receiver.proofs.Gathers.{Gathering, got-append, byte_step}
use Rattle.receiver.proofs.Feeding.{Lasting}
use Rattle.sealed_receiver.specs.declared.State.{State}
use Rattle.sealed_receiver.specs.State.{is_first, in_frame, place_of}
use Rattle.sealed_receiver.specs.Step.{Stepped, block_with, store_with, absorbed, stored, reached, size, chunk, on_byte, Answer, onward, feed, Running}
use Rattle.sealed_receiver.proofs.Live.{RefusedFor, inside_of, chunk-leaves}

abbrev pub bare : Stepped → machine.Stepped State
bare y = record { state = y.state; store = y.store; report = y.report }

block-append : (first : Bool) (got : ℕ) (b xs ys : List ℕ)
    → block_with first (got + length xs) (block_with first got b xs) ys ≡ block_with first got b (xs ++ ys)
block-append true got b xs ys = sets-append b got xs ys
block-append false got b xs ys = refl

pub store-append : (later : Bool) (place got : ℕ) (s xs ys : List ℕ)
    → store_with later (place + (got + length xs)) (store_with later (place + got) s xs) ys ≡ store_with later (place + got) s (xs ++ ys)
store-append true place got s xs ys =
    ap (λ (n : ℕ). sets (sets s (place + got) xs) n ys) (sym (add_assoc place got (length xs))) ∙ sets-append s (place + got) xs ys
store-append false place got s xs ys = refl

pub store-none : (later : Bool) (place : ℕ) (s : List ℕ) → store_with later place s [] ≡ s
store-none true place s = refl
store-none false place s = refl

pub absorbed-twice : (st : State) (xs ys : List ℕ) → absorbed (absorbed st xs) ys ≡ absorbed st (xs ++ ys)
absorbed-twice st xs ys =
    let p = st.position in
    rw (got-append p.got xs ys, block-append (is_first p.stage) p.got p.block xs ys)

abbrev pub parts : Gathering
parts = record {
  State = State;
  got = λ st. st.position.got;
  size = size;
  absorbed = absorbed;
  stored = stored;
  reached = λ st s t. bare (reached st s t);
  silent = λ st s. refl;
  got-absorbed = λ st xs. refl;
  size-absorbed = λ st xs. refl;
  absorbed-append = absorbed-twice;
  stored-append = λ st.
      store-append (in_frame st.position.stage) (place_of st.position.stage st.known.header) st.position.got;
  stored-none = λ st s. store-none (in_frame st.position.stage) (place_of st.position.stage st.known.header + st.position.got) s;
}

abbrev pub lasting : Lasting parts
lasting = record { Running = Running; RefusedFor = RefusedFor; unfilled = inside_of; keeps = chunk-leaves }

-- and an answer of the receiver is one of the machine
abbrev pub machine_answer : Answer → machine.Answer State
machine_answer a = record { state = a.received.state; taken = a.received.taken; report = a.received.report; store = a.store }

machine_onward : (r : Report) (x : Stepped) (a : Answer) → machine_answer (onward r 1 x a) ≡ machine.onward r (bare x) (machine_answer a)
machine_onward None x a = refl
machine_onward (Some e) x a = refl

pub machine_feed : (st : State) (s piece : List ℕ) → machine_answer (feed st s piece) ≡ machine.feed (byte_step parts) st s piece
unfolding feed machine.feed on_byte
machine_feed st s [] = refl
machine_feed st s (b ∷ bs) =
    let x = chunk st s (b ∷ []) in
    machine_onward x.report x (feed x.state x.store bs)
    ∙ ap (machine.onward x.report (bare x)) (machine_feed x.state x.store bs)
