-- A scan over the bytes of one stage: they end within it, or fill it.
use Prim.Native.Nat.{ℕ, ◌+◌, ◌≤◌, ◌<◌, zero-le}
use mathlib.Core.List.{List}
use mathlib.Core.Path.{◌≡◌}
use lib.ListN.{length, take, drop}
use borrow.Author.Tests.{le-ltb}
use Rattle.stream.specs.Stream.{Trace, ended}
use Rattle.receiver.specs.declared.Stage.TheVariants as stage
use Rattle.receiver.specs.declared.State.{State}
use Rattle.receiver.specs.Step.{absorbed, stored, size, Stepped, finish, on_byte}
use Rattle.receiver.proofs.Machine.{Silent, scan-silent}
use Rattle.receiver.proofs.Scan.{byte_step, scan}
use Rattle.receiver.proofs.Gathers.{trace_by, note_trace}
use Rattle.receiver.proofs.Gathers as gathers
use Rattle.receiver.proofs.Gathered.{stages}

-- the stage's last byte came
abbrev pub finishing : State → List ℕ → Stepped
finishing st s = finish st.position.stage st.position.block st.known s

-- what a step and the bytes behind it come to
abbrev pub run : Stepped → ℕ → List ℕ → Trace
run x P ys = note_trace x.report P x.store (trace_by (scan x.state x.store P ys))

-- the stream ends within the stage, or n bytes fill it
pub staged : (st : State) (s : List ℕ) (P n : ℕ) (ys : List ℕ) {t : Trace} → 0 < n → st.position.got + n ≡ size st → (length ys < n → ended (stored st s ys) ≡ t)
    → (n ≤ length ys → run (finishing (absorbed st (take n ys)) (stored st s (take n ys))) (P + n) (drop n ys) ≡ t) → trace_by (scan st s P ys) ≡ t
unfolding on_byte
staged = gathers.staged stages

-- a refused receiver is silent
refused_byte : (st : State) (s : List ℕ) (b : ℕ) → st.position.stage ≡ stage.Refused → Silent (λ st. st.position.stage ≡ stage.Refused) s (byte_step st s b)
unfolding on_byte finish
refused_byte st s b e =
    let l = le-ltb (st.position.got + 1) 0 zero-le in
    record { state = rw (e, l); store = rw (e, l); report = rw (e, l) }

pub refused-ends : (st : State) (s : List ℕ) (P : ℕ) (bs : List ℕ) → st.position.stage ≡ stage.Refused → trace_by (scan st s P bs) ≡ ended s
refused-ends st s P bs e =
    let z = scan-silent byte_step (λ st. st.position.stage ≡ stage.Refused) refused_byte st s P bs e in
    rw (z.0, z.1)
