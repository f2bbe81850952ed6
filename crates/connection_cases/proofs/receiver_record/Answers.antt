use Rattle.std.proofs.Common.{◌≤◌, refl, sym, ◌∙◌, length, arith, length-take-le}
use Rattle.records.proofs.Laws.{did_bad, did_whole, size-good}
use Rattle.connection_cases.specs.Places.{receiver_size}
use Rattle.connection_cases.specs.Calls.{receiver_record}
use Rattle.connection_cases.proofs.Laws.{receiver-store, switches-there, receiver-printed}
use Rattle.connection_cases.proofs.receiver_record.Goals as goal

pub returns-in_default : goal.returns-in_default
unfolding receiver_record
returns-in_default c = rw (← c.layout_of-l.ensures) (did_bad _ _ c.receiver_size.ensures c.in_default.is (c.bad_record.ensures _))

pub slice_bounds-store-end : goal.slice_bounds-store-end
slice_bounds-store-end c =
    let a = c.args in
    let good = size-good (receiver_size (length a.space.now) c.layout_of-l.result a.s.now) a.s.now c.in-Some.ensures in
    omega (arith, c.u32_at-n.ensures, receiver-store (length a.space.now) c.layout_of-l.result a.s.now good)

pub make_calls-requires : goal.make_calls-requires
make_calls-requires c =
    let a = c.args in
    let good = size-good (receiver_size (length a.space.now) c.layout_of-l.result a.s.now) a.s.now c.in-Some.ensures in
    record {
      n_bound = (omega (arith, c.calls_of-calls.ensures.1), omega (arith, c.calls_at.ensures.1));
      l_in_bounds = switches-there (length a.space.now) c.layout_of-l.result a.s.now good;
    }

pub returns : goal.returns
unfolding receiver_record
returns c =
    let a = c.args in
    let good = size-good (receiver_size (length a.space.now) c.layout_of-l.result a.s.now) a.s.now c.in-Some.ensures in
    let fits : c.u32_at-n.result ≤ length a.space.now = omega (arith, c.u32_at-n.ensures, receiver-store (length a.space.now) c.layout_of-l.result a.s.now good) in
    rw (← c.layout_of-l.ensures)
    (did_whole _ _ c.in-Some.ensures refl
    (receiver-printed c.layout_of-l.result a.s.now _
    c.calls_of-calls.ensures.0
    c.calls_at.ensures.0
    (c.part-stream.ensures ∙ rw (c.u32_at.ensures, c.stream_at-end.ensures.0))
    (rw (c.u64_at.ensures, c.u64_at-2.ensures) at c.start-begun.ensures.state)
    (rw (c.byte_at.ensures, length-take-le _ _ fits, c.u32_at-n.ensures) at c.count_up.ensures)
    (rw (c.u64_at.ensures, c.u64_at-2.ensures) at c.start-begun.ensures.judgement)
    c.print_judgement.ensures
    c.make_calls.ensures))

pub slice_bounds-store-end-2 : goal.slice_bounds-store-end-2
slice_bounds-store-end-2 c =
    let a = c.args in
    let good = size-good (receiver_size (length a.space.now) c.layout_of-l.result a.s.now) a.s.now c.in-Some.ensures in
    let fits : c.u32_at-n.result ≤ length a.space.now = omega (arith, c.u32_at-n.ensures, receiver-store (length a.space.now) c.layout_of-l.result a.s.now good) in
    sym (length-take-le _ _ fits)
