use Rattle.std.proofs.Common.{ℕ, List, ap₂, arith}
use Rattle.stream.specs.declared.Event.TheVariants as event
use Rattle.std.specs.Prelude.{Some}
use Rattle.sealed_receiver.specs.declared.State.{State}
use Rattle.sealed_receiver.specs.Step as step
use Rattle.secure.proofs.Stores.{zeros-behind}
use Rattle.secure.proofs.Bounds.{segments-fit}
use Rattle.sealed_receiver.proofs.parts.end_whole.Goals as goal

pub returns : goal.returns
returns c =
    let g = c.args in
    ap₂ (λ (x : State) (t : List ℕ). step.stepped x t (Some (event.Frame g.v.header))) c.next_frame.ensures
    (zeros-behind g.v.header g.store.now c.put_zeros.new.out c.total_of-n.result c.needed_of.result c.total_of-n.ensures c.needed_of.ensures.0 c.requires c.put_zeros.ensures)

pub slice_bounds-put_zeros-count : goal.slice_bounds-put_zeros-count
slice_bounds-put_zeros-count c = omega (arith, segments-fit c.args.v.header, c.total_of-n.ensures, c.requires)

pub slice_bounds-put_zeros-start : goal.slice_bounds-put_zeros-start
slice_bounds-put_zeros-start c = omega (arith, segments-fit c.args.v.header, c.total_of-n.ensures, c.requires)

pub overflow_sub-needed_of : goal.overflow_sub-needed_of
overflow_sub-needed_of c = omega (arith, segments-fit c.args.v.header, c.total_of-n.ensures, c.needed_of.ensures.0)
