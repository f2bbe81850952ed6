-- The line of an end, by the tests.
use mathlib.Core.Path.{◌≡◌}
use mathlib.Core.Bool.{Bool, true, false}
use mathlib.Core.List.{[], ◌∷◌, ◌++◌}
use Prim.Native.Nat.{ℕ, ◌-◌, ◌≤◌, ◌<◌}
use borrow.Author.Tests.{le-leb, lt-leb}
use Rattle.std.specs.Prelude.{is_some, unwrap_or}
use Rattle.text.specs.Line.{field, newline}
use Rattle.link.specs.declared.Walk.{Walk}
use Rattle.link.specs.Lines.{refused_at, bad_file, open_end, end_line}
use Rattle.link.specs.Walks.{end_at}

pub end-ok : (n p : ℕ) → n ≤ p → end_line (open_end false n p) ≡ field "end ok" n ++ (newline ∷ [])
end-ok n p h = rw (le-leb n p h)

pub end-cut : (n p : ℕ) → p < n → end_line (open_end false n p) ≡ field "end cut" (n - p) ++ (newline ∷ [])
end-cut n p h = rw (lt-leb n p h)

-- the end of a walk
pub at-refused : (w : Walk) (bad : Bool) → is_some w.refused ≡ true → refused_at (unwrap_or w.refused 0) w.taken ≡ end_at bad w
at-refused w bad e = rw e

pub at-bad : (w : Walk) (bad : Bool) → is_some w.refused ≡ false → bad ≡ true → bad_file ≡ end_at bad w
at-bad w bad e f = rw (e, f)

pub at_open : (w : Walk) (bad : Bool) (n p : ℕ) → is_some w.refused ≡ false → bad ≡ false → w.taken ≡ n → w.entry_end ≡ p → open_end false n p ≡ end_at bad w
at_open w bad n p e f g h = rw (e, f, g, h)
