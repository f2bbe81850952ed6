-- Every run is a walk in its table, and is past a good signature where it reaches ready.
use mathlib.Core.Path.{◌≡◌, refl, sym, ap, ◌∙◌}
use mathlib.Core.Bool.{Bool, true, false, cond, not, ◌&&◌, ◌||◌}
use mathlib.Core.List.{List, [], ◌∷◌}
use Prim.Native.Nat.{ℕ, suc}
use native.Mathlib.Omega.{arith}
use lib.Dec.{eqb}
use lib.ListN.{length, get_or}
use Rattle.std.proofs.Common.{leb, ◌≤◌, Err}
use Rattle.refusal.specs.declared.Refusal.{Refusal}
use Rattle.tag.specs.Tags.{Named}
use Rattle.std.proofs.lemmas.Bool.{eqb-true, eq-eqb, ne_eqb, leb-true, and_parts, and_right}
use Rattle.refusal.proofs.Booleans.{by_test, wrong, each_true}
use Rattle.handshake.specs.declared.State.{State}
use Rattle.handshake.specs.declared.State.TheVariants.{Hello, Auth, More, Signature, Session, Ready, Standby, Wait, Closed}
use Rattle.handshake.specs.declared.Verdict.{Verdict}
use Rattle.std.specs.Prelude.{Option, Some, None}
use Rattle.handshake.specs.Table.{Asked, nothing, auth, signature_good, features_there, features_missing, reconnect_accepted, reconnect_turned_down, Row, state_number, holds, leads, client_rows, server_rows, find}
use Rattle.handshake.specs.Steps.{Stepped, taken, refused_at, step_by}
use Rattle.handshake.specs.Runs.{Side, client, server, rows_of, Entry, Chained, state_by, In, Meets, Walk, end, along, off, PastSignature, AllRefused, Final, closed, wait, standby, EveryRun}
use Rattle.handshake.specs.Runs as runs

-- ---- a state by its number

state_of : ℕ → State
state_of n = get_or (Hello ∷ Auth ∷ More ∷ Signature ∷ Session ∷ Ready ∷ Standby ∷ Wait ∷ []) n Closed

state_of_lem : (s : State) → state_of (state_number s) ≡ s
unfolding state_of
state_of_lem Hello = refl
state_of_lem Auth = refl
state_of_lem More = refl
state_of_lem Signature = refl
state_of_lem Session = refl
state_of_lem Ready = refl
state_of_lem Standby = refl
state_of_lem Wait = refl
state_of_lem Closed = refl

same-state : (a b : State) → eqb (state_number a) (state_number b) ≡ true → a ≡ b
same-state a b h = sym (state_of_lem a) ∙ ap state_of (eqb-true (state_number a) (state_number b) h) ∙ state_of_lem b

-- ---- the row that is found

meets : (r : Row) (s : State) (tag : ℕ) (v : Verdict) → leads r s tag v ≡ true → Meets r s tag v
meets r s tag v h =
    let a = each_true (eqb (state_number r.from) (state_number s)) (holds r.asked v && eqb tag r.tag) h in
    let b = each_true (holds r.asked v) (eqb tag r.tag) a.1 in
    record { from = same-state r.from s a.0; tag = sym (eqb-true tag r.tag b.1); asked = b.0 }

meets-leads : (r : Row) (s : State) (tag : ℕ) (v : Verdict) → Meets r s tag v → leads r s tag v ≡ true
meets-leads r s tag v m =
    rw (eq-eqb (state_number r.from) (state_number s) (ap state_number m.from), m.asked, eq-eqb tag r.tag (sym m.tag))

data Sought (rs : List Row) (s : State) (tag : ℕ) (v : Verdict) : Option State → Type 0 where
  at : (r : Row) → In r rs → Meets r s tag v → Sought rs s tag v (Some r.to)
  missing : ((r : Row) → In r rs → Meets r s tag v → ⊥) → Sought rs s tag v None

in-none : {r : Row} {rs : List Row} → In r rs → rs ≡ [] → ⊥
in-none (runs.here {rs = rs}) e = let z : suc (length rs) ≡ 0 = ap length e in omega arith
in-none (runs.there {rs = rs} i) e = let z : suc (length rs) ≡ 0 = ap length e in omega arith

in-cons : {q r : Row} {rs : List Row} (s : State) (tag : ℕ) (v : Verdict) → leads r s tag v ≡ false → ((x : Row) → In x rs → Meets x s tag v → ⊥) → In q (r ∷ rs) → Meets q s tag v → ⊥
in-cons {q} s tag v t f runs.here m = wrong (sym t ∙ meets-leads q s tag v m)
in-cons {q} s tag v t f (runs.there i) m = f q i m

look : (rs : List Row) (s : State) (tag : ℕ) (v : Verdict) → Sought rs s tag v (find rs s tag v)
unfolding find
look [] s tag v = missing (λ r i m. in-none i refl)
look (r ∷ rs) s tag v = go (leads r s tag v) (find rs s tag v) refl (look rs s tag v)
  where
    go : (b : Bool) (n : Option State) → leads r s tag v ≡ b → Sought rs s tag v n → Sought (r ∷ rs) s tag v (cond b (Some r.to) n)
    go true n t h = at r runs.here (meets r s tag v t)
    go false n t (at q i m) = at q (runs.there i) m
    go false n t (missing f) = missing (λ q i m. in-cons s tag v t f i m)

-- ---- tags that no row has

listed : List Row → Bool
listed [] = true
listed (r ∷ rs) = (leb 1 r.tag && leb r.tag 20) && listed rs

-- no table has a tag outside 1 to 20
unlisted : (rs : List Row) (s : State) (n : ℕ) (v : Verdict) → listed rs ≡ true → ((1 ≤ n) × (n ≤ 20) → ⊥) → find rs s n v ≡ None
unfolding listed find
unlisted [] s n v ok out = refl
unlisted (r ∷ rs) s n v ok out =
    let a = and_parts (leb 1 r.tag && leb r.tag 20) (listed rs) ok in
    let b = and_parts (leb 1 r.tag) (leb r.tag 20) a.0 in
    let other : eqb n r.tag ≡ false = ne_eqb n r.tag (λ e. out (rw e (leb-true 1 r.tag b.0, leb-true r.tag 20 b.1))) in
    rw (and_right (holds r.asked v) (eqb n r.tag) other, and_right (eqb (state_number r.from) (state_number s)) false refl) (unlisted rs s n v a.1 out)

pub client_unlisted : (s : State) (n : ℕ) (v : Verdict) (why : Refusal) → Named n (Err why) → find client_rows s n v ≡ None
unfolding listed
client_unlisted s n v why h = unlisted client_rows s n v refl (λ r. wrong (h.range.1 r))

pub server_unlisted : (s : State) (n : ℕ) (v : Verdict) (why : Refusal) → Named n (Err why) → find server_rows s n v ≡ None
unfolding listed
server_unlisted s n v why h = unlisted server_rows s n v refl (λ r. wrong (h.range.1 r))

-- ---- walks

walk-on : (rs : List Row) (s u : State) (e : Entry) (es : List Entry) (n : Option State) → Sought rs s e.tag e.verdict n → e.step ≡ step_by n e.tag → Walk rs e.step.state es u → Walk rs s (e ∷ es) u
walk-on rs s u e es n (at r i m) h w = along r i m h (rw h at w)
walk-on rs s u e es n (missing f) h w = off f h (rw h at w)

walks : (rs : List Row) (s : State) (es : List Entry) → Chained rs s es → Walk rs s es (state_by s es)
walks rs s [] c = end
walks rs s (e ∷ es) c =
    walk-on rs s (state_by e.step.state es) e es (find rs s e.tag e.verdict) (look rs s e.tag e.verdict) c.0.step (walks rs e.step.state es c.1)

-- ---- past a good signature

-- the states Session and Ready
signed : State → Bool
signed s = eqb (state_number s) 4 || eqb (state_number s) 5

asks_signature : Asked → Bool
asks_signature nothing = false
asks_signature (auth a) = false
asks_signature signature_good = true
asks_signature features_there = false
asks_signature features_missing = false
asks_signature reconnect_accepted = false
asks_signature reconnect_turned_down = false

signature_good_lem : (a : Asked) (v : Verdict) → asks_signature a ≡ true → holds a v ≡ true → v.signature ≡ true
unfolding asks_signature
signature_good_lem nothing v h k = wrong h
signature_good_lem (auth a) v h k = wrong h
signature_good_lem signature_good v h k = k
signature_good_lem features_there v h k = wrong h
signature_good_lem features_missing v h k = wrong h
signature_good_lem reconnect_accepted v h k = wrong h
signature_good_lem reconnect_turned_down v h k = wrong h

-- the test of every row: what leads to a signed state comes from one, or is a good 7 to session
row_signed : Row → Bool
row_signed r = not (signed r.to) || (signed r.from || (eqb r.tag 7 && (asks_signature r.asked && eqb (state_number r.to) 4)))

every_row : List Row → Bool
every_row [] = true
every_row (r ∷ rs) = row_signed r && every_row rs

every-row : {r : Row} {rs : List Row} → every_row rs ≡ true → In r rs → row_signed r ≡ true
unfolding every_row
every-row {r} h (runs.here {rs = rs}) = (each_true (row_signed r) (every_row rs) h).0
every-row {r} h (runs.there {x = x} {rs = rs} i) = every-row (each_true (row_signed x) (every_row rs) h).1 i

both_tables : (side : Side) → every_row (rows_of side) ≡ true
unfolding every_row row_signed signed asks_signature
both_tables client = refl
both_tables server = refl

good-row : (r : Row) (e : Entry) (es : List Entry) (s : State) → row_signed r ≡ true → signed s ≡ false → signed r.to ≡ true → Meets r s e.tag e.verdict → e.step ≡ taken r.to → PastSignature (e ∷ es)
unfolding row_signed
good-row r e es s ok u t m h =
    let f : signed r.from ≡ false = ap signed m.from ∙ u in
    let b = each_true (eqb r.tag 7) (asks_signature r.asked && eqb (state_number r.to) 4) (rw (t, f) at ok) in
    let d = each_true (asks_signature r.asked) (eqb (state_number r.to) 4) b.1 in
    runs.here (sym m.tag ∙ eqb-true r.tag 7 b.0) (signature_good_lem r.asked e.verdict d.0 m.asked) (h ∙ ap taken (same-state r.to Session d.1))

past : {rs : List Row} {s u : State} {es : List Entry} → every_row rs ≡ true → Walk rs s es u → signed s ≡ false → signed u ≡ true → PastSignature es
unfolding signed
past ok end h k = wrong (sym h ∙ k)
past {s = s} ok (along {e = e} {es = es} r i m t w) h k =
    by_test (signed r.to) (λ q. good-row r e es s (every-row ok i) h q m t) (λ q. runs.later (past ok w q k))
past ok (off f t w) h k = runs.later (past ok w refl k)

reaches : (side : Side) (es : List Entry) → Chained (rows_of side) Hello es → state_by Hello es ≡ Ready → PastSignature es
unfolding signed
reaches side es c e = past (both_tables side) (walks (rows_of side) Hello es c) refl (ap signed e)

-- ---- states that take nothing

takes-nothing : (side : Side) (s : State) (tag : ℕ) (v : Verdict) → Final s → find (rows_of side) s tag v ≡ None
unfolding find
takes-nothing client s tag v closed = refl
takes-nothing client s tag v wait = refl
takes-nothing client s tag v standby = refl
takes-nothing server s tag v closed = refl
takes-nothing server s tag v wait = refl
takes-nothing server s tag v standby = refl

refused-step : (side : Side) (s : State) (e : Entry) → Final s → Stepped (rows_of side) s e.tag e.verdict e.step → e.step ≡ refused_at e.tag
refused-step side s e f h = h.step ∙ ap (λ (n : Option State). step_by n e.tag) (takes-nothing side s e.tag e.verdict f)

all-refused : (side : Side) (s : State) (es : List Entry) → Final s → Chained (rows_of side) s es → AllRefused es
all-refused side s [] f c = tt
all-refused side s (e ∷ es) f c =
    let h = refused-step side s e f c.0 in
    (h, all-refused side Closed es closed (rw h at c.1))

stays_closed : (side : Side) (es : List Entry) → Chained (rows_of side) Closed es → state_by Closed es ≡ Closed
stays_closed side [] c = refl
stays_closed side (e ∷ es) c =
    let h = refused-step side Closed e closed c.0 in
    rw h (stays_closed side es (rw h at c.1))

-- THE CLAIM
pub every-run : EveryRun
unfolding EveryRun
every-run = ((λ side es c. walks (rows_of side) Hello es c), reaches, all-refused, stays_closed)
