-- What a call of a session releases, and what it keeps.
use mathlib.Core.Path.{◌≡◌, refl, sym, subst}
use mathlib.Core.List.Memᴰ
use mathlib.Core.List.{List, [], ◌∷◌, ◌++◌, Memᴰ}
use mathlib.Core.Bool.{Bool, true, false, cond, true≢false}
use Prim.Native.Nat.{ℕ}
use borrow.Author.Tests.{leb-false, lt-ltb}
use lib.Dec.{leb, ltb}
use lib.ListN.{length}
use Rattle.refusal.specs.Refusals.{Judged, fine, refused, by_judgement}
use Rattle.refusal.proofs.Booleans.{at_cond}
use Rattle.std.specs.Prelude.{Result, Ok, Err}
use Rattle.refusal.specs.declared.Numbers.{Numbers}
use Rattle.session.specs.declared.Session.{Session}
use Rattle.session.specs.declared.Message.{Message}
use Rattle.session.specs.declared.Answer.{Answer}
use Rattle.session.specs.declared.Answer.TheVariants as answer
use Rattle.session.specs.Calls.{places, held_of, agrees, outcome, refusing, acked, cleared}
use Rattle.session.specs.Laws as session
use Rattle.session.specs.Laws.{call_of, event_of, above, after, EveryCall}
use Rattle.session.specs.History.{is_held, fate_of, same, with_fate}

-- whether a call of the session releases the message m
abbrev pub releases : ℕ → session.Call → Bool
releases m (session.accept h) = false
releases m (session.ack n) = leb m n
releases m (session.reconnect n) = leb m n
releases m (session.reset full) = full

-- one of some calls does
abbrev pub one_releases : ℕ → List session.Call → Bool
one_releases m [] = false
one_releases m (c ∷ cs) = cond (releases m c) true (one_releases m cs)

-- ---- fates

-- an event of a call that does not release the message m
by_event : (P : session.Event → Type 0) (m : ℕ) (c : session.Call) (r : Result Answer Numbers) → releases m c ≡ false
    → ((x : Message) → P (session.accepted x)) → ((n : ℕ) → leb m n ≡ false → P (session.acknowledged n)) → P session.nothing → P (event_of c r)
by_event P m (session.accept h) (Ok (answer.Accepted n)) e a k z = a _
by_event P m (session.accept h) (Ok answer.Done) e a k z = z
by_event P m (session.accept h) (Ok (answer.Resend n)) e a k z = z
by_event P m (session.accept h) (Err n) e a k z = z
by_event P m (session.ack n) (Ok (answer.Accepted i)) e a k z = k n e
by_event P m (session.ack n) (Ok answer.Done) e a k z = k n e
by_event P m (session.ack n) (Ok (answer.Resend i)) e a k z = k n e
by_event P m (session.ack n) (Err i) e a k z = z
by_event P m (session.reconnect n) (Ok (answer.Accepted i)) e a k z = k n e
by_event P m (session.reconnect n) (Ok answer.Done) e a k z = k n e
by_event P m (session.reconnect n) (Ok (answer.Resend i)) e a k z = k n e
by_event P m (session.reconnect n) (Err i) e a k z = z
by_event P m (session.reset true) r e a k z = absurd (true≢false e)
by_event P m (session.reset false) r e a k z = z

-- a call that does not release the message leaves its fate to the later ones
pub stays : (m : ℕ) (c : session.Call) (r : Result Answer Numbers) (es : List session.Event) → releases m c ≡ false → fate_of m (event_of c r ∷ es) ≡ fate_of m es
unfolding fate_of
stays m c r es e = by_event (λ (v : session.Event). fate_of m (v ∷ es) ≡ fate_of m es) m c r e (λ x. refl) (λ n l. rw l) refl

-- a message whose fate is to be held is among those held
pub among : (x : Message) (es fs : List session.Event) → fate_of x.number fs ≡ is_held → Memᴰ x (with_fate is_held (es ++ (session.accepted x ∷ fs)))
unfolding with_fate
among x [] fs e = rw e (Memᴰ.head refl)
among x (session.accepted y ∷ es) fs e =
    at_cond (Memᴰ x) (same is_held (fate_of y.number (es ++ (session.accepted x ∷ fs)))) (Memᴰ.tail (among x es fs e)) (among x es fs e)
among x (session.acknowledged n ∷ es) fs e = among x es fs e
among x (session.dropped ∷ es) fs e = among x es fs e
among x (session.nothing ∷ es) fs e = among x es fs e

-- ---- a call keeps what it does not release

mem_above : (x : Message) (n : ℕ) (ms : List Message) → leb x.number n ≡ false → Memᴰ x ms → Memᴰ x (above n ms)
unfolding above
mem_above x n [] e k = elim k [ ]
mem_above x n (y ∷ ms) e (Memᴰ.head p) =
    let l : ltb n y.number ≡ true = rw p at (lt-ltb n x.number (leb-false x.number n e)) in
    rw l (Memᴰ.head p)
mem_above x n (y ∷ ms) e (Memᴰ.tail k) = at_cond (Memᴰ x) (ltb n y.number) (Memᴰ.tail (mem_above x n ms e k)) (mem_above x n ms e k)

keeps : (c : session.Call) (r : Result Answer Numbers) (ms : List Message) (x : Message) → releases x.number c ≡ false → Memᴰ x ms → Memᴰ x (after (event_of c r) ms)
keeps c r ms x e k =
    by_event (λ (v : session.Event). Memᴰ x (after v ms)) x.number c r e (λ y. Memᴰ.append_left _ k) (λ n l. mem_above x n ms l k) k

-- of a session that agrees with itself and has its places
pub record Good (s : Session) : Type 0 where
  pub agreeing : agrees s ≡ true
  pub sized : length s.handles ≡ places

pub call-good : EveryCall → (s : Session) (c : session.Call) → Good s → Good (call_of s c).session
call-good every s c g =
    let o = every.each s c g.sized in
    record { agreeing = o.agreeing g.agreeing; sized = o.sized }

pub call-keeps : EveryCall → (s : Session) (c : session.Call) (x : Message) → Good s → releases x.number c ≡ false → Memᴰ x (held_of s) → Memᴰ x (held_of (call_of s c).session)
call-keeps every s c x g e k =
    subst (λ (ms : List Message). Memᴰ x ms) (sym ((every.each s c g.sized).table g.agreeing)) (keeps c (call_of s c).answer (held_of s) x e k)

-- ---- handles

pub kept : (s t : Session) (j : Judged) (r : Result Answer Numbers) → t.handles ≡ s.handles → (by_judgement j (outcome t r) (refusing s)).session.handles ≡ s.handles
kept s t fine r h = h
kept s t (refused n) r h = refl

pub acked-keeps : (s : Session) (n : ℕ) → (acked s n).handles ≡ s.handles
acked-keeps s n = at_cond (λ (t : Session). t.handles ≡ s.handles) (leb n s.released) refl refl

pub cleared-keeps : (s : Session) (full : Bool) → (cleared s full).handles ≡ s.handles
cleared-keeps s true = refl
cleared-keeps s false = refl
