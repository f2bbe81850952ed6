-- Calls that are made one after the other: the list grows at its end.
use Prim.Native.Nat.{ℕ, ◌+◌, ◌-◌, ◌≤◌, ◌<◌, min, zero-le}
use mathlib.Core.List.{List, [], ◌∷◌, ◌++◌}
use mathlib.Core.Path.{◌≡◌, refl, sym, ap, ◌∙◌}
use native.Mathlib.Omega.{arith}
use native.Mathlib.Numerals.{add-one}
use lib.ListN.{length, take, drop, get_or, length-drop, length-take}
use lib.Seq.{take-suc, take_all}
use Rattle.receiver.specs.declared.State.{State}
use Rattle.receiver.specs.declared.Received.{Received}
use Rattle.receiver.specs.State.{agrees}
use Rattle.receiver.specs.Step.{answer, Answered}
use Rattle.receiver.specs.Calls.{Call, piece_at, Chained, taken_by, state_by, store_by, sizes_of}
use Rattle.refusal.proofs.Booleans.{by_test, by_less}
use Rattle.receiver.proofs.Scan.{feed-within}
use Rattle.receiver.proofs.Every.{contradicting, feeding, by_answer}
use Rattle.receiver.proofs.Appended.{taken-append, state-append, store-append, chained_append}

-- no call takes more than its piece
answer-least : (st : State) (s piece : List ℕ) → (answer st s piece).received.taken ≤ length piece
answer-least st s piece =
    by_test (agrees st) (λ e. by_answer st s piece e (λ st' n g q. rw q zero-le) (λ l. rw (feeding st s piece l) (feed-within st s piece)))
    (λ e. rw (contradicting st s piece e) zero-le)

-- what stands after i calls, from the state st₀
pub record Called (stream cuts store₀ store : List ℕ) (st₀ st : State) (t i : ℕ) : Type 0 where
  pub within : t ≤ length stream
  pub passed : i ≤ length cuts
  pub same : length store ≡ length store₀
  pub calls : List Call
  pub sizes : sizes_of calls ≡ take i cuts
  pub chained : Chained stream st₀ store₀ 0 calls
  pub state : st ≡ state_by st₀ calls
  pub taken : t ≡ taken_by 0 calls
  pub final : store ≡ store_by store₀ calls

pub called-none : (stream cuts store : List ℕ) (st : State) → Called stream cuts store store st st 0 0
called-none stream cuts store st =
    record { within = zero-le; passed = zero-le; same = refl; calls = []; sizes = refl; chained = tt; state = refl; taken = refl; final = refl }

sizes_snoc : (cs : List Call) (c : Call) → sizes_of (cs ++ (c ∷ [])) ≡ sizes_of cs ++ (c.size ∷ [])
sizes_snoc [] c = refl
sizes_snoc (d ∷ cs) c = ap (λ (l : List ℕ). d.size ∷ l) (sizes_snoc cs c)

-- a run that is cut at the stream's end is the same run
pub clipped : (stream : List ℕ) (t n k : ℕ) → t ≤ length stream → k ≡ min n (length stream - t) → take ((t + k) - t) (drop t stream) ≡ piece_at stream t n
clipped stream t n k h e =
    let d = length-drop t stream in
    by_less (length stream - t) n (λ l. take_all ((t + k) - t) (drop t stream) (omega arith) ∙ sym (take_all n (drop t stream) (omega arith)))
    (λ l. let a : (t + k) - t ≡ n = omega arith in rw a)

-- a list that is gone through from its first element on
pub gone_through : (l : List ℕ) (k i : ℕ) → k ≡ 0 → get_or (take (length l - k) (drop k l)) i 0 ≡ get_or l i 0
gone_through l k i e = rw e (ap (λ (t : List ℕ). get_or t i 0) (take_all (length l - 0) l (omega arith)))

pub taken-within : (stream store : List ℕ) (st : State) (t n : ℕ) (o : Received) (s : List ℕ) → t ≤ length stream → Answered st store (piece_at stream t n) o s → t + o.taken ≤ length stream
taken-within stream store st t n o s h r =
    let l = answer-least st store (piece_at stream t n) in
    let e = ap (λ (x : Received). x.taken) r.received in
    let a = length-take n (drop t stream) in
    let b = length-drop t stream in
    omega arith

pub called-next : {stream cuts store₀ store : List ℕ} {st₀ st : State} {t i : ℕ} {o : Received} {s : List ℕ} → Called stream cuts store₀ store st₀ st t i → i < length cuts
    → length s ≡ length store → Answered st store (piece_at stream t (get_or cuts i 0)) o s → Called stream cuts store₀ s st₀ o.state (t + o.taken) (i + 1)
called-next {stream} {cuts} {store₀} {store} {st₀} {st} {t} {i} {o} {s} so h kept r =
    let c : Call = record { size = get_or cuts i 0; received = o; store = s } in
    record {
      within = taken-within stream store st t (get_or cuts i 0) o s so.within r;
      passed = omega arith;
      same = kept ∙ so.same;
      calls = so.calls ++ (c ∷ []);
      sizes = sizes_snoc so.calls c ∙ rw (so.sizes, add-one, take-suc cuts i 0 h);
      chained = chained_append stream st₀ store₀ 0 so.calls (c ∷ []) so.chained (rw (← so.state, ← so.taken, ← so.final) r, tt);
      state = sym (state-append st₀ so.calls (c ∷ []));
      taken = rw so.taken (sym (taken-append 0 so.calls (c ∷ [])));
      final = sym (store-append store₀ so.calls (c ∷ []));
    }
