-- Calls on a crc link are calls of the receiver.
use mathlib.Core.Path.{◌≡◌, ◌∙◌, refl, sym, ap, subst}
use mathlib.Core.List.{List, [], ◌∷◌}
use mathlib.Core.Bool.{true, false, cond, and-true}
use Prim.Native.Nat.{ℕ, ◌+◌}
use native.Mathlib.Omega.{arith}
use lib.ListN.{length}
use borrow.Author.Tests.{lt-ltb}
use Rattle.refusal.specs.declared.Numbers.{Numbers}
use Rattle.refusal.proofs.Booleans.{by_test, at_test, by_less}
use Rattle.receiver.specs.declared.State as crc-state
use Rattle.receiver.specs.State as crc-states
use Rattle.receiver.specs.State.{is_refused}
use Rattle.refusal.specs.Refusals.{contradiction}
use Rattle.receiver.specs.Step as crc
use Rattle.receiver.specs.Calls.{piece_at}
use Rattle.receiver.specs.Calls as receiver
use Rattle.receiver.specs.Every.{AnyCall, Handed}
use Rattle.connection.specs.declared.Mode.TheVariants as mode
use Rattle.connection.specs.declared.State.{State}
use Rattle.connection.specs.Step.{is_secure, ready_rule, Answer, by_crc, answer}
use Rattle.connection.specs.Calls.{Piece}
use Rattle.connection.proofs.Laws.{mode-is}
use Rattle.connection.proofs.Machines.{before, crc_side}
use Rattle.connection.proofs.SplitAtSwitch.{ready_so}
use Rattle.receiver.proofs.Machine.{Stands, runs, refuses, next-stands}
use Rattle.abi_connection.specs.Words.{AbiConnection, AbiOf, AbiReceived, kind_in, taken_in}
use Rattle.abi_connection.proofs.Calls.{taken_word}
use Rattle.mahuixen.specs.Calls.{AbiPiece, AbiChained, abi_received}
use Rattle.mahuixen.specs.Demands.{OfCrc, AbiAnyCall, AbiHanded, AnyOfCrc, pieces, PiecesOfCrc}
use Rattle.mahuixen.proofs.Chain.{AbiForm, abi_form}

-- ---- a call keeps the rule of the mark

stood : {st : State} {s : List ℕ} → Stands crc_side st s → ready_rule st ≡ true
stood (runs r) = r.rule
stood (refuses n g) = g.rule

-- a refusal that takes nothing leaves the mark as it was
rule-refused : (st : State) (n : Numbers) (x : crc-state.State) (s : List ℕ) → st.mode ≡ mode.Crc → (st.ready ≡ true → before x ≡ true)
    → ready_rule (by_crc st (crc.refuse_unchanged x n s)).received.state ≡ true
rule-refused st n x s m h = rw (m, and-true st.ready) (at_test (λ b. cond b (before x) true ≡ true) st.ready h (λ _. refl))

module _ (st : State) (s piece : List ℕ) (m : st.mode ≡ mode.Crc) (q : ready_rule st ≡ true) where
  abbrev inner : crc.Answer
  inner = crc.answer st.crc s piece

  pub by_crc_lem : answer st s piece ≡ by_crc st inner
  by_crc_lem = mode-is st s piece false q (ap is_secure m)

  was_before : st.ready ≡ true → before st.crc ≡ true
  was_before e = rw (e, m) at q

  refusing : (n : Numbers) (x : crc-state.State) → inner ≡ crc.refuse_unchanged x n s → (st.ready ≡ true → before x ≡ true) → ready_rule (by_crc st inner).received.state ≡ true
  refusing n x e h = subst (λ (a : crc.Answer). ready_rule (by_crc st a).received.state ≡ true) (sym e) (rule-refused st n x s m h)

  running : crc.Running st.crc s → ready_rule (by_crc st inner).received.state ≡ true
  running l =
      let c : Piece = record { size = length piece; received = (answer st s piece).received; store = (answer st s piece).store } in
      subst (λ (a : Answer). ready_rule a.received.state ≡ true) by_crc_lem
      (stood (next-stands crc_side st s piece c (runs (record { mode = m; rule = q; live = l })) (record { received = refl; store = refl })))

  pub rule-kept : ready_rule (by_crc st inner).received.state ≡ true
  unfolding crc.answer
  rule-kept =
      by_test (crc-states.agrees st.crc)
      (λ ea. by_test (is_refused st.crc.position.stage) (λ er. refusing st.crc.known.refusal st.crc (rw (ea, er)) was_before)
      (λ er. by_less (length s) (crc.needed_by st.crc)
      (λ l. refusing (crc.short_store st.crc) (crc.refused_state st.crc.known (crc.short_store st.crc)) (rw (ea, er, lt-ltb (length s) (crc.needed_by st.crc) l))
      (λ e. let z : crc.needed_by st.crc ≡ 0 = rw (ready_so st q e).stage in absurd (omega arith)))
      (λ l. running (record { agree = ea; live = er; fits = l }))))
      (λ ea. refusing contradiction st.crc (rw ea) was_before)

  -- ---- what a call on the words of such a state is
  pub record CrcForm (n : ℕ) (o : AbiReceived) (s' : List ℕ) : Type 0 where
    pub same : OfCrc n o inner.received
    pub store : s' ≡ inner.store
    pub taken : taken_in o ≡ inner.received.taken
    pub next : AbiOf (by_crc st inner).received.state o.state

  pub crc_form : (n : ℕ) (o : AbiReceived) (s' : List ℕ) → n ≡ kind_in o → AbiForm st s piece o s' → CrcForm n o s'
  crc_form n o s' k f =
      let e : o ≡ abi_received (by_crc st inner).received = f.received ∙ ap (λ (a : Answer). abi_received a.received) by_crc_lem in
      record {
        same = record { number = k; state = ap (λ (x : AbiReceived). x.state.crc) e; report = ap (λ (x : AbiReceived). x.report) e };
        store = f.store ∙ ap (λ (a : Answer). a.store) by_crc_lem;
        taken = ap taken_in e ∙ taken_word inner.received.taken inner.received.report;
        next = subst (λ (a : Answer). AbiOf a.received.state o.state) by_crc_lem f.next;
      }

-- ---- lists

pub record CrcPieces (stream : List ℕ) (st : crc-state.State) (s : List ℕ) (t : ℕ) (ps : List AbiPiece) : Type 0 where
  pub calls : List receiver.Call
  pub abi : PiecesOfCrc ps calls
  pub chained : receiver.Chained stream st s t calls

pub crc-pieces : (stream : List ℕ) (st : State) (p : AbiConnection) (s : List ℕ) (t : ℕ) (ps : List AbiPiece) → AbiOf st p → st.mode ≡ mode.Crc → ready_rule st ≡ true
    → AbiChained stream p s t (pieces ps) → CrcPieces stream st.crc s t ps
crc-pieces stream st p s t [] w m q h = record { calls = []; abi = tt; chained = tt }
crc-pieces stream st p s t (c ∷ ps) w m q h =
    let piece = piece_at stream t c.size in
    let a = crc.answer st.crc s piece in
    let o = crc_form st s piece m q c.number c.received c.store h.0.kind (abi_form st p s piece c.received c.store w h.0.answered) in
    let on =
    crc-pieces stream (by_crc st a).received.state c.received.state a.store (t + a.received.taken) ps o.next m (rule-kept st s piece m q)
    (rw (o.taken, o.store) at h.1) in
    record {
      calls = record { size = c.size; received = a.received; store = a.store } ∷ on.calls;
      abi = (refl, o.same, o.store, on.abi);
      chained = (record { received = refl; store = refl }, on.chained);
    }

pub record CrcCalls (st : crc-state.State) (ps : List AbiAnyCall) : Type 0 where
  pub calls : List AnyCall
  pub abi : AnyOfCrc ps calls
  pub handed : Handed st calls

pub crc-calls : (st : State) (p : AbiConnection) (ps : List AbiAnyCall) → AbiOf st p → st.mode ≡ mode.Crc → ready_rule st ≡ true → AbiHanded p ps → CrcCalls st.crc ps
crc-calls st p [] w m q h = record { calls = []; abi = tt; handed = tt }
crc-calls st p (c ∷ ps) w m q h =
    let a = crc.answer st.crc c.lent c.piece in
    let o = crc_form st c.lent c.piece m q c.number c.received c.store h.0.kind (abi_form st p c.lent c.piece c.received c.store w h.0.answered) in
    let on = crc-calls (by_crc st a).received.state c.received.state ps o.next m (rule-kept st c.lent c.piece m q) h.1 in
    record {
      calls = record { lent = c.lent; piece = c.piece; received = a.received; store = a.store } ∷ on.calls;
      abi = (refl, refl, o.same, o.store, on.abi);
      handed = (record { received = refl; store = refl }, on.handed);
    }
