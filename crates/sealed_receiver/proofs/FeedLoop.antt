-- The loop over a piece: from one chunk to the next (Feeding), in the terms of what the receiver's functions promise.
use Rattle.std.proofs.Common.{◌≡◌, ℕ, ◌+◌, ◌<◌, ◌≤◌, true, false, List, length, sym, refl, ap, ◌∙◌}
use Rattle.buffer.proofs.Parts.{rest}
use Rattle.std.specs.Prelude.{Some, None, is_some}
use Rattle.refusal.proofs.Booleans.{wrong}
use Rattle.receiver.specs.Report.{Report}
use Rattle.receiver.specs.Step.{is_more}
use Rattle.receiver.proofs.Machine as machine
use Rattle.receiver.proofs.Gathers.{byte_step}
use Rattle.receiver.proofs.Feeding as feeding
use Rattle.sealed_receiver.specs.declared.State.{State}
use Rattle.sealed_receiver.specs.declared.Received.{Received}
use Rattle.sealed_receiver.specs.Step.{Chunked, Fed}
use Rattle.sealed_receiver.proofs.Gathered.{bare, parts, lasting, machine_feed}

abbrev pub Midway : List ℕ → List ℕ → State → List ℕ → State → ℕ → Type 0
Midway = feeding.Midway lasting

abbrev pub Turn : List ℕ → List ℕ → State → List ℕ → State → ℕ → Received → List ℕ → Type 0
Turn piece store₀ st₀ store st at o store' = feeding.Turn lasting piece store₀ st₀ store st at o.taken (record { state = o.state; store = store'; report = o.report })

pub turn : {piece store₀ : List ℕ} {st₀ : State} {store : List ℕ} {st : State} {at : ℕ} {o : Received} {store' : List ℕ} → Midway piece store₀ st₀ store st at → at < length piece
    → Chunked st store (rest piece at) o store' → length store' ≡ length store → Turn piece store₀ st₀ store st at o store'
turn m l c e = record { midway = m; some = l; taken = c.taken; step = ap bare c.step; kept = e }

-- the machine's answer is the receiver's
fed : (st : State) (s piece : List ℕ) (o : Received) (s' : List ℕ)
    → machine.feed (byte_step parts) st s piece ≡ record { state = o.state; taken = o.taken; report = o.report; store = s' } → Fed st s piece o s'
fed st s piece o s' e =
    let a = sym (machine_feed st s piece ∙ e) in
    record {
      received = ap (λ (x : machine.Answer State). record { state = x.state; taken = x.taken; report = x.report }) a;
      store = ap (λ (x : machine.Answer State). x.store) a;
    }

pub reported : {piece store₀ : List ℕ} {st₀ : State} {store : List ℕ} {st : State} {at : ℕ} {o : Received} {store' : List ℕ} → Turn piece store₀ st₀ store st at o store'
    → is_more o.report ≡ false → Fed st₀ store₀ piece (record { state = o.state; taken = at + o.taken; report = o.report }) store'
reported {piece} {store₀} {st₀} {store} {st} {at} {o} {store'} t e =
    fed st₀ store₀ piece (record { state = o.state; taken = at + o.taken; report = o.report }) store' (feeding.reported t e)

pub finished : {piece store₀ : List ℕ} {st₀ : State} {store : List ℕ} {st : State} {at : ℕ} → Midway piece store₀ st₀ store st at → length piece ≤ at
    → Fed st₀ store₀ piece (record { state = st; taken = at; report = None }) store
finished {piece} {store₀} {st₀} {store} {st} {at} m l =
    fed st₀ store₀ piece (record { state = st; taken = at; report = None }) store (feeding.finished lasting m l)

-- a report, as code tests it
pub some-report : (r : Report) → is_some r ≡ true → is_more r ≡ false
some-report None e = wrong e
some-report (Some v) e = refl

pub no-report : (r : Report) → is_some r ≡ false → is_more r ≡ true
no-report None e = refl
no-report (Some v) e = wrong (sym e)
