-- The loop over a piece: from one chunk to the next (Feeding), in the terms of what the receiver's functions promise.
use Prim.Native.Nat.{ℕ, ◌+◌, ◌≤◌, ◌<◌}
use mathlib.Core.List.{List, []}
use mathlib.Core.Path.{◌≡◌, refl, sym, ap, ◌∙◌}
use mathlib.Core.Bool.{true, false}
use native.Mathlib.Nat.{add-zero}
use lib.ListN.{length}
use Rattle.buffer.proofs.Parts.{rest}
use Rattle.receiver.specs.Report.{Report}
use Rattle.receiver.specs.declared.State.{State}
use Rattle.std.specs.Prelude.{Some, None, is_some}
use Rattle.receiver.specs.declared.Received.{Received}
use Rattle.receiver.specs.declared.Place.{Place}
use Rattle.receiver.specs.declared.Place.TheVariants as place
use Rattle.receiver.specs.State.{place_of}
use Rattle.receiver.specs.Step.{block_with, absorbed, stored, size, on_byte, Chunked, Running, Fed}
use Rattle.receiver.proofs.Machine as machine
use Rattle.receiver.proofs.Scan.{bare, machine_feed}
use Rattle.receiver.proofs.Gathers as gathers
use Rattle.receiver.proofs.Gathered.{stages}
use Rattle.receiver.proofs.Live.{RefusedFor, chunk-after, inside_of}
use Rattle.receiver.proofs.Feeding as feeding

abbrev pub lasting : feeding.Lasting stages
lasting = record { Running = Running; RefusedFor = RefusedFor; unfilled = inside_of; keeps = chunk-after }

abbrev pub Midway : List ℕ → List ℕ → State → List ℕ → State → ℕ → Type 0
Midway = feeding.Midway lasting

abbrev pub Turn : List ℕ → List ℕ → State → List ℕ → State → ℕ → Received → List ℕ → Type 0
Turn piece store₀ st₀ store st at o store' = feeding.Turn lasting piece store₀ st₀ store st at o.taken (record { state = o.state; store = store'; report = o.report })

pub turn : {piece store₀ : List ℕ} {st₀ : State} {store : List ℕ} {st : State} {at : ℕ} {o : Received} {store' : List ℕ} → Midway piece store₀ st₀ store st at → at < length piece
    → Chunked st store (rest piece at) o store' → length store' ≡ length store → Turn piece store₀ st₀ store st at o store'
turn m l c e = record { midway = m; some = l; taken = c.taken; step = ap bare c.step; kept = e }

-- the machine's answer is the receiver's
fed : {st : State} {s piece : List ℕ} {o : Received} {s' : List ℕ}
    → machine.feed (gathers.byte_step stages) st s piece ≡ record { state = o.state; taken = o.taken; report = o.report; store = s' } → Fed st s piece o s'
unfolding on_byte
fed {st} {s} {piece} e =
    let a = sym (machine_feed st s piece ∙ e) in
    record {
      received = ap (λ (x : machine.Answer State). record { state = x.state; taken = x.taken; report = x.report }) a;
      store = ap (λ (x : machine.Answer State). x.store) a;
    }

-- so far: midway while there is no report, and done with one
module _ (piece store₀ : List ℕ) (st₀ : State) where
  abbrev far_by : Report → State → List ℕ → ℕ → Type 0
  far_by None st store at = Midway piece store₀ st₀ store st at
  far_by (Some w) st store at = Fed st₀ store₀ piece (record { state = st; taken = at; report = Some w }) store

  abbrev pub Far : Received → List ℕ → Type 0
  Far r store = far_by r.report r.state store r.taken

  by_report : {store : List ℕ} {st : State} {at : ℕ} {o : Received} {store' : List ℕ} (r : Report) → o.report ≡ r → Turn piece store₀ st₀ store st at o store'
      → far_by r o.state store' (at + o.taken)
  by_report None e t = feeding.again t (rw e)
  by_report (Some w) e t = let f = fed (feeding.reported t (rw e)) in rw e at f

  pub onward : {store : List ℕ} {st : State} {at : ℕ} {o : Received} {store' : List ℕ} → Turn piece store₀ st₀ store st at o store'
      → Far (record { state = o.state; taken = at + o.taken; report = o.report }) store'
  onward {o = o} t = by_report o.report refl t

  midway_by : (r : Report) (st : State) (store : List ℕ) (at : ℕ) → is_some r ≡ false → far_by r st store at → Midway piece store₀ st₀ store st at
  midway_by None st store at e f = f
  midway_by (Some w) st store at e f = cc

  pub midway : (r : Received) (store : List ℕ) → is_some r.report ≡ false → Far r store → Midway piece store₀ st₀ store r.state r.taken
  midway r store e f = midway_by r.report r.state store r.taken e f

  reported_by : (r : Report) (st : State) (store : List ℕ) (at : ℕ) → is_some r ≡ true → far_by r st store at → Fed st₀ store₀ piece (record { state = st; taken = at; report = r }) store
  reported_by None st store at e f = cc
  reported_by (Some w) st store at e f = f

  pub reported : (r : Received) (store : List ℕ) → is_some r.report ≡ true → Far r store → Fed st₀ store₀ piece r store
  reported r store e f = reported_by r.report r.state store r.taken e f

  finished_by : (r : Report) (st : State) (store : List ℕ) (at : ℕ) → length piece ≤ at → far_by r st store at → Fed st₀ store₀ piece (record { state = st; taken = at; report = r }) store
  finished_by None st store at l m = fed (feeding.finished lasting m l)
  finished_by (Some w) st store at l f = f

  pub finished : (r : Received) (store : List ℕ) → length piece ≤ r.taken → Far r store → Fed st₀ store₀ piece r store
  finished r store l f = finished_by r.report r.state store r.taken l f

-- ---- a piece that does not end the stage

block_none : (p : Place) (got : ℕ) (b : List ℕ) → block_with p got b [] ≡ b
block_none place.Block got b = refl
block_none place.Store got b = refl
block_none place.Nowhere got b = refl

absorbed-none : (st : State) → absorbed st [] ≡ st
absorbed-none st = let p = st.position in rw (add-zero p.got, block_none (place_of p.stage) p.got p.block)

pub held-piece : (st : State) (s piece : List ℕ) → st.position.got + length piece < size st
    → Fed st s piece (record { state = absorbed st piece; taken = length piece; report = None }) (stored st s piece)
held-piece st s piece l = fed (feeding.held stages absorbed-none st s piece l)
