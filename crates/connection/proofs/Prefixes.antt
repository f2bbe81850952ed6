-- The entries of a stream's first bytes are the first of its entries: with the same switch, more bytes add entries behind those, and change none.
use mathlib.Core.Path.{◌≡◌, refl, sym, ap, ◌∙◌}
use mathlib.Core.List.{List, [], ◌∷◌, ◌++◌}
use mathlib.Core.Bool.{cond, ◌&&◌}
use Prim.Native.Nat.{ℕ, zero, suc, ◌+◌, ◌-◌, ◌≤◌}
use native.Mathlib.Omega.{arith}
use native.Mathlib.Nat.{add-zero, zero-add}
use lib.ListN.{length, take, drop}
use lib.Seq.{take-take}
use lib.Dec.{leb, eqb}
use borrow.Author.Tests.{leb-true, le-leb, lt-leb}
use Rattle.buffer.proofs.Parts.{drop-take}
use Rattle.refusal.specs.Refusals.{no_refusal}
use Rattle.refusal.proofs.Booleans.{at_test, at_cond}
use Rattle.refusal.proofs.Judgements.{by_judgement_lem}
use Rattle.banner.specs.declared.Features.{Features}
use Rattle.banner.specs.Banner.{judge_own}
use Rattle.stream.specs.Stream.{Entry, Trace, trace_of}
use Rattle.receiver.specs.Report.{Report}
use Rattle.std.specs.Prelude.{Some, None}
use Rattle.receiver.specs.declared.Stage.TheVariants as stage
use Rattle.receiver.specs.Step.{at, only_own}
use Rattle.receiver.proofs.Entries.{noted, Behind}
use Rattle.receiver.proofs.Machine.{Stepped, scan, scan-behind}
use Rattle.receiver.proofs.Scan.{byte_step}
use Rattle.receiver.proofs.Streams.{stream-trace}
use Rattle.sealed_receiver.specs.Step.{switched}
use Rattle.receiver.proofs.Gathers as gathers
use Rattle.sealed_receiver.proofs.Gathered.{parts}
use Rattle.sealed_receiver.proofs.Traces.{sealed-trace}
use Rattle.secure.specs.Reading.{sealed_trace}
use Rattle.connection.specs.Switched.{Switch, none, behind, ends_frame, spliced, trace_with}

-- the entries up to byte t
abbrev pub up_to : ℕ → List Entry → List Entry
up_to t [] = []
up_to t (e ∷ es) = cond (leb e.at t) (e ∷ up_to t es) []

-- the others are behind them
pub behind-first : (t : ℕ) (es : List Entry) → es ≡ up_to t es ++ drop (length (up_to t es)) es
behind-first t [] = refl
behind-first t (e ∷ es) = at_cond (λ l. e ∷ es ≡ l ++ drop (length l) (e ∷ es)) (leb e.at t) (ap (λ (l : List Entry). e ∷ l) (behind-first t es)) refl

none_yet : (t : ℕ) (es : List Entry) → Behind t es → up_to t es ≡ []
none_yet t [] h = refl
none_yet t (e ∷ es) h = rw (lt-leb e.at t h)

noted-first : (r : Report) (P k : ℕ) (s : List ℕ) (es : List Entry) → up_to (P + suc k) (noted r (suc P) s es) ≡ noted r (suc P) s (up_to (suc P + k) es)
noted-first None P k s es =
    let q : P + suc k ≡ suc P + k = omega arith in
    rw q
noted-first (Some e) P k s es =
    let q : P + suc k ≡ suc P + k = omega arith in
    let l : suc P ≤ suc P + k = omega arith in
    ap (λ (n : ℕ). up_to n (noted (Some e) (suc P) s es)) q ∙ rw (le-leb (suc P) (suc P + k) l)

scan-first : {A : Type 0} (step : A → List ℕ → ℕ → Stepped A) (x : A) (s : List ℕ) (P k : ℕ) (bs : List ℕ) → (scan step x s P (take k bs)).entries ≡ up_to (P + k) (scan step x s P bs).entries
unfolding scan
scan-first step x s P zero bs = sym (ap (λ (t : ℕ). up_to t (scan step x s P bs).entries) (add-zero P) ∙ none_yet P (scan step x s P bs).entries (scan-behind step x s P bs))
scan-first step x s P (suc k) [] = refl
scan-first step x s P (suc k) (b ∷ bs) =
    let y = step x s b in
    ap (noted y.report (suc P) y.store) (scan-first step y.state y.store (suc P) k bs)
    ∙ sym (noted-first y.report P k y.store (scan step y.state y.store (suc P) bs).entries)

pub crc-first : (own : Features) (bytes store : List ℕ) (t : ℕ) → (trace_of own (take t bytes) store).entries ≡ up_to t (trace_of own bytes store).entries
unfolding trace_of
crc-first own bytes store t =
    let x = at stage.Magic 0 (only_own own no_refusal) in
    by_judgement_lem (judge_own own.supported own.required)
    (λ e. rw e
    (ap (λ (y : Trace). y.entries) (sym (stream-trace own (take t bytes) store))
    ∙ scan-first byte_step x store 0 t bytes
    ∙ ap (λ (n : ℕ). up_to n (scan byte_step x store 0 bytes).entries) (zero-add t)
    ∙ ap (λ (y : Trace). up_to t y.entries) (stream-trace own bytes store)))
    (λ n e. rw e)

sealed-first : (key nonce : List ℕ) (P k : ℕ) (bytes s : List ℕ) → (sealed_trace key nonce 0 P (take k bytes) s).entries ≡ up_to (P + k) (sealed_trace key nonce 0 P bytes s).entries
sealed-first key nonce P k bytes s =
    ap (λ (y : Trace). y.entries) (sym (sealed-trace key nonce P (take k bytes) s))
    ∙ scan-first (gathers.byte_step parts) (switched key nonce) s P k bytes
    ∙ ap (λ (y : Trace). up_to (P + k) y.entries) (sealed-trace key nonce P bytes s)

module _ (key nonce bytes : List ℕ) (t : ℕ) where
  abbrev next : List ℕ → ℕ → List ℕ → Trace
  next l at s = sealed_trace key nonce 0 at (drop at l) s

  next-first : (at : ℕ) (s : List ℕ) → at ≤ t → (next (take t bytes) at s).entries ≡ up_to t (next bytes at s).entries
  next-first at s h =
      let e : at + (t - at) ≡ t = omega arith in
      ap (λ (n : ℕ). (next (take n bytes) at s).entries) (sym e)
      ∙ ap (λ (l : List ℕ). (sealed_trace key nonce 0 at l s).entries) (drop-take at (t - at) bytes)
      ∙ sealed-first key nonce at (t - at) (drop at bytes) s
      ∙ ap (λ (n : ℕ). up_to n (next bytes at s).entries) e

  spliced-first : (n : ℕ) (es : List Entry) (s s' : List ℕ) → (spliced n (next (take t bytes)) (up_to t es) s').entries ≡ up_to t (spliced n (next bytes) es s).entries
  unfolding spliced
  spliced-first n [] s s' = refl
  spliced-first n (e ∷ es) s s' =
      let m = cond (ends_frame e.event) (n - 1) n in
      let x = next bytes e.at e.store in
      let x' = next (take t bytes) e.at e.store in
      let y = spliced m (next bytes) es s in
      let y' = spliced m (next (take t bytes)) (up_to t es) s' in
      at_test (λ b. (spliced n (next (take t bytes)) (cond b (e ∷ up_to t es) []) s').entries ≡ cond b (e ∷ up_to t (cond (ends_frame e.event && eqb n 1) x y).entries) []) (leb e.at t)
      (λ h. ap (λ (l : List Entry). e ∷ l)
      (at_test (λ c. (cond c x' y').entries ≡ up_to t (cond c x y).entries) (ends_frame e.event && eqb n 1)
      (λ _. next-first e.at e.store (leb-true e.at t h)) (λ _. spliced-first m es s s')))
      (λ h. refl)

-- of all bytes
pub trace-first : (sw : Switch) (own : Features) (bytes store : List ℕ) (t : ℕ) → (trace_with sw own (take t bytes) store).entries ≡ up_to t (trace_with sw own bytes store).entries
trace-first none own bytes store t = crc-first own bytes store t
trace-first (behind n key nonce) own bytes store t =
    ap (λ (es : List Entry). (spliced n (next key nonce bytes t (take t bytes)) es (trace_of own (take t bytes) store).store).entries) (crc-first own bytes store t)
    ∙ spliced-first key nonce bytes t n (trace_of own bytes store).entries (trace_of own bytes store).store (trace_of own (take t bytes) store).store

-- of more of them
pub trace-earlier : (sw : Switch) (own : Features) (bytes store : List ℕ) (t t' : ℕ) → t ≤ t'
    → (trace_with sw own (take t bytes) store).entries ≡ up_to t (trace_with sw own (take t' bytes) store).entries
trace-earlier sw own bytes store t t' h =
    ap (λ (l : List ℕ). (trace_with sw own l store).entries) (sym (take-take t t' bytes h)) ∙ trace-first sw own (take t' bytes) store t
