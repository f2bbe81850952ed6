-- A whole stream: its banner, met by our features, and the frames behind it.
use Prim.Native.Nat.{ℕ, ◌+◌, ◌-◌, ◌≤◌}
use mathlib.Core.List.{List, ◌++◌}
use mathlib.Core.Path.{◌≡◌, ap, ◌∙◌}
use native.Mathlib.Omega.{arith}
use lib.ListN.{length, take, drop, length-append, length-drop}
use lib.Seq.{take-append-le, drop-append-le}
use borrow.Author.Tests.{lt-ltb, le-ltb}
use Rattle.refusal.specs.Refusals.{fine}
use Rattle.refusal.proofs.Booleans.{by_less}
use Rattle.refusal.proofs.Judgements.{by_judgement_lem}
use Rattle.banner.specs.declared.Features.{Features}
use Rattle.banner.specs.declared.Revision.{Revision}
use Rattle.banner.specs.Banner.{judge_own, judge_magic, judge_length, judge_features, revision_of}
use Rattle.banner.proofs.Lengths.{long-enough}
use Rattle.stream.specs.declared.Event.TheVariants.{Banner}
use Rattle.stream.specs.Stream.{Trace, after, frames, payload_of, peer_of, stream_trace, trace_of}
use Rattle.stream.proofs.Laws.{more-payload, more-peer}
use Rattle.ends.specs.Handed.{UpTo}
use Rattle.ends.proofs.FrameReader.{behind, concatenate}
use Rattle.ends.proofs.Concatenation.{crc_reader}

-- the banner at the front of a stream is there and fits our features
pub record Met (own : Features) (F : List ℕ) : Type 0 where
  pub ours : judge_own own.supported own.required ≡ fine
  pub eight : 8 ≤ length F
  pub magic : judge_magic (take 8 F) ≡ fine
  pub ten : 10 ≤ length F
  pub payload : judge_length (payload_of F) ≡ fine
  pub all : 10 + payload_of F ≤ length F
  pub features : judge_features own.supported own.required (peer_of F).supported (peer_of F).required ≡ fine

abbrev pub spoken : Features → List ℕ → Revision
spoken own F = revision_of own.supported (peer_of F).supported

pub met-trace : (own : Features) (F s : List ℕ) → Met own F
    → trace_of own F s ≡ after (Banner (peer_of F) (spoken own F)) (10 + payload_of F) s (frames (length F) (spoken own F) (10 + payload_of F) (drop (10 + payload_of F) F) s)
unfolding trace_of stream_trace
met-trace own F s m =
    rw (m.ours, le-ltb (length F) 8 m.eight, m.magic, le-ltb (length F) 10 m.ten, m.payload, le-ltb (length F) (10 + payload_of F) m.all, m.features)

pub met-long : (own : Features) (F : List ℕ) → Met own F → 26 ≤ length F
met-long own F m = let a = m.all in let l = long-enough (payload_of F) m.payload in omega arith

-- the same with more bytes behind it
module _ (own : Features) (F X : List ℕ) (m : Met own F) where
  pub met-more : Met own (F ++ X)
  met-more =
      let a = length-append F X in
      record {
        ours = m.ours;
        eight = (let e = m.eight in omega arith);
        magic = rw (take-append-le 8 F X m.eight) m.magic;
        ten = (let e = m.ten in omega arith);
        payload = rw (more-payload F X m.ten) m.payload;
        all = rw (more-payload F X m.ten) (let e = m.all in omega arith);
        features = ap (λ (q : Features). judge_features own.supported own.required q.supported q.required) (more-peer F X (met-long own F m)) ∙ m.features;
      }

-- a list that goes up to the end of a frame begins with such a banner
module _ (own : Features) (F s : List ℕ) (r : Revision) (n : ℕ) (up : UpTo r n (trace_of own F s).entries) where
  abbrev L : ℕ
  L = payload_of F

  abbrev p : Features
  p = peer_of F

  pub up-met : Met own F
  unfolding trace_of stream_trace
  up-met =
      by_judgement_lem (judge_own own.supported own.required)
      (λ o. by_less (length F) 8 (λ l. absurd (rw (o, lt-ltb (length F) 8 l) at up))
      (λ e.
      let e₁ = le-ltb (length F) 8 e in
      by_judgement_lem (judge_magic (take 8 F))
      (λ m. by_less (length F) 10 (λ l. absurd (rw (o, e₁, m, lt-ltb (length F) 10 l) at up))
      (λ t.
      let e₂ = le-ltb (length F) 10 t in
      by_judgement_lem (judge_length L)
      (λ y. by_less (length F) (10 + L) (λ l. absurd (rw (o, e₁, m, e₂, y, lt-ltb (length F) (10 + L) l) at up))
      (λ a. by_judgement_lem (judge_features own.supported own.required p.supported p.required)
      (λ q. record { ours = o; eight = e; magic = m; ten = t; payload = y; all = a; features = q })
      (λ x q. absurd (rw (o, e₁, m, e₂, y, le-ltb (length F) (10 + L) a, q) at up))))
      (λ x q. absurd (rw (o, e₁, m, e₂, q) at up))))
      (λ x q. absurd (rw (o, e₁, q) at up))))
      (λ x q. absurd (rw q at up))

-- X behind a front F that ends where a frame does
pub record Follows (own : Features) (F X s : List ℕ) (r : Revision) : Type 0 where
  pub ours : judge_own own.supported own.required ≡ fine
  pub follows : (k : ℕ) → length X ≤ k → trace_of own (F ++ X) s ≡ behind (trace_of own F s).entries (frames k r (length F) X (trace_of own F s).store)
  pub same : length (trace_of own F s).store ≡ length s

pub follows_on : (own : Features) (F X s : List ℕ) (r : Revision) → UpTo r (length F) (trace_of own F s).entries → Follows own F X s r
follows_on own F X s r up =
    let m = up-met own F s r (length F) up in
    let n : ℕ = 10 + payload_of F in
    let e = met-trace own F s m in
    let e' = met-trace own (F ++ X) s (met-more own F X m) in
    let u = rw e at up in
    let d : length (drop n F) ≡ length F - n = length-drop n F in
    let l : n + length (drop n F) ≡ length F = (let a = m.all in omega arith) in
    let g = concatenate crc_reader (length F) (spoken own F) n (drop n F) s (omega arith) (rw l u.1) in
    let a = length-append F X in
    let a₂ = length-append (drop n F) X in
    let v : spoken own (F ++ X) ≡ spoken own F = ap (λ (q : Features). revision_of own.supported q.supported) (more-peer F X (met-long own F m)) in
    record {
      ours = m.ours;
      follows = λ k hk.
          rw (more-payload F X m.ten, v, more-peer F X (met-long own F m), drop-append-le n F X m.all) at e'
          ∙ ap (after (Banner (peer_of F) (spoken own F)) n s) (g.joins.reads (length (F ++ X)) k X (omega arith) hk)
          ∙ rw (e, l, u.0);
      same = ap (λ (t : Trace). length t.store) e ∙ g.same;
    }
