-- Demand 2 of sealed frames by C, from that of the two ends.
use mathlib.Core.Path.{◌≡◌, refl, sym, ap, subst, ◌∙◌}
use mathlib.Core.List.{List, [], ◌∷◌, ◌++◌}
use mathlib.Core.Bool.{Bool, true, false, cond}
use Prim.Native.Nat.{ℕ, ◌+◌}
use Rattle.refusal.specs.Refusals.{Judged, fine, refused, contradiction}
use Rattle.refusal.proofs.Booleans.{wrong}
use Rattle.banner.specs.declared.Revision.{Revision}
use Rattle.sealed_builder.specs.Build.{fresh_sending}
use Rattle.connection.specs.Step.{judge_switch, switched_state, switched_sending, SwitchedWith}
use Rattle.sealed_ends.specs.Handed.{SealedHandedOver}
use Rattle.sealed_ends.specs.Trip.{Accepts, bytes_of, SealedRoundTrip}
use Rattle.sealed_ends.specs.Fronts.{bytes_in}
use Rattle.sealed_ends.specs.Ends.{Queued, buffer_at, queued_at, sent_by, SwitchedLinked, SealedTwoEnds}
use Rattle.abi.specs.Words.{revision_by_number}
use Rattle.abi.proofs.Headers.{header-fits}
use Rattle.abi_connection.specs.Words.{AbiConnection, connection_of, fits, AbiSending, sending_words, judge_words}
use Rattle.mahuixen.specs.Nonces.{AbiBuild, written_by, sending_behind, sending_in, build_of}
use Rattle.mahuixen.specs.Sealed.{AbiAcceptsSealed, AbiQueuedSealed, builds_of, AbiSwitchedLink, made_by, link_of, AbiSwitchedLinked, AbiSealedDemand2}
use Rattle.mahuixen.proofs.Demands.{linked}
use Rattle.mahuixen.proofs.Switches.{of_calls}
use Rattle.mahuixen.proofs.Nonces.{sent, made-fine, made-sends}

-- ---- builds

accepts : (x : AbiSending) (b : AbiBuild) → AbiAcceptsSealed x b → Accepts (sending_in x) (build_of x.key b)
accepts x b a = record { promised = sent x b a.promised a.accepted; wrote = refl; header = header-fits 0 b.header }

queued_in : (x : AbiSending) (buf : List ℕ) (queued : ℕ) (bs : List AbiBuild) → AbiQueuedSealed x buf queued bs → Queued (sending_in x) buf queued (builds_of x.key bs)
queued_in x buf queued [] q = tt
queued_in x buf queued (b ∷ bs) q = (accepts x b q.0, q.1, q.2, queued_in (sending_behind x b) b.sealed.buffer (queued + written_by b) bs q.3)

-- from a switch on
queued-fresh : (key nonce buf : List ℕ) (queued : ℕ) (bs : List AbiBuild) → AbiQueuedSealed (sending_words (fresh_sending key nonce)) buf queued bs
    → Queued (fresh_sending key nonce) buf queued (builds_of key bs)
unfolding fresh_sending
queued-fresh key nonce buf queued bs q = queued_in (sending_words (fresh_sending key nonce)) buf queued bs q

-- ---- the switch

fine-inside : (p : AbiConnection) (t : Bool) → fits p ≡ t → judge_words p ≡ fine → judge_switch (connection_of p) ≡ fine
unfolding judge_words
fine-inside p true f e = sym (ap (λ (b : Bool). cond b (judge_switch (connection_of p)) (refused contradiction)) f) ∙ e
fine-inside p false f e = never (sym (ap (λ (b : Bool). cond b (judge_switch (connection_of p)) (refused contradiction)) f) ∙ e)
  where
    is-fine : Judged → Bool
    is-fine fine = true
    is-fine (refused n) = false

    never : refused contradiction ≡ fine → judge_switch (connection_of p) ≡ fine
    never u = wrong (ap is-fine u)

switched_in : (l : AbiSwitchedLink) → judge_switch (connection_of l.state) ≡ fine → SwitchedWith (connection_of l.state) l.key l.receiving l.sending (made_by l).switched
switched_in l e = record {
  judgement = sym e;
  state = ap (λ (j : Judged). switched_state j (connection_of l.state) l.key l.receiving) (sym e);
  sends = ap (λ (j : Judged). switched_sending j l.key l.sending) (sym e);
}

linked_in : (revision : ℕ) (l : AbiSwitchedLink) → AbiSwitchedLinked revision l → SwitchedLinked (revision_by_number revision) (link_of l)
linked_in revision l a =
    let e = made-fine l.state l.key l.receiving l.sending l.switched a.switch a.made in
    let s = made-sends l.state l.key l.receiving l.sending l.switched a.switch a.made in
    record {
      crc = linked revision l.crc a.crc;
      some = a.some;
      switch = switched_in l (fine-inside l.state (fits l.state) refl e);
      made = refl;
      builds = queued-fresh l.key l.sending (buffer_at (link_of l)) (queued_at (link_of l)) l.builds
          (subst (λ (x : AbiSending). AbiQueuedSealed x (buffer_at (link_of l)) (queued_at (link_of l)) l.builds) s a.builds);
    }

-- ---- the claim

pub sealed_in_c : SealedHandedOver → SealedRoundTrip → SealedTwoEnds → AbiSealedDemand2
unfolding SealedRoundTrip SealedTwoEnds
sealed_in_c handed trip two = record {
  handed = λ own n p q store revision F X g ps h.
      (let at = handed.behind own store revision F X g in
      of_calls _ own n p q (bytes_in F ++ X) store ps h (λ cs chain e. (at.taken cs chain e, at.reports cs chain e)));
  trip = λ own n p q store revision F g x b a k m room fit later ps h.
      of_calls _ own n p q (bytes_in F ++ bytes_of (build_of x.key b) ++ later) store ps h
      (trip own store revision F g (sending_in x) (build_of x.key b) (accepts x b a) k m room fit later);
  ends = λ own n p q store revision l e a o f room fit later ps h.
      of_calls _ own n p q (sent_by (link_of l) ++ later) store ps h
      (two own store (link_of l) (subst (λ (r : Revision). SwitchedLinked r (link_of l)) e (linked_in revision l a)) o f room fit later);
}
