use mathlib.Core.Path.{◌≡◌, ◌∙◌, sym, ap}
use mathlib.Core.List.{List}
use Prim.Native.Nat.{ℕ}
use lib.ListN.{get_or}
use Rattle.abi_receiver.specs.Words.{abi_state}
use Rattle.abi_connection.specs.Secure.{abi_secure}
use Rattle.abi_connection.specs.Words.{connected, abi_connection}
use Rattle.abi_connection.proofs.Calls.{unusable, is-usable, crc-given, secure_given}
use Rattle.abi_connection.proofs.abi_receive.Goals as goal

pub returns-then-not-is_usable : goal.returns-then-not-is_usable
returns-then-not-is_usable c =
    let z = c.args in
    let u = c.is_usable in
    let p = abi_connection z.link.now z.numbers.now z.block.now z.sealed.now z.first.now z.key.now z.nonce.now in
    record {
      kind = sym (ap (λ (l : List ℕ). get_or l 0 0) c.contradicts.ensures);
      answered = unusable p z.store.now z.piece.now _ (sym u.ensures ∙ c.if-not-is_usable.true) c.contradicts.ensures;
    }

pub returns-then-mode-eq0 : goal.returns-then-mode-eq0
returns-then-mode-eq0 c =
    let z = c.args in
    let u = c.is_usable in
    let o = c.abi_receive-kind in
    let x = abi_secure z.sealed.now z.first.now z.key.now z.nonce.now in
    let y = abi_state z.numbers.now z.block.now in
    let e : get_or z.link.now 0 0 ≡ 0 = c.if-mode-eq0.true in
    let p = connected (get_or z.link.now 0 0) (get_or z.link.now 1 0) y x in
    let h = is-usable p (sym u.ensures ∙ c.if-not-is_usable.false) in
    crc-given z.link.now y x z.store.now z.piece.now _ _ _ _ e h o.ensures c.ready_after.ensures

pub returns : goal.returns
returns c =
    let z = c.args in
    let u = c.is_usable in
    let o = c.secure_receive in
    let x = abi_secure z.sealed.now z.first.now z.key.now z.nonce.now in
    let y = abi_state z.numbers.now z.block.now in
    let p = connected (get_or z.link.now 0 0) (get_or z.link.now 1 0) y x in
    let h = is-usable p (sym u.ensures ∙ c.if-not-is_usable.false) in
    secure_given z.link.now y x z.store.now z.piece.now _ _ _ c.if-mode-eq0.false h o.ensures
