use mathlib.Core.Path.{sym, ◌∙◌}
use Rattle.abi_receiver.specs.Words.{abi_state}
use Rattle.abi_connection.specs.Secure.{abi_secure}
use Rattle.abi_connection.specs.Words.{abi_connection}
use Rattle.abi_connection.proofs.Agreeing.{disagrees, crc-agrees-given, secure_agrees-given}
use Rattle.abi_connection.proofs.agrees.Goals as goal

pub returns-then-not-is_usable : goal.returns-then-not-is_usable
returns-then-not-is_usable c =
    let z = c.args in
    let u = c.is_usable in
    disagrees (abi_connection z.link z.numbers z.block z.sealed z.first z.key z.nonce) (sym u.ensures ∙ c.if-not-is_usable.true)

pub returns-then-link-eq0 : goal.returns-then-link-eq0
returns-then-link-eq0 c =
    let z = c.args in
    let u = c.is_usable in
    crc-agrees-given z.link (abi_state z.numbers z.block) (abi_secure z.sealed z.first z.key z.nonce) _ c.if-link-eq0.true (sym u.ensures ∙ c.if-not-is_usable.false) c.crc_agrees.ensures

pub returns : goal.returns
returns c =
    let z = c.args in
    let u = c.is_usable in
    secure_agrees-given z.link (abi_state z.numbers z.block) (abi_secure z.sealed z.first z.key z.nonce) _ c.if-link-eq0.false (sym u.ensures ∙ c.if-not-is_usable.false) c.secure_agrees.ensures
