use Rattle.std.proofs.Common.{◌∙◌, arith, rules}
use Rattle.build_cases.proofs.Laws.{sending-refused, sending-made}
use Rattle.build_cases.proofs.sending_of.Statement.{statement}
use Rattle.build_cases.proofs.sending_of.Tie as tie

pub sending_of_spec : {M : Type 1} → statement M
sending_of_spec =
    tie.close
    (tie.spec
    (search rules)
    (search rules)
    (λ c. c.refused_sending.ensures ∙ sending-refused _ c.byte_at.ensures c.if-byte_at-eq1.true)
    (search rules)
    (search rules)
    (search rules)
    (search rules)
    (λ c. c.sending_after.ensures ∙ sending-made _ c.byte_at.ensures c.if-byte_at-eq1.false (c.bytes_at.ensures (omega arith)) (c.bytes_at-2.ensures (omega arith)) c.u64_at.ensures))
