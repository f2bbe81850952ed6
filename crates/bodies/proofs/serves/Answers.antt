use Rattle.std.proofs.Common.{arith, eq-eqb, ne_eqb}
use Rattle.bodies.proofs.Tags.{serves_more, serves_stamp, first_of_two, second_of_two}
use Rattle.bodies.proofs.serves.Goals as goal

pub returns-then-tag : goal.returns-then-tag
returns-then-tag c = rw c.in-More.is (first_of_two _ _ (serves_more c.args.tag (omega arith)) (eq-eqb c.args.tag 4 c.if-tag.true))

pub returns-else-tag : goal.returns-else-tag
returns-else-tag c = rw c.in-More.is (second_of_two _ _ (serves_more c.args.tag (omega arith)) (ne_eqb c.args.tag 4 c.if-tag.false))

pub returns-then-tag-5 : goal.returns-then-tag-5
returns-then-tag-5 c = rw c.in-Stamp.is (first_of_two _ _ (serves_stamp c.args.tag (omega arith)) (eq-eqb c.args.tag 18 c.if-tag-5.true))

pub returns-else-tag-5 : goal.returns-else-tag-5
returns-else-tag-5 c = rw c.in-Stamp.is (second_of_two _ _ (serves_stamp c.args.tag (omega arith)) (ne_eqb c.args.tag 18 c.if-tag-5.false))
