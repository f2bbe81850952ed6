use Rattle.handshake_cases.proofs.put_state.Goals as goal

pub returns-in-Hello : goal.returns-in-Hello
returns-in-Hello c = rw c.in-Hello.is c.word.ensures

pub returns-in-Auth : goal.returns-in-Auth
returns-in-Auth c = rw c.in-Auth.is c.word-in-Auth.ensures

pub returns-in-More : goal.returns-in-More
returns-in-More c = rw c.in-More.is c.word-in-More.ensures

pub returns-in-Signature : goal.returns-in-Signature
returns-in-Signature c = rw c.in-Signature.is c.word-in-Signature.ensures

pub returns-in-Session : goal.returns-in-Session
returns-in-Session c = rw c.in-Session.is c.word-in-Session.ensures

pub returns-in-Ready : goal.returns-in-Ready
returns-in-Ready c = rw c.in-Ready.is c.word-in-Ready.ensures

pub returns-in-Closed : goal.returns-in-Closed
returns-in-Closed c = rw c.in-Closed.is c.word-in-Closed.ensures

pub returns-in-Wait : goal.returns-in-Wait
returns-in-Wait c = rw c.in-Wait.is c.word-in-Wait.ensures

pub returns-in-Standby : goal.returns-in-Standby
returns-in-Standby c = rw c.in-Standby.is c.word-in-Standby.ensures
