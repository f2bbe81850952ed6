use Rattle.connection_cases.proofs.lines.print_event.Goals as goal

pub returns-in-Banner : goal.returns-in-Banner
returns-in-Banner c = rw c.in-Banner.is c.print_banner.ensures

pub returns-in-First : goal.returns-in-First
returns-in-First c = rw c.in-First.is c.print_frame.ensures

pub returns-in-Frame : goal.returns-in-Frame
returns-in-Frame c = rw c.in-Frame.is c.print_frame-in-Frame.ensures

pub returns-in-Dropped : goal.returns-in-Dropped
returns-in-Dropped c = rw c.in-Dropped.is c.print_frame-in-Dropped.ensures

pub returns-in-Refused : goal.returns-in-Refused
returns-in-Refused c = rw c.in-Refused.is c.print_call_refused.ensures
