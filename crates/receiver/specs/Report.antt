-- What a call reports: an event of the stream, or nothing yet, where more bytes are wanted.
use Rattle.std.specs.Prelude.{Option}
use Rattle.stream.specs.declared.Event.{Event}

abbrev pub Report : Type 0
Report = Option Event
