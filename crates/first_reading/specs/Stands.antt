-- What the first reading says where it has ended.
use Rattle.std.specs.Prelude.{◌+◌, eqb}
use Rattle.hex_lines.specs.Choose.{pick}
use Rattle.line_steps.specs.declared.stand.Stand.{Stand}
use Rattle.first_reading.specs.Reading.{Reading}
use Rattle.first_reading.specs.Reading.{Accepted, Refused}

abbrev pub reading_of : Stand → Reading
reading_of s = pick (eqb s.fault 0) (Accepted s.n s.c) (Refused s.fault (s.n + 1))
