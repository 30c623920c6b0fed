-- Where a line stands in its buffer.
-- Assumes nothing.
use Rattle.std.specs.Prelude.{◌+◌, ◌≤◌}
use Rattle.text.specs.declared.input.Line.{Line}
use Rattle.text.specs.declared.input.Line.TheVariants.{Text, TooLong, Nothing}

-- a text has at most the bytes that a line may have, and stands in the buffer
abbrev pub Fits : Line → Type 0
Fits (Text start end) = (start ≤ end) × (end ≤ 131200) × (end ≤ start + 65600)
Fits TooLong = Unit {0}
Fits Nothing = Unit {0}
